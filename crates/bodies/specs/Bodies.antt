-- The two coders of page bodies, with their numbers in the format.
use Rattle.std.specs.Prelude.{true, false, refl}
use Rattle.body_coder.specs.Body.{Body}
use Rattle.bodies.specs.Splits.{split_coded, split_plain, split_sized, split_unsized, split_back, split_forth}

-- PLAIN, number 0: the bytes as they are
abbrev pub plain_body : Body
plain_body = record {
  number = 0;
  joins = true;
  coded = λ k xs. xs;
  plain = λ k xs. xs;
  sized = λ k xs h. refl;
  unsized = λ k xs h. refl;
  back = λ k xs h. refl;
  forth = λ k xs h. refl;
}

-- BYTE_STREAM_SPLIT, number 9: byte j of value i goes to place j * n + i
abbrev pub split_body : Body
split_body = record {
  number = 9;
  joins = false;
  coded = split_coded;
  plain = split_plain;
  sized = split_sized;
  unsized = split_unsized;
  back = split_back;
  forth = split_forth;
}
