-- One entry more at the end of those that are used: blanks stay behind it.
use Rattle.std.proofs.Common.{ℕ, ◌+◌, ◌-◌, ◌<◌, List, drop, set, replicate, sym, ap, ◌∙◌, arith}
use Rattle.std.proofs.lemmas.List.{length-set, drop-set-lt, drop-drop, drop-replicate}
use Rattle.entries.specs.declared.entry.Entry.{Entry}
use Rattle.entries.specs.Tables.{blank, IsPadded}

pub padded_more : (used : ℕ) (all : List Entry) (e : Entry) → IsPadded used all → used < 64 → IsPadded (used + 1) (set all used e)
padded_more used all e p few = record {
  wide = length-set all used e ∙ p.wide;
  fits = omega arith;
  blanks =
      drop-set-lt (used + 1) all used e (omega arith) ∙ sym (drop-drop 1 used all) ∙ ap (drop 1) p.blanks
      ∙ drop-replicate 1 (64 - used) blank ∙ ap (λ n. replicate n blank) (omega arith);
}
