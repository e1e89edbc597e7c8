use Rattle.std.proofs.Common.{◌+◌, ◌≤◌, length, take, drop, IsUtf8, ap, ◌∙◌, subst, arith}
use Rattle.std.proofs.str.Valid.{longer}
use Rattle.std.proofs.lemmas.List.{length-drop, drop-drop, take_rest}
use Rattle.texts.proofs.LeadBytes.{valid_rest}
use Rattle.texts.proofs.valid.is_utf8.Goals as goal

pub loop-length-preserved : goal.loop-length-preserved
loop-length-preserved c =
    let b = c.args.bytes.now in
    let i = c.loop-length.invariant in
    let n = c.in-Some.length in
    let s = c.in-Some.ensures in
    let h : i.0 + n ≤ length b = omega (arith, ap length i.2, length-drop i.0 b, s.1) in
    (i.0 + n, h, take_rest c.loop-length.rest.now n ∙ ap (drop n) i.2 ∙ drop-drop n i.0 b, longer b i.0 n i.3 (subst (λ t. IsUtf8 (take n t)) i.2 s.2))

pub returns : goal.returns
returns c =
    let i = c.loop-length.invariant in
    valid_rest c.args.bytes.now c.loop-length.rest.now i.0 c.is_empty.result i.1 i.2 i.3 c.in_default.ensures c.is_empty.ensures
