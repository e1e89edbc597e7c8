use Rattle.std.proofs.Common.{◌≡◌, ℕ, ◌+◌, ◌≤◌, true, List, ◌++◌, length, take, Some, IsUtf8, sym, ◌∙◌, subst, arith, rules}
use lib.Utf8.{scalar, encode, encodes}
use Rattle.std.specs.Iterator.Adapters.{rev_source}
use Rattle.std.specs.Str.Iter.{char_indices_rest}
use Rattle.std.specs.Char.{len_utf8}
use Rattle.std.specs.Str.{chars}
use Rattle.texts.specs.Cut.{raised}
use Rattle.texts.proofs.Raises.{Back, back_none, back_more, back_all, back_raise}
use Rattle.texts.proofs.increment.last_raised.Goals as goal

pub loop-at-init : goal.loop-at-init
loop-at-init c =
    let s = c.args.text.now in
    let e : char_indices_rest (rev_source c.into_iter-at-iterator.result) ≡ s = search rules in
    (search rules, subst (Back s) (sym e) (back_none s))

pub returns-in-Some-successor : goal.returns-in-Some-successor
returns-in-Some-successor c =
    let s = c.args.text.now in
    let t = char_indices_rest (rev_source c.next.new.self) in
    let k : scalar c.in-Some.c ≡ true = search rules in
    let u : IsUtf8 s = search rules in
    let a = c.in-Some-successor.ensures in
    let e = c.in-Some.ensures.steps in
    let at : length t ≡ c.in-Some.at = omega (arith, c.loop-at.invariant.0, e.1.1) in
    let r = back_raise s (char_indices_rest (rev_source c.loop-at.at-iterator)) t c.in-Some.c u k e.1.0 a.1 c.loop-at.invariant.1 in
    let P : ℕ → ℕ → Type 0 = λ n d. (rs : List ℕ) × (raised (chars s) ≡ Some rs) × (encodes rs ≡ take n s ++ encode d) × (n + len_utf8 d ≤ length s) in
    subst (λ n. P n c.in-Some-successor.next) at (subst (P (length t)) (sym a.0) r)

pub loop-at-preserved : goal.loop-at-preserved
loop-at-preserved c =
    let k : scalar c.in-Some.c ≡ true = search rules in
    let e = c.in-Some.ensures.steps in (
      e.0 ∙ c.loop-at.invariant.0,
      back_more c.args.text.now (char_indices_rest (rev_source c.loop-at.at-iterator)) (char_indices_rest (rev_source c.next.new.self)) c.in-Some.c k e.1.0 c.in_default.ensures c.loop-at.invariant.1,
    )

pub returns : goal.returns
returns c =
    let u : IsUtf8 c.args.text.now = search rules in
    back_all c.args.text.now (char_indices_rest (rev_source c.loop-at.at-iterator)) u c.in-None.ensures.steps.1.0 c.loop-at.invariant.1
