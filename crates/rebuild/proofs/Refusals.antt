-- The first refusal of calls in a row is that of the first call, or of those behind it.
use Rattle.std.proofs.Common.{◌≡◌, ℕ, ◌+◌, ◌<◌, true, false, List, ◌++◌, length, get_or, drop, Some, None, Option, sym, refl, ap, ◌∙◌}
use Rattle.std.proofs.lemmas.List.{at_drop_more}
use Rattle.std.specs.Option.{option_or, is_some}
use Rattle.refusals.specs.declared.fault.ChunkFault.{ChunkFault}
use Rattle.floats.specs.declared.bits.Bits.{Bits}
use Rattle.ledger.specs.Ledger.{Answer}
use Rattle.runs.specs.Runs.{answer_of, answer_in, answers_in}
use Rattle.runs.specs.declared.call.Answer.{Answer as Given}
use Rattle.runs.specs.declared.call.Played.{Played}
use Rattle.rebuild.specs.Readings.{refusal_in, first_refusal}

or_none : (o p : Option ChunkFault) → option_or (option_or o None) p ≡ option_or o p
or_none None p = refl
or_none (Some e) p = refl

first_of : (o : Option Given) (rs : List Answer) → first_refusal (answer_in o ++ rs) ≡ option_or (first_refusal (answer_in o)) (first_refusal rs)
first_of None rs = refl
first_of (Some a) rs = sym (or_none (refusal_in (answer_of a)) (first_refusal rs))

-- from a place on
from_place : (ps : List (Played (Bits ℕ))) (i : ℕ) (p : Played (Bits ℕ)) → i < length ps
    → first_refusal (answers_in (drop i ps)) ≡ option_or (first_refusal (answer_in (get_or ps i p).answer)) (first_refusal (answers_in (drop (i + 1) ps)))
from_place ps i p few = at_drop_more (λ qs. first_refusal (answers_in qs)) ps i p few ∙ first_of (get_or ps i p).answer (answers_in (drop (i + 1) ps))

module _ (ps : List (Played (Bits ℕ))) (i : ℕ) (p : Played (Bits ℕ)) (o : Option ChunkFault) where
  -- it is that of a call that was refused
  pub at_place : i < length ps → first_refusal (answers_in ps) ≡ first_refusal (answers_in (drop i ps)) → o ≡ first_refusal (answer_in (get_or ps i p).answer)
      → is_some o ≡ true → o ≡ first_refusal (answers_in ps)
  at_place few before here there = some_or o (first_refusal (answers_in (drop (i + 1) ps))) there ∙ ap (λ q. option_or q (first_refusal (answers_in (drop (i + 1) ps)))) here ∙ sym (from_place ps i p few) ∙ sym before
    where
      some_or : (a b : Option ChunkFault) → is_some a ≡ true → a ≡ option_or a b
      some_or None b h = cc
      some_or (Some e) b h = refl

  -- and else that of those behind
  pub behind : i < length ps → first_refusal (answers_in ps) ≡ first_refusal (answers_in (drop i ps)) → o ≡ first_refusal (answer_in (get_or ps i p).answer)
      → is_some o ≡ false → first_refusal (answers_in ps) ≡ first_refusal (answers_in (drop (i + 1) ps))
  behind few before here none = before ∙ from_place ps i p few ∙ ap (λ q. option_or q (first_refusal (answers_in (drop (i + 1) ps)))) (sym here ∙ none_is o none)
    where
      none_is : (a : Option ChunkFault) → is_some a ≡ false → a ≡ None
      none_is None h = refl
      none_is (Some e) h = cc
