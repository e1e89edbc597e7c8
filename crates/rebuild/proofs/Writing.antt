-- What calls took that write readings to a chunk and close it, where none was refused: the readings, and the chunk has a record.
use Rattle.std.proofs.Common.{◌≡◌, ℕ, true, List, [], ◌∷◌, Some, None, Ok, Err, Option, take, count_by, nat_eq, refl, ap, ◌∙◌}
use Rattle.sinks.specs.Stores.{StoreMeaning}
use Rattle.sinks.specs.Sinks.{SinkMeaning}
use Rattle.floats.specs.declared.bits.Bits.{Bits}
use Rattle.ledger.specs.Pages.{Page, join}
use Rattle.ledger.specs.Batches.{Batch, levels_at, taken}
use Rattle.ledger.specs.Context.{layout}
use Rattle.ledger.specs.Ledger.{Answer, batched, ended, has_record}
use Rattle.ledger.specs.Runs.{took_all}
use Rattle.chunk.specs.Histories.{History, and_call, and_calls}
use Rattle.runs.specs.Runs.{Threaded}
use Rattle.rebuild.specs.Readings.{readings_page, reading_batch, reading_call, readings_calls, first_refusal}

-- what a batch takes, by the two maxima
abbrev taken_by : ℕ → ℕ → Batch → Page
taken_by r d b = record { reps = levels_at r b.count b.reps; defs = levels_at d b.count b.defs; values = take (count_by (nat_eq d) (levels_at d b.count b.defs)) b.values }

-- a reading takes one level, and its value if it is there
takes_one : (h : Option (Bits ℕ)) → taken_by 0 1 (reading_batch h) ≡ readings_page (h ∷ [])
takes_one None = refl
takes_one (Some v) = refl

-- readings are the first and the others
more : (h : Option (Bits ℕ)) (hs : List (Option (Bits ℕ))) → join (readings_page (h ∷ [])) (readings_page hs) ≡ readings_page (h ∷ hs)
more None hs = refl
more (Some v) hs = refl

module _ {S : Type 0} (m : StoreMeaning S) (w : SinkMeaning S) where
  pub wrote : (hs : List (Option (Bits ℕ))) (h : History) (k : S) (s : List ℕ) (rs : List Answer) (k' : S) (s' : List ℕ)
      → (layout h.context).max_rep_level ≡ 0 → (layout h.context).max_def_level ≡ 1
      → Threaded m w h (readings_calls hs) k s rs k' s' → first_refusal rs ≡ None
      → (took_all (layout h.context) (readings_calls hs) rs ≡ readings_page hs) × (has_record (and_calls h (readings_calls hs) rs).ledger.phase ≡ true)
  wrote [] h k s [] k' s' er ed t n = absurd t
  wrote [] h k s (batched q ∷ rs) k' s' er ed t n = let a = t.1.2.answer in cc
  wrote [] h k s (ended (Err e) ∷ rs) k' s' er ed t n = cc
  wrote [] h k s (ended (Ok p) ∷ []) k' s' er ed t n = (refl, refl)
  wrote [] h k s (ended (Ok p) ∷ (r ∷ rs)) k' s' er ed t n = absurd t.1.3
  wrote (v ∷ hs) h k s [] k' s' er ed t n = absurd t
  wrote (v ∷ hs) h k s (ended q ∷ rs) k' s' er ed t n = let a = t.1.2.answer in cc
  wrote (v ∷ hs) h k s (batched (Err e) ∷ rs) k' s' er ed t n = cc
  wrote (v ∷ hs) h k s (batched (Ok a) ∷ rs) k' s' er ed t n =
      let rest = wrote hs (and_call h (reading_call v) (batched (Ok a))) t.1.0 t.1.1 rs k' s' er ed t.1.3 n in
      let one : taken (layout h.context) (reading_batch v) ≡ readings_page (v ∷ []) = (λ j. taken_by (er j) (ed j) (reading_batch v)) ∙ takes_one v in
      (ap (λ p. join p (took_all (layout h.context) (readings_calls hs) rs)) one ∙ ap (join (readings_page (v ∷ []))) rest.0 ∙ more v hs, rest.1)
