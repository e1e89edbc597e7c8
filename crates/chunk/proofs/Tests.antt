-- What the tests of a batch answer, by the first that holds.
use Rattle.std.proofs.Common.{◌≡◌, ℕ, ◌+◌, ◌<◌, ◌≤◌, true, false, cond, ltb, List, [], ◌∷◌, ◌++◌, Ok, Err, Result, refl, ◌∙◌}
use Rattle.std.proofs.lemmas.Bool.{cond-true, cond-false, lt-ltb, le-ltb}
use Rattle.pages.specs.declared.fault.PageFault.TheVariants.{Scratch, Levels}
use Rattle.refusals.specs.Refusals.{Test, refuses, tested}
use Rattle.refusals.specs.declared.fault.ChunkFault.{ChunkFault}
use Rattle.refusals.specs.declared.fault.ChunkFault.TheVariants.{Closed, PageWaits, Page as OfPage}
use Rattle.ledger.specs.Pages.{levels}
use Rattle.ledger.specs.Context.{Context, layout, due}
use Rattle.ledger.specs.Batches.{Batch, intake_tests}
use Rattle.ledger.specs.Ledger.{Ledger, is_open}
use Rattle.ledger.specs.Answers.{batch_tests}
use Rattle.intake.specs.Admitting.{admission, intake_of}
use Rattle.intake.specs.declared.intake.Intake.{Intake}
use Rattle.intake.proofs.Tested.{tested_err_append, tested_ok_append, ok_from_ok}

-- the test behind those that a batch meets by itself
abbrev pub levels_test : Ledger → Batch → List Test
levels_test l b = refuses (ltb 1024 (levels l.page + b.count)) (OfPage Levels) ∷ []

module _ (x : Context) (room : ℕ) (l : Ledger) (b : Batch) where
  abbrev whole : Result Intake ChunkFault
  whole = tested (batch_tests x room l b) (Ok (intake_of (layout x) b))

  pub refused_closed : is_open l.phase ≡ false → whole ≡ Err Closed
  refused_closed h = rw h refl

  pub refused_due : is_open l.phase ≡ true → due x l.page ≡ true → whole ≡ Err PageWaits
  refused_due h d = rw h (rw d refl)

  past_due : is_open l.phase ≡ true → due x l.page ≡ false → whole ≡ cond (ltb room 9227) (Err (OfPage Scratch)) (tested (intake_tests (layout x) b ++ (refuses (ltb 1024 (levels l.page + b.count)) (OfPage Levels) ∷ [])) (Ok (intake_of (layout x) b)))
  past_due h d = rw h (rw d refl)

  pub refused_scratch : is_open l.phase ≡ true → due x l.page ≡ false → room < 9227 → whole ≡ Err (OfPage Scratch)
  refused_scratch h d s = past_due h d ∙ cond-true (ltb room 9227) _ _ (lt-ltb room 9227 s)

  past_scratch : is_open l.phase ≡ true → due x l.page ≡ false → 9227 ≤ room → whole ≡ tested (intake_tests (layout x) b ++ (refuses (ltb 1024 (levels l.page + b.count)) (OfPage Levels) ∷ [])) (Ok (intake_of (layout x) b))
  past_scratch h d s = past_due h d ∙ cond-false (ltb room 9227) _ _ (le-ltb room 9227 s)

  pub refused_intake : (e : ChunkFault) → is_open l.phase ≡ true → due x l.page ≡ false → 9227 ≤ room → admission (layout x) b ≡ Err e → whole ≡ Err e
  refused_intake e h d s a = past_scratch h d s ∙ tested_err_append (intake_tests (layout x) b) (levels_test l b) (intake_of (layout x) b) e (Ok (intake_of (layout x) b)) a

  past_intake : (i : Intake) → is_open l.phase ≡ true → due x l.page ≡ false → 9227 ≤ room → admission (layout x) b ≡ Ok i → whole ≡ cond (ltb 1024 (levels l.page + b.count)) (Err (OfPage Levels)) (Ok (intake_of (layout x) b))
  past_intake i h d s a = past_scratch h d s ∙ tested_ok_append (intake_tests (layout x) b) (levels_test l b) (intake_of (layout x) b) i (Ok (intake_of (layout x) b)) a

  pub refused_levels : (i : Intake) → is_open l.phase ≡ true → due x l.page ≡ false → 9227 ≤ room → admission (layout x) b ≡ Ok i → 1024 < levels l.page + b.count → whole ≡ Err (OfPage Levels)
  refused_levels i h d s a f = past_intake i h d s a ∙ cond-true (ltb 1024 (levels l.page + b.count)) _ _ (lt-ltb 1024 (levels l.page + b.count) f)

  pub passed_all : (i : Intake) → is_open l.phase ≡ true → due x l.page ≡ false → 9227 ≤ room → admission (layout x) b ≡ Ok i → levels l.page + b.count ≤ 1024 → whole ≡ Ok i
  passed_all i h d s a f =
      past_intake i h d s a ∙ cond-false (ltb 1024 (levels l.page + b.count)) _ _ (le-ltb 1024 (levels l.page + b.count) f)
      ∙ ok_from_ok (intake_tests (layout x) b) (Ok (intake_of (layout x) b)) i a
