-- The refusals of each call: the order of its tests by computation, and the rest from it.
use Rattle.std.proofs.Common.{◌≡◌, ℕ, zero, suc, Bool, true, false, cond, [], ◌∷◌, ◌++◌, length, eqb, Ok, Err, Result, refl, ap, subst, arith}
use Rattle.std.specs.Prelude.{Contains, slice_index_or}
use Rattle.sinks.specs.Refusals.{Refusal}
use Rattle.refusals.specs.Refusals.{tested, said_chunk, says}
use Rattle.refusals.specs.declared.fault.ChunkFault.{ChunkFault}
use Rattle.refusals.proofs.Numbering.{numbered, refused_says, ok_is}
use Rattle.ledger.specs.Pages.{levels, blank}
use Rattle.ledger.specs.Context.{Context, layout, bytes, due}
use Rattle.ledger.specs.Batches.{taken, needed}
use Rattle.ledger.specs.Ledger.{Ledger, adds}
use Rattle.ledger.specs.Entries.{entry, first_row}
use Rattle.ledger.specs.Records.{chunk_record}
use Rattle.ledger.specs.Answers.{write_tests, page_tests, written, end_tests, end_answer, batch_tests, batch_answer, settled, done, read_tests, read_counts, read_answer, entry_tests, entry_answer, record_tests, record_answer}
use Rattle.ledger.specs.Numbers.{batch_order, write_order, end_order, read_order, entry_order, record_order, BatchNumbered, EndNumbered, ReadNumbered, EntryNumbered, RecordNumbered}

pub read_numbered : ReadNumbered
read_numbered = record {
  each = λ x l k reps defs plain. numbered (read_tests x l k reps defs plain) (read_counts x (slice_index_or l.pages k blank)) (read_answer x l k reps defs plain) read_order refl refl;
}

pub entry_numbered : EntryNumbered
entry_numbered = record {
  each = λ x l offset k. numbered (entry_tests l k) (entry x offset (first_row l.pages k) (slice_index_or l.pages k blank)) (entry_answer x l offset k) entry_order refl refl;
}

pub record_numbered : RecordNumbered
record_numbered = record { each = λ x l. numbered (record_tests l) (chunk_record x l.pages) (record_answer x l) record_order refl refl }

-- ---- the open page, which is written unless it is empty

says_page : (none : Bool) (takes : ℕ → Bool) (pages size : ℕ) → says (cond none [] (write_tests takes pages size)) ≡ cond none [] (write_order size)
says_page true takes pages size = refl
says_page false takes pages size = refl

tested_page : (none : Bool) (takes : ℕ → Bool) (pages size : ℕ) → ◌≡◌ {A = Result ℕ ChunkFault} (cond none (Ok 0) (tested (write_tests takes pages size) (Ok 1))) (tested (cond none [] (write_tests takes pages size)) (Ok (cond none 0 1)))
tested_page true takes pages size = refl
tested_page false takes pages size = refl

module _ (x : Context) (takes : ℕ → Bool) (l : Ledger) where
  abbrev size : ℕ
  size = length (bytes x l.page)

  -- the pages written
  abbrev count : ℕ
  count = cond (eqb (levels l.page) 0) 0 1

  written_tested : written x takes l ≡ tested (page_tests x takes l) (Ok count)
  written_tested = tested_page (eqb (levels l.page) 0) takes (length l.pages) size

  says_written : says (page_tests x takes l) ≡ cond (eqb (levels l.page) 0) [] (write_order size)
  says_written = says_page (eqb (levels l.page) 0) takes (length l.pages) size

pub end_numbered : EndNumbered
end_numbered = record {
  each = λ x takes room l.
      numbered (end_tests l room ++ page_tests x takes l) (count x takes l) (end_answer x takes room l) (end_order x l)
      (ap (λ rs. says (end_tests l room) ++ rs) (says_written x takes l))
      (ap (λ r. tested (end_tests l room) r) (written_tested x takes l));
}

-- ---- what a page that is due waits for

number_of : (long : ℕ) (r : Refusal) → Contains (write_order long) r → Contains (24 ∷ 25 ∷ []) r.number
number_of long r (zero, b, q) = (0, omega arith, ap (λ r. r.number) q)
number_of long r (suc zero, b, q) = (1, omega arith, ap (λ r. r.number) q)
number_of long r (suc (suc k), b, q) = absurd (omega (arith, b))

waits : (none : Bool) (takes : ℕ → Bool) (pages long n : ℕ) (e : ChunkFault) → ◌≡◌ {A = Result ℕ ChunkFault} (cond none (Ok 0) (tested (write_tests takes pages long) (Ok 1))) (Err e) → Contains (24 ∷ 25 ∷ []) (done n (Err e)).waiting
waits true takes pages long n e h = cc
waits false takes pages long n e h = number_of long (said_chunk e) (refused_says (write_tests takes pages long) 1 e h)

page_waits : (x : Context) (takes : ℕ → Bool) (l : Ledger) (n : ℕ) (e : ChunkFault) → written x takes l ≡ Err e → Contains (24 ∷ 25 ∷ []) (done n (Err e)).waiting
page_waits x takes l n e h = waits (eqb (levels l.page) 0) takes (length l.pages) (length (bytes x l.page)) n e h

done_waits : (n : ℕ) (r : Result ℕ ChunkFault) → ((e : ChunkFault) → r ≡ Err e → Contains (24 ∷ 25 ∷ []) (done n (Err e)).waiting) → Contains (0 ∷ 24 ∷ 25 ∷ []) (done n r).waiting
done_waits n (Ok k) h = (0, omega arith, refl)
done_waits n (Err e) h = let c = h e refl in (suc c.0, omega (arith, c.1), c.2)

settled_waits : (isdue : Bool) (x : Context) (takes : ℕ → Bool) (l : Ledger) (n : ℕ) → Contains (0 ∷ 24 ∷ 25 ∷ []) (cond isdue (done n (written x takes l)) (done n (Ok 0))).waiting
settled_waits true x takes l n = done_waits n (written x takes l) (page_waits x takes l n)
settled_waits false x takes l n = (0, omega arith, refl)

pub batch_numbered : BatchNumbered
batch_numbered = record {
  each = λ x takes room l b. numbered (batch_tests x room l b) (settled x takes l b) (batch_answer x takes room l b) (batch_order (layout x) b) refl refl;
  waits = page_waits;
  stands = λ x takes room l b d h.
      let after = adds l (taken (layout x) b) in
      subst (λ a. Contains (0 ∷ 24 ∷ 25 ∷ []) a.waiting) (ok_is (batch_tests x room l b) (settled x takes l b) d h) (settled_waits (due x after.page) x takes after (needed (layout x) b));
}
