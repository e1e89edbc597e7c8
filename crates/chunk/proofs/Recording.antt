-- What a record and the entries of all pages say: those of the pages written, which are all that was taken once the chunk is closed.
use Rattle.kinds.specs.declared.kind.Kind as kinds
use Rattle.level_coder.specs.declared.coder.LevelCoder as level_coders
use Rattle.body_coder.specs.declared.coder.BodyCoder as body_coders
use Rattle.sinks.specs.declared.sink.PageSink as sinks
use Rattle.sinks.specs.declared.store.PageStore as stores
use Rattle.std.proofs.Common.{◌≡◌, ℕ, suc, ◌+◌, true, false, List, [], ◌∷◌, ◌++◌, length, get_or, drop, Ok, Err, sum_by, sym, refl, ap, ◌∙◌, subst, arith}
use Rattle.std.proofs.Math.Seq.{drop-append_seam}
use Rattle.refusals.specs.declared.fault.ChunkFault.TheVariants.{NoRecord}
use Rattle.ledger.specs.Pages.{Page, blank, joined, rows}
use Rattle.ledger.specs.Context.{Context, layout}
use Rattle.ledger.specs.Figures.{figures}
use Rattle.ledger.specs.Ledger.{Ledger, has_record, input}
use Rattle.ledger.specs.Entries.{Entry, entry_list}
use Rattle.ledger.specs.Records.{Record, chunk_record}
use Rattle.ledger.specs.Answers.{record_answer}
use Rattle.ledger.specs.ChunkLaws.{RecordSays, EntrySays, marked_nulls}
use Rattle.ledger.proofs.ChunkLaws.{record_says, entries_say, null_counts_add_up}
use Rattle.ledger.proofs.Joining.{nulls_add_up}
use Rattle.ledger.proofs.Runs.{input_written}
use Rattle.chunk.specs.Histories.{History}
use Rattle.chunk.specs.Stands.{Stands}
use Rattle.chunk.specs.Reads.{RecordedBy, IndexedBy}
use Rattle.chunk.specs.declared.state.State.{State}

module _ (x : Context) (l : Ledger) where
  pub refused_record : has_record l.phase ≡ false → record_answer x l ≡ Err NoRecord
  refused_record h = rw h refl

  pub there_record : has_record l.phase ≡ true → record_answer x l ≡ Ok (chunk_record x l.pages)
  there_record h = rw h refl

module _ (h : History) where
  pub no_record : has_record h.ledger.phase ≡ false → RecordedBy h (Err NoRecord)
  no_record e = record { answer = sym (refused_record h.context h.ledger e); says = tt; joins = tt; figures = tt; nulls = tt }

  pub recorded : (q : Record) → has_record h.ledger.phase ≡ true → h.ledger.page ≡ blank → q ≡ chunk_record h.context h.ledger.pages → RecordedBy h (Ok q)
  recorded q e none same =
      let join : joined h.ledger.pages ≡ input h.ledger = sym (input_written h.ledger none) in
      record {
        answer = ap (λ y. Ok y) same ∙ sym (there_record h.context h.ledger e);
        says = subst (RecordSays h.context h.ledger.pages) (sym same) (record_says h.context h.ledger.pages);
        joins = join;
        figures = ap (λ y. y.figures) same ∙ ap (figures h.context.kind (layout h.context)) join;
        nulls = ap (λ y. y.figures.nulls) same ∙ nulls_add_up (layout h.context).max_def_level h.ledger.pages;
      }

-- ---- the entries of all pages

listed : (x : Context) (r : ℕ) (os : List ℕ) (ps : List Page) → length os ≡ length ps → length (entry_list x r os ps) ≡ length ps
listed x r [] [] e = refl
listed x r [] (p ∷ ps) e = absurd (omega (arith, e))
listed x r (o ∷ os) [] e = absurd (omega (arith, e))
listed x r (o ∷ os) (p ∷ ps) e = ap suc (listed x (r + rows p) os ps (omega (arith, e)))

module _ {K L B S : Type 0} {gk : kinds.Ghosts K} {gl : level_coders.Ghosts L} {gb : body_coders.Ghosts B} {gs : sinks.Ghosts S} {gt : stores.Ghosts S} (h : History) (c : State K L B S gk gl gb gs gt) (s : Stands h c) where
  pub indexed : (es : List Entry) → es ≡ entry_list h.context 0 s.offsets h.ledger.pages → IndexedBy h (gt.meaning.offsets c.sink) es
  indexed es e =
      let ps = h.ledger.pages in
      let most = (layout h.context).max_def_level in
      let behind : drop (length h.before.pages) (gt.meaning.offsets c.sink) ≡ s.offsets =
      ap (drop (length h.before.pages)) s.sink.offsets_behind ∙ ap (λ n. drop n (h.before.offsets ++ s.offsets)) (sym s.base.paired) ∙ drop-append_seam h.before.offsets s.offsets in
      record {
        answer = e ∙ ap (λ os. entry_list h.context 0 os ps) (sym behind);
        count = ap length e ∙ listed h.context 0 s.offsets ps s.log.offsets;
        says = λ none k i. subst (λ y. EntrySays h.context ps k (get_or y k none)) (sym e) (entries_say h.context ps s.offsets none s.log.offsets k i);
        null_counts = λ mode. ap (sum_by (λ e. marked_nulls e.marks)) e ∙ null_counts_add_up h.context ps s.offsets s.log.offsets mode ∙ nulls_add_up most ps;
      }
