-- A chunk whose open page was written stands to the history whose ledger was turned.
use Rattle.kinds.specs.declared.kind.Kind as kinds
use Rattle.level_coder.specs.declared.coder.LevelCoder as level_coders
use Rattle.body_coder.specs.declared.coder.BodyCoder as body_coders
use Rattle.sinks.specs.declared.sink.PageSink as sinks
use Rattle.sinks.specs.declared.store.PageStore as stores
use Rattle.std.proofs.Common.{◌≡◌, ℕ, ◌<◌, true, eqb, List, [], ◌∷◌, ◌++◌, map, length, take, drop, Some, None, Option, Ok, Err, Result, sym, refl, ap, ◌∙◌, subst, append_assoc, arith}
use Rattle.std.proofs.lemmas.Bool.{cond-true, cond-false, eq-eqb, ne_eqb, leb-false, not-false}
use Rattle.std.proofs.Math.Seq.{take-append_seam}
use Rattle.sinks.specs.Sinks.{Grown}
use Rattle.refusals.specs.Refusals.{Test, tested}
use Rattle.refusals.specs.declared.fault.ChunkFault.{ChunkFault}
use Rattle.ledger.specs.Pages.{Page, blank, levels}
use Rattle.ledger.specs.Context.{Context, layout, bytes, accepted}
use Rattle.ledger.specs.Answers.{write_tests}
use Rattle.intake.proofs.Tested.{tested_err, tested_ok, passed_from_ok}
use Rattle.open_page.specs.Opened.{Opened}
use Rattle.page_log.specs.Logs.{Logged, Logs}
use Rattle.chunk.specs.Histories.{History}
use Rattle.chunk.specs.Stands.{Stands}
use Rattle.chunk.specs.Calls.{Wrote}
use Rattle.open_page.specs.declared.page.OpenPage.{OpenPage}
use Rattle.page_log.specs.declared.log.PageLog.{PageLog}
use Rattle.chunk.specs.declared.state.State.{State}

map_behind : {X Y : Type 0} (f : X → Y) (xs : List X) (y : X) → map f (xs ++ (y ∷ [])) ≡ map f xs ++ (f y ∷ [])
map_behind f [] y = refl
map_behind f (x ∷ xs) y = ap (λ zs. f x ∷ zs) (map_behind f xs y)

module _ {K L B S : Type 0} {gk : kinds.Ghosts K} {gl : level_coders.Ghosts L} {gb : body_coders.Ghosts B} {gs : sinks.Ghosts S} {gt : stores.Ghosts S} (h : History) (c : State K L B S gk gl gb gs gt) (s : Stands h c) where
  pub wrote_nothing : (scr : List ℕ) → levels h.ledger.page ≡ 0 → Wrote h c scr (Ok 0) c scr
  wrote_nothing scr z = record {
    answer = sym (cond-true (eqb (levels h.ledger.page) 0) (Ok 0) _ (eq-eqb (levels h.ledger.page) 0 z));
    left = record { sink = refl; scratch = refl };
    stands = s;
  }

  abbrev tests : List Test
  tests = write_tests (gs.meaning.takes c.sink) (length h.ledger.pages) (length (bytes h.context h.ledger.page))

  pub wrote_refused : (scr : List ℕ) (e : ChunkFault) → (levels h.ledger.page ≡ 0 → ⊥) → tested {A = Unit {0}} tests (Ok tt) ≡ Err e → Wrote h c scr (Err e) c scr
  wrote_refused scr e z t = record {
    answer = sym (cond-false (eqb (levels h.ledger.page) 0) (Ok 0) (tested tests (Ok 1)) (ne_eqb (levels h.ledger.page) 0 z) ∙ tested_err tests tt e (Ok 1) t);
    left = record { sink = refl; scratch = refl };
    stands = s;
  }

  pub wrote_page : (scr scr' : List ℕ) (sink : S) (log : PageLog) (page : OpenPage) (off : ℕ)
      → accepted h.context ≡ true → (levels h.ledger.page ≡ 0 → ⊥) → tested {A = Unit {0}} tests (Ok tt) ≡ Ok tt
      → Grown gt.meaning c.sink (bytes h.context h.ledger.page) off sink
      → Logged h.context (s.offsets ++ (off ∷ [])) (h.ledger.pages ++ (h.ledger.page ∷ [])) log
      → Opened h.context.kind (layout h.context) blank page
      → gs.meaning.leaves c.sink (bytes h.context h.ledger.page) sink
      → scr' ≡ bytes h.context h.ledger.page ++ drop (length (bytes h.context h.ledger.page)) scr
      → Wrote h c scr (Ok 1) (record c { sink = sink; page = page; log = log }) scr'
  wrote_page scr scr' sink log page off ok z t grown logged fresh leaves after =
      let bs = bytes h.context h.ledger.page in
      record {
        answer = sym (cond-false (eqb (levels h.ledger.page) 0) (Ok 0) (tested tests (Ok 1)) (ne_eqb (levels h.ledger.page) 0 z) ∙ tested_ok tests tt tt (Ok 1) t);
        left = record { sink = leaves; scratch = after };
        stands = record {
          opened = s.opened;
          offsets = s.offsets ++ (off ∷ []);
          sink = record {
            pages =
                grown.pages ∙ ap (λ ps. ps ++ (bs ∷ [])) s.sink.pages ∙ append_assoc h.before.pages (map (bytes h.context) h.ledger.pages) (bs ∷ [])
                ∙ ap (λ ps. h.before.pages ++ ps) (sym (map_behind (bytes h.context) h.ledger.pages h.ledger.page));
            offsets_behind = grown.offsets ∙ ap (λ os. os ++ (off ∷ [])) s.sink.offsets_behind ∙ append_assoc h.before.offsets s.offsets (off ∷ []);
          };
          base = s.base;
          phase = record { same = s.phase.same; allowed = s.phase.allowed; written = λ _. ok; ended = λ _. refl };
          page = fresh;
          log = logged;
        };
      }

  pub refused_as : (scr : List ℕ) (r : Result ℕ ChunkFault) (e : ChunkFault) → r ≡ Err e → (levels h.ledger.page ≡ 0 → ⊥) → tested {A = Unit {0}} tests (Ok tt) ≡ Err e → Wrote h c scr r c scr
  refused_as scr r e k z t = subst (λ q. Wrote h c scr q c scr) (sym k) (wrote_refused scr e z t)

  -- what may be written was taken by the sink, and there were fewer than 64 pages
  pub may_write : tested {A = Unit {0}} tests (Ok tt) ≡ Ok tt → (length h.ledger.pages < 64) × (gs.meaning.takes c.sink (length (bytes h.context h.ledger.page)) ≡ true)
  may_write t =
      let p = passed_from_ok tests (Ok tt) tt t in
      (leb-false 64 (length h.ledger.pages) p.0, not-false (gs.meaning.takes c.sink (length (bytes h.context h.ledger.page))) p.1.0)

-- the front of a scratch that a page was built in is the page
pub front : (bs scr : List ℕ) (n : ℕ) → n ≡ length bs → take n (bs ++ drop (length bs) scr) ≡ bs
front bs scr n e = ap (λ k. take k (bs ++ drop (length bs) scr)) e ∙ take-append_seam bs (drop (length bs) scr)

-- a log that has room takes the page
pub logged_more : (x : Context) (os : List ℕ) (ps : List Page) (off : ℕ) (p : Page) (old new : PageLog) (r : Option (Unit {0})) → length ps < 64 → Logs x os ps off p old new r → Logged x (os ++ (off ∷ [])) (ps ++ (p ∷ [])) new
logged_more x os ps off p old new None few h = absurd (omega (arith, h.0))
logged_more x os ps off p old new (Some u) few h = h.1
