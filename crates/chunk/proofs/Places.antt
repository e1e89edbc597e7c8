-- The entry, the offset and the bytes of a page, by its number.
use Rattle.kinds.specs.declared.kind.Kind as kinds
use Rattle.level_coder.specs.declared.coder.LevelCoder as level_coders
use Rattle.body_coder.specs.declared.coder.BodyCoder as body_coders
use Rattle.sinks.specs.declared.sink.PageSink as sinks
use Rattle.sinks.specs.declared.store.PageStore as stores
use Rattle.std.proofs.Common.{◌≡◌, ℕ, zero, suc, ◌+◌, ◌<◌, ◌≤◌, leb, List, [], ◌∷◌, ◌++◌, map, length, get_or, take, drop, Some, None, Option, Ok, Err, Result, sym, refl, ap, ◌∙◌, subst, ⊎_elim, suc-add, zero-add, arith}
use Rattle.std.proofs.Math.Seq.{take-append_seam}
use Rattle.std.proofs.lemmas.Bool.{cond-true, cond-false, le-leb, lt-leb, cases_lt}
use Rattle.std.proofs.lemmas.List.{get_or-append-add}
use Rattle.std.specs.List.{AllByRecursion, slice_get}
use Rattle.std.specs.Option.{option_map, ok_or}
use Rattle.sinks.specs.Stores.{CopyOf, Copied}
use Rattle.pages.specs.declared.fault.PageFault.TheVariants.{NoPage}
use Rattle.refusals.specs.declared.fault.ChunkFault.{ChunkFault}
use Rattle.refusals.specs.declared.fault.ChunkFault.TheVariants.{Page as OfPage}
use Rattle.ledger.specs.Pages.{blank}
use Rattle.ledger.specs.Context.{bytes}
use Rattle.ledger.specs.Entries as ledger
use Rattle.ledger.specs.Entries.{entry, first_row}
use Rattle.ledger.specs.Answers.{entry_answer}
use Rattle.ledger.specs.ChunkLaws.{EntrySays}
use Rattle.ledger.proofs.ChunkLaws.{entry_says}
use Rattle.entries.specs.declared.entry.Entry.{Entry}
use Rattle.entries.specs.Entries.{said_entry}
use Rattle.chunk.specs.Histories.{History}
use Rattle.chunk.specs.Stands.{Stands}
use Rattle.chunk.specs.Reads.{answered, offset_of, page_of, EnteredBy}
use Rattle.chunk.specs.declared.state.State.{State}

-- ---- lists

found : {X : Type 0} (xs : List X) (k : ℕ) (d : X) → k < length xs → slice_get xs k ≡ Some (get_or xs k d)
found [] k d h = absurd (omega (arith, h))
found (x ∷ xs) zero d h = refl
found (x ∷ xs) (suc k) d h = found xs k d (omega (arith, h))

slice_get-append-add : {X : Type 0} (xs ys : List X) (k : ℕ) → slice_get (xs ++ ys) (length xs + k) ≡ slice_get ys k
slice_get-append-add [] ys k = ap (slice_get ys) (zero-add k)
slice_get-append-add (x ∷ xs) ys k = ap (slice_get (x ∷ (xs ++ ys))) (suc-add (length xs) k) ∙ slice_get-append-add xs ys k

map_at : {X Y : Type 0} (f : X → Y) (xs : List X) (k : ℕ) (d : X) → k < length xs → slice_get (map f xs) k ≡ Some (f (get_or xs k d))
map_at f [] k d h = absurd (omega (arith, h))
map_at f (x ∷ xs) zero d h = refl
map_at f (x ∷ xs) (suc k) d h = map_at f xs k d (omega (arith, h))

pub all_at : {X : Type 0} (P : X → Type 0) (xs : List X) (k : ℕ) (d : X) → AllByRecursion P xs → k < length xs → P (get_or xs k d)
all_at P [] k d a h = absurd (omega (arith, h))
all_at P (x ∷ xs) zero d a h = a.0
all_at P (x ∷ xs) (suc k) d a h = all_at P xs k d a.1 (omega (arith, h))

-- ---- entries

module _ (y : History) (off k : ℕ) where
  abbrev there : ledger.Entry
  there = entry y.context off (first_row y.ledger.pages k) (page_of y.ledger k)

  pub answer_there : k < length y.ledger.pages → entry_answer y.context y.ledger off k ≡ Ok there
  answer_there h = cond-false (leb (length y.ledger.pages) k) (Err (OfPage NoPage)) (Ok there) (lt-leb (length y.ledger.pages) k h)

  pub answer_past : length y.ledger.pages ≤ k → entry_answer y.context y.ledger off k ≡ Err (OfPage NoPage)
  answer_past h = cond-true (leb (length y.ledger.pages) k) (Err (OfPage NoPage)) (Ok there) (le-leb (length y.ledger.pages) k h)

  some_there : (r : Option Entry) → option_map said_entry r ≡ Some there → answered said_entry (ok_or r (OfPage NoPage)) ≡ Ok there
  some_there None h = cc
  some_there (Some e) h = let z : said_entry e ≡ there = cc in ap (λ y. Ok y) z

  pub entry_made : (q : Result ledger.Entry ChunkFault) → q ≡ entry_answer y.context y.ledger off k → EnteredBy y off k q
  entry_made (Ok e) h =
      let f : (k < length y.ledger.pages) × (e ≡ there) =
      ⊎_elim
      (λ i. (i, let z : ◌≡◌ {A = Result ledger.Entry ChunkFault} (Ok e) (Ok there) = h ∙ answer_there i in cc))
      (λ i. let z : ◌≡◌ {A = Result ledger.Entry ChunkFault} (Ok e) (Err (OfPage NoPage)) = h ∙ answer_past i in cc)
      (cases_lt k (length y.ledger.pages)) in
      record { answer = h; says = subst (EntrySays y.context y.ledger.pages k) (sym f.1) (entry_says y.context y.ledger.pages off k) }
  entry_made (Err e) h = record { answer = h; says = tt }

  pub entry_answered : (r : Option Entry) (q : Result Entry ChunkFault) → q ≡ ok_or r (OfPage NoPage) → (k < length y.ledger.pages → option_map said_entry r ≡ Some there) → (length y.ledger.pages ≤ k → r ≡ None)
      → EnteredBy y off k (answered said_entry q)
  entry_answered r q e here past =
      entry_made (answered said_entry q)
      (⊎_elim
      (λ h. ap (answered said_entry) e ∙ some_there r (here h) ∙ sym (answer_there h))
      (λ h. ap (answered said_entry) (e ∙ ap (λ o. ok_or o (OfPage NoPage)) (past h)) ∙ sym (answer_past h))
      (cases_lt k (length y.ledger.pages)))

  -- an entry that was answered is that of a page
  pub entry_ok : (e : Entry) → Ok (said_entry e) ≡ entry_answer y.context y.ledger off k → (k < length y.ledger.pages) × (said_entry e ≡ there)
  entry_ok e h =
      ⊎_elim
      (λ i. (i, let z : ◌≡◌ {A = Result ledger.Entry ChunkFault} (Ok (said_entry e)) (Ok there) = h ∙ answer_there i in cc))
      (λ i. let z : ◌≡◌ {A = Result ledger.Entry ChunkFault} (Ok (said_entry e)) (Err (OfPage NoPage)) = h ∙ answer_past i in cc)
      (cases_lt k (length y.ledger.pages))

  pub entry_err : (e : ChunkFault) → Err e ≡ entry_answer y.context y.ledger off k → (length y.ledger.pages ≤ k) × (e ≡ OfPage NoPage)
  entry_err e h =
      ⊎_elim
      (λ i. let z : ◌≡◌ {A = Result ledger.Entry ChunkFault} (Err e) (Ok there) = h ∙ answer_there i in cc)
      (λ i. (i, let z : ◌≡◌ {A = Result ledger.Entry ChunkFault} (Err e) (Err (OfPage NoPage)) = h ∙ answer_past i in cc))
      (cases_lt k (length y.ledger.pages))

-- ---- a standing chunk's pages

module _ {K L B S : Type 0} {gk : kinds.Ghosts K} {gl : level_coders.Ghosts L} {gb : body_coders.Ghosts B} {gs : sinks.Ghosts S} {gt : stores.Ghosts S} (h : History) (c : State K L B S gk gl gb gs gt) (s : Stands h c) (k : ℕ) where
  pub offset_here : offset_of h.before (gt.meaning.offsets c.sink) k ≡ get_or s.offsets k 0
  offset_here =
      ap (λ os. get_or os (length h.before.pages + k) 0) s.sink.offsets_behind
      ∙ ap (λ n. get_or (h.before.offsets ++ s.offsets) (n + k) 0) (sym s.base.paired)
      ∙ get_or-append-add h.before.offsets s.offsets k 0

  pub bytes_here : k < length h.ledger.pages → slice_get (gt.meaning.pages c.sink) (c.base + k) ≡ Some (bytes h.context (page_of h.ledger k))
  bytes_here i =
      ap (slice_get (gt.meaning.pages c.sink)) (ap (λ n. n + k) s.base.same)
      ∙ ap (λ ps. slice_get ps (length h.before.pages + k)) s.sink.pages
      ∙ slice_get-append-add h.before.pages (map (bytes h.context) h.ledger.pages) k ∙ map_at (bytes h.context) h.ledger.pages k blank i

  pub short_here : k < length h.ledger.pages → length (bytes h.context (page_of h.ledger k)) ≤ 9227
  short_here i = all_at (λ p. length (bytes h.context p) ≤ 9227) h.ledger.pages k blank s.log.sizes i

-- copying bytes that are there into a room that is wide enough
pub copied : (bs out out' : List ℕ) (r : Option ℕ) (q : Result ℕ ChunkFault) (f : ChunkFault) (p : Option (List ℕ)) → p ≡ Some bs → length bs ≤ length out → Copied p out out' r → q ≡ ok_or r f
    → (q ≡ Ok (length bs)) × (take (length bs) out' ≡ bs)
copied bs out out' None q f p e few h v = let c : CopyOf bs out out' None = subst (λ y. Copied y out out' None) e h in absurd (omega (arith, c.0))
copied bs out out' (Some n) q f p e few h v =
    let c : CopyOf bs out out' (Some n) = subst (λ y. Copied y out out' (Some n)) e h in
    (v ∙ ap (λ k. Ok k) c.0, ap (take (length bs)) c.2 ∙ take-append_seam bs (drop n out))

-- a copy that was made shows what was copied
pub copied_from : (out out' : List ℕ) (r : Option ℕ) (q : Result ℕ ChunkFault) (f : ChunkFault) (p : Option (List ℕ)) → Copied p out out' r → q ≡ ok_or r f → (n : ℕ) → q ≡ Ok n → p ≡ Some (take n out')
copied_from out out' None q f p c v n h = let z : ◌≡◌ {A = Result ℕ ChunkFault} (Err f) (Ok n) = sym v ∙ h in cc
copied_from out out' (Some k) q f None c v n h = cc
copied_from out out' (Some k) q f (Some bs) c v n h =
    let z : ◌≡◌ {A = Result ℕ ChunkFault} (Ok k) (Ok n) = sym v ∙ h in
    let e : n ≡ length bs = let i : k ≡ n = cc in sym i ∙ c.0 in
    ap Some (sym (ap (take n) c.2 ∙ ap (λ i. take i (bs ++ drop k out)) e ∙ take-append_seam bs (drop k out)))
