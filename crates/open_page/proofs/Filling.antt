-- A page that takes values: their plain bytes one value after the other, and their figures.
use Rattle.std.proofs.Common.{◌≡◌, ℕ, ◌+◌, ◌<◌, ◌≤◌, Bool, true, not, List, [], ◌∷◌, ◌++◌, length, get_or, take, drop, Some, None, Option, refl, sym, ap, ◌∙◌, subst, ⊎_elim, arith}
use Rattle.std.specs.List.{AllByRecursion, concat, list_any, filter, find}
use Rattle.std.proofs.lemmas.List.{append_assoc, append-nil, length-append, take_more, take-append-drop}
use Rattle.std.proofs.lemmas.Bool.{cond-true, cond-false, cases_Bool, cases_eq}
use Rattle.std.proofs.lemmas.Option.{same_Some, none-some}
use Rattle.buffers.specs.Buffers.{AppendedAll, HaveLength}
use Rattle.kinds.specs.Meaning.{Meaning, greater}
use Rattle.kinds.specs.Plain.{plain, sized, four}
use Rattle.kinds.proofs.Plains.{plain_fixed, plain_variable, sized_fixed, sized_variable}
use Rattle.figures.specs.Figures.{considered, smallest, largest, lesser, higher}
use Rattle.figures.proofs.Joined.{smallest-joined, largest-joined}
use Rattle.pages.specs.declared.layout.Layout.{Layout}
use Rattle.metrics.specs.Metrics.{kept, Measures}
use Rattle.open_page.specs.Opened.{Holds, filled}
use Rattle.open_page.specs.declared.page.OpenPage.{OpenPage}
use Rattle.ledger.specs.Pages.{Page, join, plains}
use Rattle.ledger.proofs.Joining.{plains-append}

-- ---- lengths

pub value_few : (w : ℕ) (v : List ℕ) → w ≤ 128 → sized w v ≡ true → length v ≤ 128
value_few w v few s =
    ⊎_elim (λ z. sized_variable w v (omega arith) s) (λ z. omega (arith, few, sized_fixed w v (omega arith) s)) (cases_eq w 0)

pub plain_few : (w : ℕ) (v : List ℕ) → w ≤ 128 → sized w v ≡ true → length (plain w v) ≤ 132
plain_few w v few s =
    ⊎_elim
    (λ z. omega (arith, ap length (plain_variable w v (omega arith)), length-append (four (length v)) v, sized_variable w v (omega arith) s))
    (λ z. omega (arith, few, ap length (plain_fixed w v (omega arith)), sized_fixed w v (omega arith) s))
    (cases_eq w 0)

-- ---- plain bytes

-- the plain bytes of the first i values are put, where each value has its own length
abbrev pub PlainsSoFar : List (List ℕ) → ℕ → List ℕ → List ℕ → Type 0
PlainsSoFar vs i old new = length old + length (plains 0 vs) ≤ 8191 → new ≡ old ++ plains 0 (take i vs)

-- what putting one such value leaves
abbrev pub PlainAdded : List ℕ → List ℕ → List ℕ → Type 0
PlainAdded v old new = length old + length (plain 0 v) ≤ 8191 → new ≡ old ++ plain 0 v

plains_more : (vs : List (List ℕ)) (i : ℕ) → i < length vs → plains 0 (take (i + 1) vs) ≡ plains 0 (take i vs) ++ plain 0 (get_or vs i [])
plains_more vs i h =
    ap (plains 0) (take_more vs i [] h) ∙ plains-append 0 (take i vs) (get_or vs i [] ∷ []) ∙ ap (λ x. plains 0 (take i vs) ++ x) (append-nil (plain 0 (get_or vs i [])))

plains_front : (vs : List (List ℕ)) (i : ℕ) → length (plains 0 (take i vs)) ≤ length (plains 0 vs)
plains_front vs i =
    let e : plains 0 vs ≡ plains 0 (take i vs) ++ plains 0 (drop i vs) =
    ap (plains 0) (sym (take-append-drop i vs)) ∙ plains-append 0 (take i vs) (drop i vs) in
    omega (arith, ap length e, length-append (plains 0 (take i vs)) (plains 0 (drop i vs)))

-- values of a width lie one after the other, with nothing between them
plains-concat : (w : ℕ) (vs : List (List ℕ)) → 0 < w → plains w vs ≡ concat vs
plains-concat w [] some = refl
plains-concat w (v ∷ vs) some = ap (λ x. x ++ plains w vs) (plain_fixed w v some) ∙ ap (λ x. v ++ x) (plains-concat w vs some)

have_width : (w : ℕ) (vs : List (List ℕ)) → 0 < w → AllByRecursion (λ v. sized w v ≡ true) vs → HaveLength w vs
have_width w [] some sizes = tt
have_width w (v ∷ vs) some sizes = (sized_fixed w v some sizes.0, have_width w vs some sizes.1)

module _ (vs : List (List ℕ)) (old : List ℕ) where
  pub more_plains : (i : ℕ) (v now new : List ℕ) → i < length vs → v ≡ get_or vs i [] → PlainsSoFar vs i old now → PlainAdded v now new → PlainsSoFar vs (i + 1) old new
  more_plains i v now new h e s add room =
      let x : List ℕ = get_or vs i [] in
      let is : now ≡ old ++ plains 0 (take i vs) = s room in
      let more = plains_more vs i h in
      let fits : length now + length (plain 0 v) ≤ 8191 =
      omega (
        arith,
        ap length is,
        length-append old (plains 0 (take i vs)),
        ap length more,
        length-append (plains 0 (take i vs)) (plain 0 x),
        ap (λ u. length (plain 0 u)) e,
        plains_front vs (i + 1),
        room,
      ) in
      add fits ∙ ap (λ y. y ++ plain 0 v) is ∙ append_assoc old (plains 0 (take i vs)) (plain 0 v)
      ∙ ap (λ u. old ++ (plains 0 (take i vs) ++ plain 0 u)) e ∙ ap (λ y. old ++ y) (sym more)

  pub plains_at_once : (w : ℕ) (new : List ℕ) (r : Option (Unit {0})) → 0 < w → AppendedAll 8191 old vs new r → AllByRecursion (λ v. sized w v ≡ true) vs
      → length old + length (plains w vs) ≤ 8191 → new ≡ old ++ plains w vs
  plains_at_once w new (Some x) some a sizes room = (a.0 w (have_width w vs some sizes)).1 ∙ ap (λ x. old ++ x) (sym (plains-concat w vs some))
  plains_at_once w new None some a sizes room =
      absurd (omega (arith, (a.0 w (have_width w vs some sizes)).0, ap length (plains-concat w vs some), room))

-- ---- figures

module _ (P : List ℕ → Type 0) where
  find_all : (q : List ℕ → Bool) (vs : List (List ℕ)) (v : List ℕ) → find q vs ≡ Some v → AllByRecursion P vs → P v
  find_all q [] v e h = absurd (none-some v e)
  find_all q (u ∷ vs) v e h =
      ⊎_elim
      (λ t. subst P (same_Some u v (sym (cond-true (q u) (Some u) (find q vs) t) ∙ e)) h.0)
      (λ t. find_all q vs v (sym (cond-false (q u) (Some u) (find q vs) t) ∙ e) h.1)
      (cases_Bool (q u))

  filter_all : (q : List ℕ → Bool) (vs : List (List ℕ)) → AllByRecursion P vs → AllByRecursion P (filter q vs)
  filter_all q [] h = tt
  filter_all q (u ∷ vs) h =
      ⊎_elim
      (λ t. subst (AllByRecursion P) (sym (cond-true (q u) (u ∷ filter q vs) (filter q vs) t)) (h.0, filter_all q vs h.1))
      (λ t. subst (AllByRecursion P) (sym (cond-false (q u) (u ∷ filter q vs) (filter q vs) t)) (filter_all q vs h.1))
      (cases_Bool (q u))

  considered_all : (m : Meaning) (vs : List (List ℕ)) → AllByRecursion P vs → AllByRecursion P (considered m vs)
  considered_all m vs h =
      let n : List ℕ → Bool = λ v. not (m.nan v) in
      ⊎_elim
      (λ t. subst (AllByRecursion P) (sym (cond-true (list_any n vs) (filter n vs) vs t)) (filter_all n vs h))
      (λ t. subst (AllByRecursion P) (sym (cond-false (list_any n vs) (filter n vs) vs t)) h)
      (cases_Bool (list_any n vs))

  -- what all values are, a figure of them is
  pub smallest_all : (m : Meaning) (vs : List (List ℕ)) (v : List ℕ) → smallest m vs ≡ Some v → AllByRecursion P vs → P v
  smallest_all m vs v e h =
      find_all (λ u. not (list_any (λ x. greater m u x) (considered m vs))) (considered m vs) v e (considered_all m vs h)

  pub largest_all : (m : Meaning) (vs : List (List ℕ)) (v : List ℕ) → largest m vs ≡ Some v → AllByRecursion P vs → P v
  largest_all m vs v e h =
      find_all (λ u. not (list_any (λ x. greater m x u) (considered m vs))) (considered m vs) v e (considered_all m vs h)

-- ---- what is held

module _ (m : Meaning) (l : Layout) (p : Page) (vs : List (List ℕ)) (old new : OpenPage) where
  pub filled_held : Holds m l p old → new.reps ≡ old.reps → new.defs ≡ old.defs → new.plain ≡ old.plain ++ plains l.width vs → Measures m l (join p (filled vs)) new.metrics
      → kept new.min ≡ lesser m (kept old.min) (smallest m vs) → kept new.max ≡ higher m (kept old.max) (largest m vs) → Holds m l (join p (filled vs)) new
  filled_held h er ed ep em lo hi = record {
    reps = er ∙ h.reps ∙ sym (append-nil p.reps);
    defs = ed ∙ h.defs ∙ sym (append-nil p.defs);
    plain = ep ∙ ap (λ x. x ++ plains l.width vs) h.plain ∙ sym (plains-append l.width p.values vs);
    metrics = em;
    min = lo ∙ ap (λ o. lesser m o (smallest m vs)) h.min ∙ sym (smallest-joined m p.values vs);
    max = hi ∙ ap (λ o. higher m o (largest m vs)) h.max ∙ sym (largest-joined m p.values vs);
  }
