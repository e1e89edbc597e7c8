-- How long a page and its parts are.
use Rattle.std.proofs.Common.{◌≡◌, ℕ, ◌+◌, ◌^◌, ◌<◌, ◌≤◌, Bool, true, false, cond, ◌&&◌, eqb, ltb, List, [], ◌++◌, length, Some, Decides, sym, refl, ap, ◌∙◌, subst, ⊎_elim, arith}
use Rattle.std.proofs.lemmas.List.{length-append}
use Rattle.std.proofs.lemmas.List.Elements.{recursion_from_All, All-from_recursion}
use Rattle.std.proofs.lemmas.Bool.{cases_Bool, cond-true, cond-false, eq-eqb, ne_eqb, false≢true}
use Rattle.std.proofs.lemmas.Bool.Decides.{Decides-like, Decides-by_and, Decides-ltb}
use Rattle.std.specs.List.{AllByRecursion, list_all}
use Rattle.std.specs.Bool.{then_some}
use Rattle.bits.specs.Rows.{Fit}
use Rattle.kinds.specs.Plain.{four}
use Rattle.level_coder.specs.Coding.{Coding, Admitted}
use Rattle.body_coder.specs.Body.{Body, whole}
use Rattle.pages.specs.declared.layout.Layout.{Layout}
use Rattle.pages.specs.Layout.{with_length, level_part, level_size_of, page_bytes, parts_size, LevelSize, SizeIsLength}
use Rattle.pages.specs.Pages.{ListFits, Measured}
use Rattle.pages.specs.Widths.{bit_length}
use Rattle.pages.proofs.Bits.{four_bits}

length_with : (t : Bool) (bs : List ℕ) → length (with_length t bs) ≡ cond t 4 0 + length bs
length_with true bs = length-append (four (length bs)) bs
length_with false bs = omega arith

pub length_part : (c : Coding) (version most : ℕ) (ls : List ℕ) → length (level_part c version most ls) ≡ level_size_of c version most (length ls)
length_part c version most ls =
    let bs : List ℕ = c.coded (bit_length most) ls in
    let t : Bool = eqb version 1 && c.framed in
    ⊎_elim
    (λ z. ap (λ b. length (cond b [] (with_length t bs))) z ∙ sym (ap (λ b. cond b 0 (cond t 4 0 + c.size (length ls) (bit_length most))) z))
    (λ z. ap (λ b. length (cond b [] (with_length t bs))) z ∙ length_with t bs ∙ ap (λ n. cond t 4 0 + n) (c.sized (bit_length most) ls)
    ∙ sym (ap (λ b. cond b 0 (cond t 4 0 + c.size (length ls) (bit_length most))) z))
    (cases_Bool (eqb most 0))

pub length_page : (c : Coding) (b : Body) (l : Layout) (reps defs plain : List ℕ) → whole b.joins l.width (length plain) ≡ true
    → length (page_bytes c b l reps defs plain) ≡ parts_size c l (length reps) (length defs) (length plain)
length_page c b l reps defs plain w =
    let v = l.version in
    let r = level_part c v l.max_rep_level reps in
    let d = level_part c v l.max_def_level defs in
    let body = b.coded l.width plain in
    omega (
      arith,
      length-append r (d ++ body),
      length-append d body,
      length_part c v l.max_rep_level reps,
      length_part c v l.max_def_level defs,
      b.sized l.width plain w,
    )

pub size_is_length : (c : Coding) (b : Body) (l : Layout) → SizeIsLength c b l
size_is_length c b l reps defs plain e w =
    length_page c b l reps defs plain w ∙ ap (λ n. parts_size c l n (length defs) (length plain)) e

-- ---- a list by its maximum and whether its length comes first

module _ (c : Coding) (version most : ℕ) where
  pub size_none : (n : ℕ) → most ≡ 0 → level_size_of c version most n ≡ 0
  size_none n z = cond-true (eqb most 0) 0 (cond (eqb version 1 && c.framed) 4 0 + c.size n (bit_length most)) (eq-eqb most 0 z)

  pub part_none : (ls : List ℕ) → most ≡ 0 → level_part c version most ls ≡ []
  part_none ls z = cond-true (eqb most 0) [] (with_length (eqb version 1 && c.framed) (c.coded (bit_length most) ls)) (eq-eqb most 0 z)

  pub size-some : (n : ℕ) (t : Bool) → (most ≡ 0 → ⊥) → t ≡ (eqb version 1 && c.framed) → level_size_of c version most n ≡ cond t 4 0 + c.size n (bit_length most)
  size-some n t z e =
      cond-false (eqb most 0) 0 (cond (eqb version 1 && c.framed) 4 0 + c.size n (bit_length most)) (ne_eqb most 0 z)
      ∙ ap (λ b. cond b 4 0 + c.size n (bit_length most)) (sym e)

  pub part-some : (ls : List ℕ) (t : Bool) → (most ≡ 0 → ⊥) → t ≡ (eqb version 1 && c.framed) → level_part c version most ls ≡ with_length t (c.coded (bit_length most) ls)
  part-some ls t z e =
      cond-false (eqb most 0) [] (with_length (eqb version 1 && c.framed) (c.coded (bit_length most) ls)) (ne_eqb most 0 z)
      ∙ ap (λ b. with_length b (c.coded (bit_length most) ls)) (sym e)

-- levels that fit a list are admitted by its coder
pub admitted : (most b : ℕ) (ls : List ℕ) → b ≡ bit_length most → ListFits most ls → Admitted b ls
admitted most b ls e f =
    subst (λ n. Admitted n ls) (sym e) record { few = f.few; narrow = four_bits most f.narrow; fit = f.fit }

-- levels that its coder admits fit a list
pub fitting : (most b : ℕ) (ls : List ℕ) → most ≤ 15 → b ≡ bit_length most → Admitted b ls → ListFits most ls
fitting most b ls n e a = record { few = a.few; narrow = n; fit = subst (λ k. Fit k ls) e a.fit }

-- ---- measuring

-- a chain's answer on levels says whether each of them is below the limit
all_fit : (limit : ℕ) (ls : List ℕ) → Decides (list_all (λ l. ltb l limit) ls) (AllByRecursion (λ l. l < limit) ls)
all_fit limit ls =
    Decides-like _ (recursion_from_All (λ l. l < limit) ls) (All-from_recursion (λ l. l < limit) ls)
    (Decides-by_and (λ l. ltb l limit) (λ l. l < limit) (list_all (λ l. ltb l limit)) (λ l. Decides-ltb l limit) refl (λ _ _. refl) ls)

pub measured : (c : Coding) (version most limit k : ℕ) (ls : List ℕ) (all : Bool) → LevelSize c version most (length ls) (Some k) → limit ≡ 2 ^ bit_length most
    → all ≡ list_all (λ l. ltb l limit) ls → Measured c version most ls (then_some all k)
measured c version most limit k ls true s e a = (
  record { few = s.0; narrow = s.1; fit = subst (λ m. AllByRecursion (λ l. l < m) ls) e ((all_fit limit ls).0 (sym a)) },
  s.2,
  s.3,
)
measured c version most limit k ls false s e a = λ f.
    false≢true (a ∙ (all_fit limit ls).1 (subst (λ m. AllByRecursion (λ l. l < m) ls) (sym e) f.fit))
