-- The plain bytes of values, and what weighing them tells.
use Rattle.std.proofs.Common.{◌≡◌, ℕ, ◌+◌, ◌-◌, ◌*◌, ◌^◌, ◌<◌, min, Bool, true, false, not, cond, ltb, List, [], ◌∷◌, map, length, get_or, take, position, Some, None, Ok, Err, sum_by, sym, refl, ap, ◌∙◌, ⊎_elim, suc-mul, zero-mul, arith}
use Rattle.std.specs.List.{prefix_len, position_or_len, AllByRecursion}
use Rattle.std.proofs.lemmas.List.{length-append, length-map, get_or-map}
use Rattle.std.proofs.lemmas.List.Sums.{sum_by-cons, sum_by_more, prefix_len-le-length}
use Rattle.std.proofs.lemmas.Bool.{cond-true, cond-false, cases_Bool, lt-ltb, le-ltb, ltb-true, ltb-false}
use Rattle.std.proofs.lemmas.Option.{same_Some, none-some}
use Rattle.kinds.specs.Plain.{plain, sized, four}
use Rattle.kinds.proofs.Plains.{plain_fixed, plain_variable, sized_fixed}
use Rattle.refusals.specs.declared.fault.ChunkFault.TheVariants.{ValueLength}
use Rattle.ledger.specs.Pages.{plains}
use Rattle.ledger.specs.Batches.{unsized, unsized_place}
use Rattle.intake.specs.Admitting.{weighed}
use Rattle.intake.proofs.Fronts.{all_from_leading}
use Rattle.intake.proofs.Strays.{fronts_agree}

length-plains : (w : ℕ) (vs : List (List ℕ)) → length (plains w vs) ≡ sum_by (λ v. length (plain w v)) vs
length-plains w [] = refl
length-plains w (v ∷ vs) =
    length-append (plain w v) (plains w vs) ∙ ap (λ n. length (plain w v) + n) (length-plains w vs) ∙ sym (sum_by-cons (λ u. length (plain w u)) v vs)

plains-more : (w : ℕ) (vs : List (List ℕ)) (i : ℕ) → i < length vs
    → length (plains w (take (i + 1) vs)) ≡ length (plains w (take i vs)) + length (plain w (get_or vs i []))
plains-more w vs i h =
    length-plains w (take (i + 1) vs) ∙ sum_by_more (λ v. length (plain w v)) vs i [] h ∙ ap (λ n. n + length (plain w (get_or vs i []))) (sym (length-plains w (take i vs)))

-- a value of a list, by its bytes
read_bytes : {V : Type 0} (bytes : V → List ℕ) (xs : List V) (i : ℕ) (x : V) → i < length xs → x ≡ get_or xs i x → bytes x ≡ get_or (map bytes xs) i []
read_bytes bytes xs i x h e = ap bytes e ∙ sym (get_or-map bytes xs i x [] h)

-- a value of wrong length behind those of right length
weighed_wrong : (w : ℕ) (vs : List (List ℕ)) (i : ℕ) → i < length vs → prefix_len (sized w) vs ≡ i → Err (ValueLength i) ≡ weighed w vs
weighed_wrong w vs i h e =
    let t : ltb (prefix_len (sized w) vs) (length vs) ≡ true = lt-ltb _ _ (omega arith) in
    ap (λ k. Err (ValueLength k)) (sym e) ∙ sym (cond-true (unsized w vs) (Err (ValueLength (unsized_place w vs))) (Ok (min (length (plains w vs)) (2 ^ 64 - 1))) t)

-- none is of wrong length
weighed_right : (w : ℕ) (vs : List (List ℕ)) (n : ℕ) → prefix_len (sized w) vs ≡ length vs → n ≡ min (length (plains w vs)) (2 ^ 64 - 1) → Ok n ≡ weighed w vs
weighed_right w vs n e s =
    let t : ltb (prefix_len (sized w) vs) (length vs) ≡ false = le-ltb _ _ (omega arith) in
    ap Ok s ∙ sym (cond-false (unsized w vs) (Err (ValueLength (unsized_place w vs))) (Ok (min (length (plains w vs)) (2 ^ 64 - 1))) t)

-- ---- the plain bytes of values

-- values of one width have that many each
pub plains_fixed : (w : ℕ) (vs : List (List ℕ)) → 0 < w → AllByRecursion (λ v. sized w v ≡ true) vs → length (plains w vs) ≡ length vs * w
plains_fixed w [] some h = sym (zero-mul w)
plains_fixed w (v ∷ vs) some h =
    omega (arith, suc-mul (length vs) w, length-append (plain w v) (plains w vs), ap length (plain_fixed w v some), sized_fixed w v some h.0, plains_fixed w vs some h.1)

-- the lengths of the first i values, and four for each
abbrev pub LengthsSoFar : List (List ℕ) → ℕ → ℕ → Type 0
LengthsSoFar vs i n = n ≡ min (length (plains 0 (take i vs))) (2 ^ 64 - 1)

pub lengths_more : {V : Type 0} (bytes : V → List ℕ) (xs : List V) (i n : ℕ) (x : V) → i < length xs → x ≡ get_or xs i x → LengthsSoFar (map bytes xs) i n
    → LengthsSoFar (map bytes xs) (i + 1) (min (min (n + 4) (2 ^ 64 - 1) + length (bytes x)) (2 ^ 64 - 1))
lengths_more bytes xs i n x h e s =
    let v = get_or (map bytes xs) i [] in
    let is : bytes x ≡ v = read_bytes bytes xs i x h e in
    omega (arith, s, plains-more 0 (map bytes xs) i (omega (arith, length-map xs bytes)), ap length is, ap length (plain_variable 0 v (omega arith)), length-append (four (length v)) v)

-- ---- the first value of wrong length

front_mapped : {V : Type 0} (bytes : V → List ℕ) (p : List ℕ → Bool) (xs : List V) → prefix_len (λ v. p (bytes v)) xs ≡ prefix_len p (map bytes xs)
front_mapped bytes p [] = refl
front_mapped bytes p (x ∷ xs) = ap (λ n. cond (p (bytes x)) (1 + n) 0) (front_mapped bytes p xs)

module _ {V : Type 0} (bytes : V → List ℕ) (w : ℕ) (xs : List V) where
  abbrev wrong : V → Bool
  wrong v = not (sized w (bytes v))

  front : position_or_len wrong xs ≡ prefix_len (sized w) (map bytes xs)
  front = fronts_agree (λ v. sized w (bytes v)) xs ∙ front_mapped bytes (sized w) xs

  -- one stands there
  pub weigh_wrong : (i : ℕ) → position wrong xs ≡ Some i → Err (ValueLength i) ≡ weighed w (map bytes xs)
  weigh_wrong i e =
      let k = position_or_len wrong xs in
      ⊎_elim
      (λ t.
      let same : k ≡ i = same_Some k i (sym (ap (λ b. cond b (Some k) None) t) ∙ e) in
      weighed_wrong w (map bytes xs) i (omega (arith, ltb-true k (length xs) t, same, length-map xs bytes)) (sym front ∙ same))
      (λ t. absurd (none-some i (sym (ap (λ b. cond b (Some k) None) t) ∙ e)))
      (cases_Bool (ltb k (length xs)))

  -- none does
  whole : position wrong xs ≡ None → prefix_len (sized w) (map bytes xs) ≡ length (map bytes xs)
  whole e =
      let k = position_or_len wrong xs in
      ⊎_elim
      (λ t. absurd (none-some k (sym e ∙ ap (λ b. cond b (Some k) None) t)))
      (λ t. omega (arith, ltb-false k (length xs) t, prefix_len-le-length (λ v. not (wrong v)) xs, front, length-map xs bytes))
      (cases_Bool (ltb k (length xs)))

  pub weigh_right : (n : ℕ) → position wrong xs ≡ None
      → (AllByRecursion (λ v. sized w v ≡ true) (map bytes xs) → n ≡ min (length (plains w (map bytes xs))) (2 ^ 64 - 1)) → Ok n ≡ weighed w (map bytes xs)
  weigh_right n e is = weighed_right w (map bytes xs) n (whole e) (is (all_from_leading (sized w) (map bytes xs) (omega (arith, whole e))))
