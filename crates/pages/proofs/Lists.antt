-- Reading a list back: what stands at the front of bytes, with its length before it or without.
use Rattle.std.proofs.Common.{◌≡◌, ℕ, ◌+◌, ◌≤◌, Bool, true, false, cond, ◌&&◌, eqb, List, [], ◌++◌, length, drop, Some, None, Option, MatchOption, sym, ap, ◌∙◌, subst, arith}
use Rattle.std.proofs.lemmas.List.{drop-drop, drop_all, append_assoc, append-nil, length-append}
use Rattle.std.proofs.lemmas.Bool.{cond-false, ne_eqb}
use Rattle.kinds.specs.Plain.{four}
use Rattle.level_coder.specs.Coding.{Coding, Begins, Read}
use Rattle.pages.specs.Layout.{with_length, level_part, level_size_of}
use Rattle.pages.specs.Widths.{bit_length}
use Rattle.pages.specs.Reading.{list_count, ListAt, NoListAt}
use Rattle.pages.proofs.Parts.{size-some, part-some, admitted, fitting}

-- what stands before a list's coded levels
abbrev pub before : Bool → ℕ → List ℕ
before t k = cond t (four k) []

with_before : (t : Bool) (bs : List ℕ) → with_length t bs ≡ before t (length bs) ++ bs
with_before true bs = cc
with_before false bs = cc

drop_before : (t : Bool) (k : ℕ) (bs : List ℕ) → drop (cond t 4 0) (before t k ++ bs) ≡ bs
drop_before true k bs = cc
drop_before false k bs = cc

-- a list of n levels whose maximum is above 0, by whether its length comes first
module _ (c : Coding) (version most n w : ℕ) (t : Bool) (bytes : List ℕ) (some : most ≡ 0 → ⊥) (narrow : most ≤ 15) (width : w ≡ bit_length most)
    (framing : t ≡ (eqb version 1 && c.framed)) where
  abbrev size : ℕ
  size = c.size n w

  counted : list_count most n ≡ n
  counted = cond-false (eqb most 0) 0 n (ne_eqb most 0 some)

  sized : level_size_of c version most n ≡ cond t 4 0 + size
  sized = size-some c version most n t some framing ∙ ap (λ b. cond t 4 0 + c.size n b) (sym width)

  parted : (ls : List ℕ) → length ls ≡ n → level_part c version most ls ≡ before t size ++ c.coded w ls
  parted ls l =
      part-some c version most ls t some framing ∙ ap (λ b. with_length t (c.coded b ls)) (sym width) ∙ with_before t (c.coded w ls)
      ∙ ap (λ k. before t k ++ c.coded w ls) (c.sized w ls ∙ ap (λ k. c.size k w) l)

  list_front : (ls : List ℕ) → ListAt c version most n bytes ls → bytes ≡ before t size ++ (c.coded w ls ++ drop (cond t 4 0 + size) bytes)
  list_front ls f =
      f.front ∙ ap (λ k. level_part c version most ls ++ drop k bytes) sized ∙ ap (λ x. x ++ drop (cond t 4 0 + size) bytes) (parted ls (f.count ∙ counted))
      ∙ append_assoc (before t size) (c.coded w ls) (drop (cond t 4 0 + size) bytes)

  -- bytes that do not begin with what stands before the coded levels
  pub no_list : (p : List ℕ) → p ≡ before t size → ((rest : List ℕ) → bytes ≡ p ++ rest → ⊥) → NoListAt c version most n bytes
  no_list p e apart ls f =
      let rest : List ℕ = c.coded w ls ++ drop (cond t 4 0 + size) bytes in
      apart rest (list_front ls f ∙ ap (λ x. x ++ rest) (sym e))

  module _ (coded : List ℕ) (split : bytes ≡ before t size ++ coded) where
    behind : (k : ℕ) → drop (cond t 4 0 + k) bytes ≡ drop k coded
    behind k = sym (drop-drop k (cond t 4 0) bytes) ∙ ap (λ x. drop k x) (ap (drop (cond t 4 0)) split ∙ drop_before t size coded)

    begins_list : (ls : List ℕ) → Begins c w n coded ls → ListAt c version most n bytes ls
    begins_list ls b = record {
      count = b.count ∙ sym counted;
      fits = fitting most w ls narrow width b.admitted;
      front =
          split ∙ ap (λ x. before t size ++ x) (b.front ∙ ap (λ x. c.coded w ls ++ x) (sym (behind size) ∙ ap (λ k. drop k bytes) (sym sized)))
          ∙ sym (append_assoc (before t size) (c.coded w ls) (drop (level_size_of c version most n) bytes))
          ∙ ap (λ x. x ++ drop (level_size_of c version most n) bytes) (sym (parted ls b.count));
    }

    list_begins : (ls : List ℕ) → ListAt c version most n bytes ls → Begins c w n coded ls
    list_begins ls f = record {
      count = f.count ∙ counted;
      admitted = admitted most w ls width f.fits;
      front =
          sym (drop_before t size coded) ∙ ap (drop (cond t 4 0)) (sym split ∙ list_front ls f)
          ∙ drop_before t size (c.coded w ls ++ drop (cond t 4 0 + size) bytes) ∙ ap (λ x. c.coded w ls ++ x) (behind size);
    }

    -- what reading its coded levels says of the list
    pub list_read : (lv lv' : List ℕ) → length lv ≡ list_count most n → (r : Option ℕ) → Read c w n coded lv lv' r
        → MatchOption r (NoListAt c version most n bytes) (λ k. ListAt c version most n bytes lv' × (drop k coded ≡ drop (level_size_of c version most n) bytes))
    list_read lv lv' room None r = λ ls f. r.1 (omega (arith, room, counted)) ls (list_begins ls f)
    list_read lv lv' room (Some k) r =
        let whole : lv' ≡ r.2.0 = r.2.2 ∙ ap (λ x. r.2.0 ++ x) (drop_all n lv (omega (arith, room, counted))) ∙ append-nil r.2.0 in (
          subst (ListAt c version most n bytes) (sym whole) (begins_list r.2.0 r.2.1),
          ap (λ j. drop j coded) r.0 ∙ sym (behind size) ∙ ap (λ j. drop j bytes) (sym sized),
        )

-- coded levels that were read lie within the bytes
pub read_within : (c : Coding) (b n : ℕ) (bytes lv lv' : List ℕ) (k : ℕ) → Read c b n bytes lv lv' (Some k) → k ≤ length bytes
read_within c b n bytes lv lv' k r =
    let f = r.2.1 in
    omega (
      arith,
      r.0,
      ap length f.front,
      length-append (c.coded b r.2.0) (drop (c.size n b) bytes),
      c.sized b r.2.0,
      ap (λ m. c.size m b) f.count,
    )
