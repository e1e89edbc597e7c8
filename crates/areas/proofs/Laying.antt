-- What an area holds once bytes are laid into it: they, and around them what it held.
use Rattle.std.proofs.Common.{◌≡◌, ℕ, ◌+◌, ◌-◌, ◌≤◌, leb, List, ◌++◌, length, take, drop, sym, refl, ap, ◌∙◌, arith}
use Rattle.std.proofs.lemmas.List.{length-drop, length-append, length-take-le, take_at, drop_at, drop-drop}
use Rattle.std.proofs.lemmas.Bool.{le-leb, cond-true}
use Rattle.areas.specs.Areas.{laid}

module _ (area : List ℕ) (at : ℕ) (bs : List ℕ) (room : at + length bs ≤ length area) where
  pub laid_is : laid area at bs ≡ take at area ++ (bs ++ drop (at + length bs) area)
  laid_is = cond-true (leb (at + length bs) (length area)) _ area (le-leb (at + length bs) (length area) room)

  before : length (take at area) ≡ at
  before = length-take-le at area (omega arith)

  pub length-laid : length (laid area at bs) ≡ length area
  length-laid = ap length laid_is ∙ length-append (take at area) (bs ++ drop (at + length bs) area) ∙ omega (arith, before, length-append bs (drop (at + length bs) area), length-drop (at + length bs) area)

  pub take-laid : take at (laid area at bs) ≡ take at area
  take-laid = ap (take at) laid_is ∙ take_at (take at area) _ at before

  drop_laid_at : drop at (laid area at bs) ≡ bs ++ drop (at + length bs) area
  drop_laid_at = ap (drop at) laid_is ∙ drop_at (take at area) _ at before

  pub middle_laid : take (length bs) (drop at (laid area at bs)) ≡ bs
  middle_laid = ap (take (length bs)) drop_laid_at ∙ take_at bs _ (length bs) refl

  pub drop-laid : (n : ℕ) → at + length bs ≤ n → drop n (laid area at bs) ≡ drop n area
  drop-laid n le =
      let m = n - (at + length bs) in
      let e : at + (length bs + m) ≡ n = omega arith in
      let f : at + length bs + m ≡ n = omega arith in
      sym (drop-drop (length bs + m) at (laid area at bs) ∙ ap (λ k. drop k (laid area at bs)) e)
      ∙ ap (drop (length bs + m)) drop_laid_at
      ∙ sym (drop-drop m (length bs) (bs ++ drop (at + length bs) area))
      ∙ ap (drop m) (drop_at bs (drop (at + length bs) area) (length bs) refl)
      ∙ drop-drop m (at + length bs) area ∙ ap (λ k. drop k area) f
