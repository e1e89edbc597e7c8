-- A page whose bounds admit no dip has none: its lower bound is above no number in it, and the limit is not above the bound.
use Rattle.std.proofs.Common.{◌≡◌, ℕ, Bool, true, false, not, ◌&&◌, List, [], length, Option, slice_index_or, sym, ap, ◌∙◌, inl, ⊎_elim, arith}
use Rattle.std.proofs.lemmas.Bool.{cases_Bool, ne_eqb}
use Rattle.kinds.specs.Meaning.{greater}
use Rattle.entries.specs.Entries.{said_marks}
use Rattle.entries.specs.declared.marks.Marks.{Marks}
use Rattle.floats.specs.Floats.{double}
use Rattle.pages.specs.declared.layout.Layout.{Layout}
use Rattle.ledger.specs.Pages.{Page}
use Rattle.ledger.specs.Entries.{marks}
use Rattle.ledger.proofs.Enclosing.{not_greater_on, page_encloses}
use Rattle.release.specs.Dips.{PassesOver}

-- none in a page, where the limit is not above its bound
pub no_dips : (l : Layout) (cut : Option ℕ) (p : Page) (limit : List ℕ) (k : Marks) → greater double limit k.min.bytes ≡ false → said_marks k ≡ marks double l cut p
    → PassesOver limit p.values
no_dips l cut p limit k above s i h =
    let v : List ℕ = slice_index_or p.values i [] in
    ⊎_elim
    (λ (t : double.nan v ≡ true). ap (λ b. not b && greater double limit v) t)
    (λ (t : double.nan v ≡ false).
    ap (λ b. not b && greater double limit v) t
    ∙ not_greater_on double limit k.min.bytes v above
    (ap (λ m. greater double m.min.bytes v) s ∙ (page_encloses double cut p i h (inl t)).above))
    (cases_Bool (double.nan v))

-- nor in a page that is passed over
pub passed_over : (l : Layout) (cut : Option ℕ) (p : Page) (limit : List ℕ) (k : Marks) (r : Bool) → r ≡ (not k.null_page && greater double limit k.min.bytes)
    → said_marks k ≡ marks double l cut p → r ≡ false → PassesOver limit p.values
passed_over l cut p limit k r e s none i h =
    let filled : k.null_page ≡ false = ap (λ m. m.null_page) s ∙ ne_eqb (length p.values) 0 (λ z. omega (arith, z, h)) in
    no_dips l cut p limit k (sym (ap (λ b. not b && greater double limit k.min.bytes) filled) ∙ sym e ∙ none) s i h
