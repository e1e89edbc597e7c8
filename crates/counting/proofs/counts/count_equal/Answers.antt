use Rattle.std.proofs.Common.{◌≡◌, ℕ, eqb, count_by, sym, ap, ◌∙◌, ⊎_elim, arith, w8}
use Rattle.std.proofs.lemmas.Bool.{cases_eq, eq-eqb, ne_eqb}
use lib.Count.{ones}
use Rattle.std.proofs.lemmas.Simd.{bitmask_splat, ones-mask_l}
use Rattle.counting.proofs.counts.count_equal.Goals as goal

turned : (a b : ℕ) → eqb a b ≡ eqb b a
turned a b = ⊎_elim (λ e. eq-eqb a b e ∙ sym (eq-eqb b a (sym e))) (λ ne. ne_eqb a b ne ∙ sym (ne_eqb b a (λ e. ne (sym e)))) (cases_eq a b)

pub returns : goal.returns
returns c =
    let v = c.args.lanes in
    let one = c.args.one in
    ap ones (bitmask_splat w8 eqb v 16 one c.requires (omega arith)) ∙ ones-mask_l (λ n. eqb n one) v ∙ (λ k. count_by (λ n. turned n one k) v)
