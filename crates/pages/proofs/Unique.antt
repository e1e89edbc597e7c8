-- No two inputs of as many levels make one page: by the coders' own laws.
use Rattle.std.proofs.Common.{◌≡◌, ℕ, Bool, true, false, ◌&&◌, eqb, List, ◌++◌, length, drop, Some, None, Option, sym, refl, ap, ◌∙◌, ⊎_elim}
use Rattle.std.proofs.lemmas.List.{nil_from_length}
use Rattle.std.proofs.lemmas.Bool.{cond-true, eq-eqb, cases_eq}
use Rattle.level_coder.specs.Coding.{Coding}
use Rattle.body_coder.specs.Body.{Body}
use Rattle.pages.specs.declared.layout.Layout.{Layout}
use Rattle.pages.specs.Layout.{with_length, level_size_of}
use Rattle.pages.specs.Widths.{bit_length}
use Rattle.pages.specs.Reading.{list_count, ListAt, PageHolds, PageRead, ReadsBack}
use Rattle.pages.proofs.Parts.{part-some}
use Rattle.pages.proofs.Whole.{holds_levels, holds_body}

same_behind : (t : Bool) (xs ys p q : List ℕ) → with_length t xs ++ p ≡ with_length t ys ++ q → xs ++ p ≡ ys ++ q
same_behind true xs ys p q e = ap (drop 4) e
same_behind false xs ys p q e = e

list_once : (c : Coding) (version most n : ℕ) (bytes ls ms : List ℕ) → ListAt c version most n bytes ls → ListAt c version most n bytes ms → ls ≡ ms
list_once c version most n bytes ls ms f g =
    let rest : List ℕ = drop (level_size_of c version most n) bytes in
    let t : Bool = eqb version 1 && c.framed in
    let w : ℕ = bit_length most in
    ⊎_elim
    (λ z.
    let none : list_count most n ≡ 0 = cond-true (eqb most 0) 0 n (eq-eqb most 0 z) in
    nil_from_length ls (f.count ∙ none) ∙ sym (nil_from_length ms (g.count ∙ none)))
    (λ z.
    c.unique w ls ms rest rest f.fits.fit g.fits.fit (g.count ∙ sym f.count)
    (same_behind t (c.coded w ls) (c.coded w ms) rest rest
    (ap (λ x. x ++ rest) (sym (part-some c version most ls t z refl)) ∙ sym f.front ∙ g.front ∙ ap (λ x. x ++ rest) (part-some c version most ms t z refl))))
    (cases_eq most 0)

module _ (c : Coding) (b : Body) (l : Layout) (n : ℕ) (page : List ℕ) where
  -- what makes one page is one
  pub same_parts : (rs ds pl rs' ds' pl' : List ℕ) → PageHolds c b l n page rs ds pl → PageHolds c b l n page rs' ds' pl' → (rs ≡ rs') × (ds ≡ ds') × (pl ≡ pl')
  same_parts rs ds pl rs' ds' pl' p q =
      let at = holds_levels c b l n page rs ds pl p in
      let be = holds_levels c b l n page rs' ds' pl' q in
      let same : b.coded l.width pl ≡ b.coded l.width pl' = sym (holds_body c b l n page rs ds pl p) ∙ holds_body c b l n page rs' ds' pl' q in (
        list_once c l.version l.max_rep_level n page rs rs' at.repetition be.repetition,
        list_once c l.version l.max_def_level n (drop (level_size_of c l.version l.max_rep_level n) page) ds ds' at.definition be.definition,
        sym (b.back l.width pl p.fits.plain_bytes) ∙ ap (b.plain l.width) same ∙ b.back l.width pl' q.fits.plain_bytes,
      )

  pub reads_back : (ro dn po ro' dn' po' : List ℕ) (r : Option ℕ) → PageRead c b l n page ro dn po ro' dn' po' r → ReadsBack c b l n page ro dn po ro' dn' po' r
  reads_back ro dn po ro' dn' po' None p = λ rs ds pl h room. absurd (p.3 rs ds pl h room)
  reads_back ro dn po ro' dn' po' (Some k) p =
      λ rs ds pl h room.
      let e = same_parts p.reps p.defs p.plain rs ds pl p.holds h in
      let ek : k ≡ length pl = p.size ∙ ap length e.2 in (
        ap Some ek,
        p.rep_after ∙ ap (λ x. x ++ drop (length x) ro) e.0,
        p.def_after ∙ ap (λ x. x ++ drop (length x) dn) e.1,
        p.plain_after ∙ ap (λ x. x ++ drop k po) e.2 ∙ ap (λ m. pl ++ drop m po) ek,
      )
