-- A whole page: its two lists and its body are what went in.
use Rattle.std.proofs.Common.{◌≡◌, ℕ, eqb, List, ◌++◌, length, drop, sym, ap, ◌∙◌, ⊎_elim}
use Rattle.std.proofs.lemmas.List.{drop-drop, drop_at}
use Rattle.std.proofs.lemmas.Bool.{cond-false, ne_eqb, cases_eq}
use Rattle.level_coder.specs.Coding.{Coding}
use Rattle.body_coder.specs.Body.{Body}
use Rattle.pages.specs.declared.layout.Layout.{Layout}
use Rattle.pages.specs.Layout.{level_part, level_size_of}
use Rattle.pages.specs.Reading.{list_count, LevelsAt, levels_size, PageHolds}
use Rattle.pages.proofs.Parts.{length_part, size_none, part_none}

counted-part : (c : Coding) (version most n : ℕ) (ls : List ℕ) → length ls ≡ list_count most n → length (level_part c version most ls) ≡ level_size_of c version most n
counted-part c version most n ls e =
    ⊎_elim
    (λ z. ap length (part_none c version most ls z) ∙ sym (size_none c version most n z))
    (λ z. length_part c version most ls ∙ ap (level_size_of c version most) (e ∙ cond-false (eqb most 0) 0 n (ne_eqb most 0 z)))
    (cases_eq most 0)

module _ (c : Coding) (b : Body) (l : Layout) (n : ℕ) (page : List ℕ) where
  abbrev first : ℕ
  first = level_size_of c l.version l.max_rep_level n

  abbrev second : ℕ
  second = level_size_of c l.version l.max_def_level n

  module _ (rs ds pl : List ℕ) (h : PageHolds c b l n page rs ds pl) where
    abbrev p1 : List ℕ
    p1 = level_part c l.version l.max_rep_level rs

    abbrev p2 : List ℕ
    p2 = level_part c l.version l.max_def_level ds

    abbrev coded : List ℕ
    coded = b.coded l.width pl

    behind_first : drop first page ≡ p2 ++ coded
    behind_first = ap (drop first) h.same ∙ drop_at p1 (p2 ++ coded) first (counted-part c l.version l.max_rep_level n rs h.rep_count)

    behind_second : drop second (drop first page) ≡ coded
    behind_second = ap (drop second) behind_first ∙ drop_at p2 coded second (counted-part c l.version l.max_def_level n ds h.def_count)

    pub holds_levels : LevelsAt c l n page rs ds
    holds_levels = record {
      repetition = record { count = h.rep_count; fits = h.fits.repetition; front = h.same ∙ ap (λ x. p1 ++ x) (sym behind_first) };
      definition = record { count = h.def_count; fits = h.fits.definition; front = behind_first ∙ ap (λ x. p2 ++ x) (sym behind_second) };
    }

    pub holds_body : drop (levels_size c l n) page ≡ coded
    holds_body = sym (drop-drop second first page) ∙ behind_second

    pub body_long : length (drop (levels_size c l n) page) ≡ length pl
    body_long = ap length holds_body ∙ b.sized l.width pl h.fits.plain_bytes
