-- Assembling a page: what it leaves, and why it is absent only where there is no page or no room for one.
use Rattle.std.proofs.Common.{◌≡◌, ℕ, ◌+◌, ◌<◌, true, List, ◌++◌, length, drop, Some, None, sym, refl, ap, ◌∙◌, subst, arith}
use Rattle.std.proofs.lemmas.List.{drop-drop, drop_at, append_assoc, length-append}
use Rattle.level_coder.specs.Coding.{Coding}
use Rattle.body_coder.specs.Body.{Body, whole, Wrote}
use Rattle.pages.specs.declared.layout.Layout.{Layout}
use Rattle.pages.specs.declared.list.ListForm.{ListForm}
use Rattle.pages.specs.Layout.{level_part, page_bytes}
use Rattle.pages.specs.Pages.{Measured, Assembled}
use Rattle.pages.proofs.Parts.{length_page}

-- levels that take r and d bytes in lists of the layout's forms
module _ (c : Coding) (b : Body) (l : Layout) (reps defs plain out : List ℕ) (r d : ℕ) (rf df : ListForm) (rf-is : rf ≡ record { version = l.version; max = l.max_rep_level })
    (df-is : df ≡ record { version = l.version; max = l.max_def_level }) (rm : Measured c rf.version rf.max reps (Some r))
    (dm : Measured c df.version df.max defs (Some d)) where
  mr : Measured c l.version l.max_rep_level reps (Some r)
  mr = subst (λ (f : ListForm). Measured c f.version f.max reps (Some r)) rf-is rm

  md : Measured c l.version l.max_def_level defs (Some d)
  md = subst (λ (f : ListForm). Measured c f.version f.max defs (Some d)) df-is dm

  page_length : whole b.joins l.width (length plain) ≡ true → length (page_bytes c b l reps defs plain) ≡ r + d + length plain
  page_length w = omega (arith, length_page c b l reps defs plain w, mr.1, md.1)

  pub no_lists : length out < r + d → Assembled c b l reps defs plain out out None
  no_lists h = (refl, λ f room. omega (arith, h, room, page_length f.plain_bytes))

  module _ (lists body body' : List ℕ) (split : out ≡ lists ++ body) (long : length lists ≡ r + d) where
    out_length : length out ≡ r + d + length body
    out_length = ap length split ∙ length-append lists body ∙ ap (λ n. n + length body) long

    pub no_body : Wrote b l.width plain (b.coded l.width plain) body body' None → Assembled c b l reps defs plain out (lists ++ body') None
    no_body w = (
      ap (λ x. lists ++ x) w.0 ∙ sym split,
      λ f room. w.1 f.plain_bytes (omega (arith, room, page_length f.plain_bytes, out_length)),
    )

    pub whole_page : (p q : List ℕ) (n : ℕ) → p ≡ level_part c rf.version rf.max reps → q ≡ level_part c df.version df.max defs
        → Wrote b l.width plain (b.coded l.width plain) body body' (Some n) → Assembled c b l reps defs plain out ((p ++ q) ++ body') (Some (r + d + n))
    whole_page p q n ep eq w =
        let p' : List ℕ = level_part c l.version l.max_rep_level reps in
        let q' : List ℕ = level_part c l.version l.max_def_level defs in
        let coded : List ℕ = b.coded l.width plain in
        let behind : drop n body ≡ drop (r + d + n) out =
        ap (drop n) (sym (ap (drop (r + d)) split ∙ drop_at lists body (r + d) long)) ∙ drop-drop n (r + d) out in (
          record { repetition = mr.0; definition = md.0; plain_bytes = w.1 },
          omega (arith, page_length w.1, w.0),
          omega (arith, out_length, w.2),
          ap (λ x. (x ++ q) ++ body') (ep ∙ ap (λ (f : ListForm). level_part c f.version f.max reps) rf-is)
              ∙ ap (λ x. (p' ++ x) ++ body') (eq ∙ ap (λ (f : ListForm). level_part c f.version f.max defs) df-is)
              ∙ ap (λ x. (p' ++ q') ++ x) (w.3 ∙ ap (λ x. coded ++ x) behind)
              ∙ append_assoc p' q' (coded ++ drop (r + d + n) out) ∙ ap (λ x. p' ++ x) (sym (append_assoc q' coded (drop (r + d + n) out)))
              ∙ sym (append_assoc p' (q' ++ coded) (drop (r + d + n) out)),
        )
