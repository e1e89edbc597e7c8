-- What reading a page answers, step by step: nothing where a part is not there, and else the page's parts.
use Rattle.std.proofs.Common.{◌≡◌, ℕ, ◌≤◌, true, cond, eqb, nat_eq, List, ◌++◌, length, take, drop, count_by, Some, None, sym, refl, ap, ◌∙◌, subst, ⊎_elim, arith}
use Rattle.std.proofs.lemmas.List.{drop-drop, take_at}
use Rattle.std.proofs.lemmas.Bool.{cond-true, cond-false, eq-eqb, ne_eqb, cases_eq}
use Rattle.level_coder.specs.Coding.{Coding}
use Rattle.body_coder.specs.Body.{Body, whole, Wrote}
use Rattle.pages.specs.declared.layout.Layout.{Layout}
use Rattle.pages.specs.declared.list.ListForm.{ListForm}
use Rattle.pages.specs.Counts.{values_in}
use Rattle.pages.specs.Layout.{level_part, level_size_of}
use Rattle.pages.specs.Reading.{list_count, ListAt, NoListAt, levels_size, PageHolds, Roomy, PageTaken, PageRead, ReadsBack}
use Rattle.pages.proofs.Whole.{holds_levels, body_long}
use Rattle.pages.proofs.Unique.{reads_back}

-- a list's levels have as many values as the front of a list that begins with them
values_front : (most n : ℕ) (ds rest : List ℕ) → length ds ≡ list_count most n → cond (eqb most 0) n (count_by (nat_eq most) ds) ≡ values_in most n (ds ++ rest)
values_front most n ds rest e =
    ⊎_elim
    (λ z. cond-true (eqb most 0) n (count_by (nat_eq most) ds) (eq-eqb most 0 z) ∙ sym (cond-true (eqb most 0) n (count_by (nat_eq most) (take n (ds ++ rest))) (eq-eqb most 0 z)))
    (λ z.
    let count : length ds ≡ n = e ∙ cond-false (eqb most 0) 0 n (ne_eqb most 0 z) in
    ap (λ xs. cond (eqb most 0) n (count_by (nat_eq most) xs)) (sym (take_at ds rest n count)))
    (cases_eq most 0)

-- reading into three lists, by the forms of the layout's level lists
module _ (c : Coding) (b : Body) (l : Layout) (n : ℕ) (page ro dn po : List ℕ) (rf df : ListForm) (rf-is : rf ≡ record { version = l.version; max = l.max_rep_level })
    (df-is : df ≡ record { version = l.version; max = l.max_def_level }) where
  abbrev first : ℕ
  first = level_size_of c l.version l.max_rep_level n

  abbrev second : ℕ
  second = level_size_of c l.version l.max_def_level n

  abbrev Nothing : List ℕ → List ℕ → List ℕ → Type 0
  Nothing ro' dn' po' = PageRead c b l n page ro dn po ro' dn' po' None × ReadsBack c b l n page ro dn po ro' dn' po' None

  nothing : (ro' dn' po' : List ℕ) → ro' ≡ ro → dn' ≡ dn → po' ≡ po → ((rs ds pl : List ℕ) → PageHolds c b l n page rs ds pl → Roomy l n pl ro dn po → ⊥) → Nothing ro' dn' po'
  nothing ro' dn' po' er ed e none = ((er, ed, e, none), λ rs ds pl h room. absurd (none rs ds pl h room))

  pub no_reps : (ro' dn' : List ℕ) → ro' ≡ ro → dn' ≡ dn → NoListAt c rf.version rf.max n page → Nothing ro' dn' po
  no_reps ro' dn' er ed none =
      nothing ro' dn' po er ed refl
      (λ rs ds pl h room. subst (λ (f : ListForm). NoListAt c f.version f.max n page) rf-is none rs (holds_levels c b l n page rs ds pl h).repetition)

  module _ (rest : List ℕ) (behind-reps : rest ≡ drop (level_size_of c rf.version rf.max n) page) where
    rest-is : rest ≡ drop first page
    rest-is = behind-reps ∙ ap (λ (f : ListForm). drop (level_size_of c f.version f.max n) page) rf-is

    pub no_defs : (ro' dn' : List ℕ) → ro' ≡ ro → dn' ≡ dn → NoListAt c df.version df.max n rest → Nothing ro' dn' po
    no_defs ro' dn' er ed none =
        nothing ro' dn' po er ed refl
        (λ rs ds pl h room.
        subst (λ (f : ListForm). NoListAt c f.version f.max n rest) df-is none ds
        (subst (λ x. ListAt c l.version l.max_def_level n x ds) (sym rest-is) (holds_levels c b l n page rs ds pl h).definition))

    module _ (body : List ℕ) (behind-defs : body ≡ drop (level_size_of c df.version df.max n) rest) where
      body-is : body ≡ drop (levels_size c l n) page
      body-is =
          behind-defs ∙ ap (λ (f : ListForm). drop (level_size_of c f.version f.max n) rest) df-is ∙ ap (drop second) rest-is ∙ drop-drop second first page

      pub no_plain : (ro' dn' po' : List ℕ) → ro' ≡ ro → dn' ≡ dn → Wrote b l.width body (b.plain l.width body) po po' None → Nothing ro' dn' po'
      no_plain ro' dn' po' er ed w =
          nothing ro' dn' po' er ed w.0
          (λ rs ds pl h room.
          let long : length body ≡ length pl = ap length body-is ∙ body_long c b l n page rs ds pl h in
          w.1 (ap (λ k. whole b.joins l.width k) long ∙ h.fits.plain_bytes) (omega (arith, long, room.plain_room)))

      -- levels that were read, and copied to the lists
      module _ (rs ds : List ℕ) (few : n ≤ 1024) (ra : ListAt c rf.version rf.max n page rs) (da : ListAt c df.version df.max n rest ds) (rc dc : ℕ)
          (rc-is : rc ≡ list_count rf.max n) (dc-is : dc ≡ list_count df.max n) (r-room : rc ≤ length ro) (d-room : dc ≤ length dn) where
        ra-is : ListAt c l.version l.max_rep_level n page rs
        ra-is = subst (λ (f : ListForm). ListAt c f.version f.max n page rs) rf-is ra

        da-is : ListAt c l.version l.max_def_level n rest ds
        da-is = subst (λ (f : ListForm). ListAt c f.version f.max n rest ds) df-is da

        holds : (pl : List ℕ) → length pl ≡ length body → body ≡ b.coded l.width pl → whole b.joins l.width (length body) ≡ true → PageHolds c b l n page rs ds pl
        holds pl long coded w = record {
          few = few;
          rep_count = ra-is.count;
          def_count = da-is.count;
          fits = record {
            repetition = ra-is.fits;
            definition = da-is.fits;
            plain_bytes = ap (λ m. whole b.joins l.width m) long ∙ w;
          };
          same =
              ra-is.front
              ∙ ap (λ x. level_part c l.version l.max_rep_level rs ++ x)
              (sym rest-is ∙ da-is.front ∙ ap (λ x. level_part c l.version l.max_def_level ds ++ x) (ap (drop second) rest-is ∙ drop-drop second first page ∙ sym body-is ∙ coded));
        }

        taken : (po' : List ℕ) (k : ℕ) → Wrote b l.width body (b.plain l.width body) po po' (Some k)
            → PageTaken c b l n page ro dn po (rs ++ drop rc ro) (ds ++ drop dc dn) po' k
        taken po' k w =
            let pl : List ℕ = b.plain l.width body in
            let long : length pl ≡ length body = b.unsized l.width body w.1 in
            record {
              reps = rs;
              defs = ds;
              plain = pl;
              holds = holds pl long (sym (b.forth l.width body w.1)) w.1;
              roomy = record {
                rep_room = omega (arith, r-room, rc-is, ra.count, ra-is.count);
                def_room = omega (arith, d-room, dc-is, da.count, da-is.count);
                plain_room = omega (arith, long, w.0, w.2);
              };
              size = w.0 ∙ sym long;
              rep_after = ap (λ m. rs ++ drop m ro) (rc-is ∙ sym ra.count);
              def_after = ap (λ m. ds ++ drop m dn) (dc-is ∙ sym da.count);
              plain_after = w.3;
            }

        -- the parts, that they are what went in, and how many values they have
        pub page_taken : (rs' ds' rt dt po' : List ℕ) (k values : ℕ) → rs' ≡ rs → ds' ≡ ds → rt ≡ drop rc ro → dt ≡ drop dc dn → Wrote b l.width body (b.plain l.width body) po po' (Some k)
            → values ≡ cond (eqb df.max 0) n (count_by (nat_eq df.max) ds)
            → PageTaken c b l n page ro dn po (rs' ++ rt) (ds' ++ dt) po' k
            × ReadsBack c b l n page ro dn po (rs' ++ rt) (ds' ++ dt) po' (Some k)
            × (values ≡ values_in l.max_def_level n (ds' ++ dt))
        page_taken rs' ds' rt dt po' k values re de rte dte w v =
            let ro' : List ℕ = rs' ++ rt in
            let dn' : List ℕ = ds' ++ dt in
            let read : PageTaken c b l n page ro dn po ro' dn' po' k = rw (re, de, rte, dte) (taken po' k w) in (
              read,
              reads_back c b l n page ro dn po ro' dn' po' (Some k) read,
              v ∙ ap (λ (f : ListForm). cond (eqb f.max 0) n (count_by (nat_eq f.max) ds)) df-is ∙ values_front l.max_def_level n ds dt da-is.count
                  ∙ ap (λ x. values_in l.max_def_level n (x ++ dt)) (sym de),
            )
