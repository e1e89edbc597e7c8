use Rattle.std.proofs.Common.{◌≡◌, ℕ, Bool, true, false, ◌&&◌, eqb, List, ◌++◌, None, Some, sym, ap, ◌∙◌, arith}
use Rattle.std.proofs.lemmas.List.{take_rest}
use Rattle.std.proofs.lemmas.Slice.Eq.{strip_prefix_is}
use Rattle.std.proofs.lemmas.Bool.Decides.{Decides-eqb}
use Rattle.kinds.specs.Plain.{four}
use Rattle.pages.proofs.Lists.{before, no_list, list_read, read_within}
use Rattle.pages.proofs.list.ListForm.read.Goals as goal
use Rattle.pages.proofs.list.ListForm.read.Goals.{then-has_length+in_ok-size+in_ok-coded, else-has_length}

pub returns-in_err-coded : goal.returns-in_err-coded
returns-in_err-coded g c =
    rw c.from_residual-in_err-coded.ensures
    (no_list g.L.LevelCoder.coding c.args.self.version c.args.self.max c.args.n c.width.result true c.args.bytes.now c.if-self-eq0.false (omega arith)
    c.width.ensures c.if-has_length.ensures c.four_bytes.result (c.four_bytes.ensures ∙ ap four c.in_ok-size.ensures.0)
    (strip_prefix_is Decides-eqb c.args.bytes.now c.four_bytes.result None c.in_err-coded.ensures.cases))

pub slice_bounds-result-count : goal.slice_bounds-result-count
slice_bounds-result-count g c =
    read_within g.L.LevelCoder.coding c.width-2.result c.args.n c.if-has_length.coded.now c.args.levels.now c.read.new.levels c.in_ok-size-2.size c.in_ok-size-2.ensures

pub slice_bounds-result-start : goal.slice_bounds-result-start
slice_bounds-result-start g c =
    let h = read_within g.L.LevelCoder.coding c.width-2.result c.args.n c.if-has_length.coded.now c.args.levels.now c.read.new.levels c.in_ok-size-2.size c.in_ok-size-2.ensures in
    omega arith

pub returns : goal.returns
returns g c =
    let coding = g.L.LevelCoder.coding in
    let n : ℕ = c.args.n in
    let w : ℕ = c.width-2.result in
    let bytes : List ℕ = c.args.bytes.now in
    let coded : List ℕ = c.if-has_length.coded.now in
    let k : ℕ = c.in_ok-size-2.size in
    let at : (t : Bool) × (t ≡ (eqb c.args.self.version 1 && coding.framed)) × (bytes ≡ before t (coding.size n w) ++ coded) =
    elim c.if-has_length.branch [
      | then-has_length+in_ok-size+in_ok-coded v ↦ (
        true,
        v.if-has_length.ensures,
        strip_prefix_is Decides-eqb bytes v.four_bytes.result (Some v.in_ok-coded.coded) v.in_ok-coded.ensures.cases
            ∙ ap (λ x. x ++ v.in_ok-coded.coded.now)
            (v.four_bytes.ensures ∙ ap four (v.in_ok-size.ensures.0 ∙ ap (coding.size n) (v.width.ensures ∙ sym c.width-2.ensures)))
            ∙ ap (λ x. four (coding.size n w) ++ x.now) (sym v.coded-is),
      )
      | else-has_length v ↦ (false, v.if-has_length.ensures, sym (ap (λ x. x.now) v.coded-is))
    ] in
    let r = list_read coding c.args.self.version c.args.self.max n w at.0 bytes c.if-self-eq0.false (omega arith) c.width-2.ensures at.1 coded at.2
    c.args.levels.now c.read.new.levels c.requires (Some k) c.in_ok-size-2.ensures in
    (r.0, take_rest coded k ∙ r.1)
