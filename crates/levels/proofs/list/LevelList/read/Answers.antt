use Rattle.std.proofs.Common.{◌≡◌, ℕ, ◌-◌, List, ◌++◌, length, take, Some, None, refl, ap, ◌∙◌, arith, length-take-le}
use Rattle.std.proofs.lemmas.Slice.Eq.{strip_prefix_is}
use Rattle.std.proofs.lemmas.Bool.Decides.{Decides-eqb}
use Rattle.levels.proofs.Fronts.{took_none, no_front, starts_long, starts_behind}
use Rattle.levels.proofs.list.LevelList.read.Goals as goal

pub returns-in_err-behind : goal.returns-in_err-behind
returns-in_err-behind c =
    let l = c.args.self.now in
    let none = strip_prefix_is Decides-eqb c.args.bytes.now c.as_slice.result.now None c.in_err-behind.ensures.cases in
    took_none c.args.order l.header l.len l.b l.n c.args.bytes.now c.args.levels.now c.from_residual.result c.from_residual.ensures
    (λ _ ls s. no_front c.args.order l.header l.len l.b l.n c.args.bytes.now ls c.as_slice.result.now c.as_slice.ensures.bytes none s)

pub returns-in_err-body : goal.returns-in_err-body
returns-in_err-body c =
    let l = c.args.self.now in
    took_none c.args.order l.header l.len l.b l.n c.args.bytes.now c.args.levels.now c.from_residual-in_err-body.result c.from_residual-in_err-body.ensures
    (λ _ ls s. omega (arith, c.in_err-body.ensures.lookup.0, c.in_ok-behind.ensures.cases.2, ap length c.as_slice.ensures.bytes, starts_long c.args.order l.header l.len l.b l.n c.args.bytes.now ls s))

pub returns : goal.returns
returns c =
    let l = c.args.self.now in
    let behind : List ℕ = c.in_ok-behind.behind.now in
    let body : List ℕ = c.in_ok-body.body.now in
    let front = strip_prefix_is Decides-eqb c.args.bytes.now c.as_slice.result.now (Some c.in_ok-behind.behind) c.in_ok-behind.ensures.cases in
    let e = front ∙ ap (λ x. x ++ behind) c.as_slice.ensures.bytes in
    let got = c.in_ok-body.ensures.lookup.0 in
    let z : l.len - 0 ≡ l.len = omega arith in
    let is : body ≡ take l.len behind = got.2 ∙ ap (λ d. take d behind) z in
    let many : length c.unpack.new.levels ≡ l.n = c.unpack.auto.levels ∙ length-take-le l.n c.args.levels.now (omega arith) in (
      c.size.ensures,
      omega arith,
      (
        c.unpack.new.levels,
        starts_behind c.args.order l.header l.len l.b l.n c.args.bytes.now c.unpack.new.levels behind body e is got.1 many c.in_ok-unpack.ensures.1 c.in_ok-unpack.ensures.2,
        refl,
      ),
    )
