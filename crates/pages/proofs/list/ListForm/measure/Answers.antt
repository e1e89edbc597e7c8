use Rattle.std.proofs.Common.{◌*◌, ◌%◌, ◌^◌, ap, ◌∙◌, arith}
use Rattle.std.proofs.lemmas.Nat.{one_shl}
use Rattle.pages.proofs.Bits.{four_bits}
use Rattle.pages.proofs.Parts.{measured}
use Rattle.pages.proofs.list.ListForm.measure.Goals as goal

pub returns : goal.returns
returns g c =
    let w = c.width.result in
    let s = c.in_ok-size.ensures in
    let limit = 1 * 2 ^ w % 256 in
    rw c.then_some.ensures
    (measured g.L.LevelCoder.coding c.args.self.version c.args.self.max limit c.in_ok-size.size c.args.levels.now c.are_below.result s
    (one_shl w 8 (omega (arith, c.width.ensures, four_bits c.args.self.max s.1)) ∙ ap (λ b. 2 ^ b) c.width.ensures) c.are_below.ensures)
