use Rattle.std.proofs.Common.{◌≡◌, ℕ, ◌*◌, ap, arith}
use Rattle.bits.specs.Packing.{groups}
use Rattle.levels.proofs.Rooms.{packed_room}
use Rattle.levels.proofs.packed.list_of.Goals as goal

pub invariant_of-result : goal.invariant_of-result
invariant_of-result c =
    let e : c.div_ceil.result ≡ groups c.args.n = omega (arith, c.div_ceil.ensures) in
    record { room = packed_room c.args.n c.args.b (c.div_ceil.result * c.args.b) (c.admits.ensures.0 c.if-not-admits.false) (ap (λ (g : ℕ). g * c.args.b) e) }
