use Rattle.std.proofs.Common.{◌≡◌, ℕ, length, sym, ap, ◌∙◌, subst}
use Rattle.bits.specs.Rows.{Fit, packed}
use Rattle.bits.specs.Packing.{Room, Written}
use Rattle.bits.proofs.Exact.{read_back, written_fit}
use Rattle.bits.proofs.packing.unpack.Goals as goal

pub repack-requires-clause-fit : goal.repack-requires-clause-fit
repack-requires-clause-fit c =
    let room = c.has_room.ensures.0 c.if-not-has_room.false in
    written_fit c.args.order c.args.b (length c.args.levels.now) c.args.bytes.now (c.is_written.ensures.0 c.if-not-is_written.false) room.holds

pub returns : goal.returns
returns c =
    let n : ℕ = length c.args.levels.now in
    let room : Room n c.args.b (length c.args.bytes.now) = c.has_room.ensures.0 c.if-not-has_room.false in
    let w : Written c.args.order c.args.b n c.args.bytes.now = c.is_written.ensures.0 c.if-not-is_written.false in
    let e : c.repack.new.out ≡ w.levels = read_back c.args.order c.args.b n c.args.bytes.now c.repack.new.out w room.holds c.repack.ensures in
    (room, subst (Fit c.args.b) (sym e) w.fit, w.same ∙ ap (packed c.args.order c.args.b (length c.args.bytes.now)) (sym e))
