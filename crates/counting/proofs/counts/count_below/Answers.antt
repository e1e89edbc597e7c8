use Rattle.std.proofs.Common.{ltb, ap, ◌∙◌, arith, w8}
use lib.Count.{ones}
use Rattle.std.proofs.lemmas.Simd.{bitmask_splat, ones-mask_l}
use Rattle.counting.proofs.counts.count_below.Goals as goal

pub returns : goal.returns
returns c =
    let v = c.args.lanes in
    let limit = c.args.limit in
    ap ones (bitmask_splat w8 ltb v 16 limit c.requires (omega arith)) ∙ ones-mask_l (λ n. ltb n limit) v
