use Rattle.std.proofs.Common.{arith, ap, length}
use Rattle.spiffe_id.proofs.Sound.{id_long}
use Rattle.spiffe_id.proofs.ids.SpiffeId.parts.Goals as goal

pub slice_bounds-result-count : goal.slice_bounds-result-count
slice_bounds-result-count c = omega (arith, ap length c.as_slice.ensures, id_long c.self.inside.text c.self.invariant)

pub slice_bounds-result-start : goal.slice_bounds-result-start
slice_bounds-result-start c = omega (arith, ap length c.as_slice.ensures, id_long c.self.inside.text c.self.invariant)
