use Rattle.std.proofs.Common.{flat_map, drop}
use Rattle.h2_frame.specs.Writing.{setting_bytes}
use Rattle.list_laws.proofs.Gains.{GainsUpTo}
use Rattle.h2_frame.proofs.writing.put_settings.Given as goal

abbrev pub invariant-loop-pair : goal.invariant-loop-pair
invariant-loop-pair l = GainsUpTo (flat_map setting_bytes l.pairs) (flat_map setting_bytes (drop l.pair-index l.pairs)) l.initial.out l.out
