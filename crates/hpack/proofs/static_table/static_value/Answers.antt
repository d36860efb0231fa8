use Rattle.std.proofs.Common.{sym, arith}
use Rattle.hpack.proofs.StaticTable.{no_value}
use Rattle.hpack.proofs.static_table.static_value.Goals as goal

pub returns-in_default : goal.returns-in_default
returns-in_default c = sym (no_value c.args.place (omega arith))
