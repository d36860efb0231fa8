use Rattle.std.proofs.Common.{sym, ap, arith}
use Rattle.std.proofs.lemmas.List.{get_or_past}
use Rattle.hpack.specs.Tables.{static_table, no_field}
use Rattle.hpack.proofs.StaticTable.{static_count}
use Rattle.hpack.proofs.static_table.static_name.Goals as goal

pub returns-in_default : goal.returns-in_default
returns-in_default c = sym (ap (λ entry. entry.name) (get_or_past static_table c.args.place no_field (omega (arith, static_count))))
