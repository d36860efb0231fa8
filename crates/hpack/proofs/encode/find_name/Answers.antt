use Rattle.std.proofs.Common.{arith, sym}
use Rattle.hpack.specs.Tables.{static_table, no_field}
use Rattle.hpack.specs.Writing.{same_name}
use Rattle.hpack.proofs.StaticTable.{static_count}
use Rattle.hpack.proofs.WrittenBlocks.{position_is, position_none}
use Rattle.hpack.proofs.encode.find_name.Goals as goal

pub returns-then-eq-clause-first : goal.returns-then-eq-clause-first
returns-then-eq-clause-first c =
    let name = rw (c.static_name.ensures, c.as_slice.ensures) at (sym c.if-eq.ensures) in
    position_is (same_name c.args.header.now) static_table c.loop-place.place no_field (omega (arith, static_count)) c.loop-place.invariant name

pub returns-clause-first : goal.returns-clause-first
returns-clause-first c = position_none (same_name c.args.header.now) static_table c.loop-place.place no_field (omega (arith, static_count)) c.loop-place.invariant
