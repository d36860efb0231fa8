use Rattle.std.proofs.Common.{arith, sym}
use Rattle.std.specs.Cmp.Derive.{both_true}
use Rattle.hpack.specs.Tables.{static_table, no_field}
use Rattle.hpack.specs.Writing.{same_field}
use Rattle.hpack.proofs.StaticTable.{static_count}
use Rattle.hpack.proofs.WrittenBlocks.{position_is, position_none}
use Rattle.hpack.proofs.encode.find_field.Goals as goal

pub returns-then-eq-2-clause-first : goal.returns-then-eq-2-clause-first
returns-then-eq-2-clause-first c =
    let name = rw (c.static_name.ensures, c.as_slice.ensures) at (sym c.if-eq.ensures) in
    let value = rw (c.static_value.ensures, c.as_slice-then-eq.ensures) at (sym c.if-eq-2.ensures) in
    position_is (same_field c.args.header.now) static_table c.loop-place.place no_field (omega (arith, static_count)) c.loop-place.invariant (both_true name value)

pub returns-clause-first : goal.returns-clause-first
returns-clause-first c = position_none (same_field c.args.header.now) static_table c.loop-place.place no_field (omega (arith, static_count)) c.loop-place.invariant
