use Rattle.std.proofs.Common.{sym, ◌∙◌, arith, None}
use Rattle.std.proofs.lemmas.Result.{err_from_is_err_and}
use Rattle.hpack.proofs.Refusals.{Refuses-map}
use Rattle.hpack.proofs.Headers.{ends_there, fails_there, passes_there, too_long_there, names_there, shorter_there}
use Rattle.hpack.proofs.blocks.headers.Goals as goal

pub returns-in_err-named : goal.returns-in_err-named
returns-in_err-named c =
    let p = err_from_is_err_and c.from_residual-in_err-named.result c.from_residual-in_err-named.ensures.1 in
    rw (p.1, p.2) (Refuses-map c.in_err-named.field-0.0 (λ e. c.each.invariant ∙ fails_there c.each.headers.items c.each.table c.each.begun c.each.room c.in-Some.first.now c.each.rest.now c.in_err-named.field-0.0 (sym c.in-Some.ensures.value) e) c.in_err-named.ensures)

pub returns-then-room-size : goal.returns-then-room-size
returns-then-room-size c =
    let read = rw c.in-Some-named.is at c.in_ok-named.ensures in
    c.each.invariant ∙ too_long_there c.each.headers.items c.each.table c.representation.new.table c.each.begun c.each.room c.in-Some.first.now c.each.rest.now c.in_ok-named.after.now c.in-Some-named.header (sym c.in-Some.ensures.value) read (omega (arith, c.size-size.ensures))

pub each-smaller-in_default-named : goal.each-smaller-in_default-named
each-smaller-in_default-named c =
    let read = rw c.in_default-named.is at c.in_ok-named.ensures in
    shorter_there c.each.table c.each.begun c.in-Some.first.now c.each.rest.now (None, c.representation.new.table, c.in_ok-named.after.now) (sym c.in-Some.ensures.value) read

pub each-preserved-in_default-named : goal.each-preserved-in_default-named
each-preserved-in_default-named c =
    let read = rw c.in_default-named.is at c.in_ok-named.ensures in
    c.each.invariant ∙ passes_there c.each.headers.items c.each.table c.representation.new.table c.each.begun c.each.room c.in-Some.first.now c.each.rest.now c.in_ok-named.after.now (sym c.in-Some.ensures.value) read

pub each-smaller : goal.each-smaller
each-smaller c = shorter_there c.each.table c.each.begun c.in-Some.first.now c.each.rest.now (c.in_ok-named.named, c.representation.new.table, c.in_ok-named.after.now) (sym c.in-Some.ensures.value) c.in_ok-named.ensures

pub each-preserved : goal.each-preserved
each-preserved c =
    let read = rw c.in-Some-named.is at c.in_ok-named.ensures in
    rw (c.in_ok-push.ensures.items, c.size-size.ensures) (c.each.invariant ∙ names_there c.each.headers.items c.each.table c.representation.new.table c.each.begun c.each.room c.in-Some.first.now c.each.rest.now c.in_ok-named.after.now c.in-Some-named.header (sym c.in-Some.ensures.value) read (omega (arith, c.size-size.ensures)))

pub returns : goal.returns
returns c = rw c.from_vec.ensures (c.each.invariant ∙ ends_there c.each.headers.items c.each.table c.each.begun c.each.room c.each.rest.now c.in_default.ensures.value)
