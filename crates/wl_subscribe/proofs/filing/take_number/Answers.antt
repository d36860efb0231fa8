use Rattle.wl_subscribe.proofs.Filings.{has_taken}
use Rattle.wl_subscribe.proofs.filing.take_number.Goals as goal

pub returns-in-Some : goal.returns-in-Some
returns-in-Some c = λ n other has.
    let lt = rw c.as_slice.ensures at c.in-Some.ensures.0 in
    let at = rw c.as_slice.ensures at c.in-Some.ensures.1 in
    rw c.remove.ensures.items (has_taken c.args.numbers.now c.in-Some.place c.args.number n lt at other has)
