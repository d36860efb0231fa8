use Rattle.std.proofs.Common.{◌||◌, ◌∙◌, ap}
use Rattle.wl_entry.specs.Entitled.{is_entitled}
use Rattle.wl_subscribe.specs.Filed.{has_number, is_hit}
use Rattle.wl_subscribe.proofs.Filings.{or_true, entitled_to_open, first_missing, first_there, and_found, entitled_has}
use Rattle.wl_subscribe.proofs.hits.Hits.add_entry.Goals as goal

pub returns-in_default : goal.returns-in_default
returns-in_default c = λ n sel at.
    let none = rw c.as_slice-selectors.ensures.value at c.in_default.ensures.value in
    or_true (is_hit c.args.self.now n) (is_entitled sel c.args.entry.now) (entitled_to_open sel c.args.entry.now (first_missing c.args.entry.now.selectors none))

pub returns : goal.returns
returns c = λ n sel at.
    let e = c.args.entry.now in
    let first = rw c.as_slice-selectors.ensures.value at c.in-Some.ensures.value in
    c.in_ok-add_numbers.ensures n sel at ∙ ap (λ b. is_hit c.args.self.now n || b) (and_found (has_number c.shortest.result.now n) (is_entitled sel e)
    (λ on. c.shortest.ensures n (c.requires n sel at c.in-Some.first.now (entitled_has sel e on c.in-Some.first.now (first_there e.selectors c.in-Some.first.now first)))
    (rw c.as_slice-selectors.ensures.value (λ text has. c.requires n sel at text (entitled_has sel e on text has)))))
