use Rattle.std.proofs.Common.{ap, sym, ◌∙◌}
use Rattle.std.specs.Prelude.{option_and_then, slice_get}
use Rattle.sorted_lists.proofs.Places.{found_there}
use Rattle.sorted_lists.proofs.finding.find_by_key.Goals as goal

pub returns-in-Some : goal.returns-in-Some
returns-in-Some g c =
    let items = c.args.items.now in
    let place = sym c.place_by_key.ensures.place ∙ c.in-Some.is in
    c.item_in.ensures ∙ sym (found_there g.T.Keyed.key c.args.key.now items ∙ ap (option_and_then (slice_get items)) place)
