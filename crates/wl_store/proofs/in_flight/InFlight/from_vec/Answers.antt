use Rattle.std.proofs.Common.{length, ◌∙◌, ap}
use Rattle.wl_store.proofs.UnmarkedFlights.{all_unmarked}
use Rattle.wl_store.proofs.in_flight.InFlight.from_vec.Goals as goal

pub returns : goal.returns
returns c =
    all_unmarked c.in_ok-new.field-0 c.args.flights.items c.in_ok-marks.marks.items c.len.result (c.in_ok-new.ensures.ok ∙ c.from_vec-flights.ensures) (c.in_ok-marks.ensures.items_if_clones_equal (λ y same. same)) (c.len.ensures.value ∙ ap length c.from_vec-flights.ensures)
