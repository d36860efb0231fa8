use Rattle.std.proofs.Common.{◌≡◌, ◌∙◌, Bool, true, false, ap, sym, append-nil}
use Rattle.std.specs.List.{list_any}
use Rattle.wl_entry.specs.Same.{same_ask}
use Rattle.wl_store.specs.Stores.{is_in_flight}
use Rattle.wl_store.proofs.FlightAsks.{in_flight_under, without_in_flight_more}
use Rattle.wl_store.proofs.flights.without_in_flight.Goals as goal
use Rattle.wl_store.proofs.flights.without_in_flight.Goals.{then-not-has_flight+in_ok-copy+in_ok-push, else-not-has_flight}

pub loop-ask-preserved : goal.loop-ask-preserved
loop-ask-preserved c =
    let a = c.ask-item.result in
    let in_flight = c.args.in_flight.now in
    let group_all : c.has_flight.result ≡ is_in_flight in_flight a = c.has_flight.ensures ∙ ap (list_any (λ b. same_ask b a)) (c.in_ok-groups.ensures a.entry_id) ∙ in_flight_under a in_flight in
    let more = (λ (has_ticket : Bool). λ (is : c.has_flight.result ≡ has_ticket). without_in_flight_more in_flight c.args.asks.now c.loop-ask.ask-index a has_ticket c.loop-ask-test.true c.ask-item.is (sym group_all ∙ is)) in
    elim c.if-not-has_flight.branch [
      | then-not-has_flight+in_ok-copy+in_ok-push w ↦ rw w.left-is (w.in_ok-push.ensures.items ∙ rw (c.loop-ask.invariant, w.in_ok-copy.ensures) (more false w.if-not-has_flight.true))
      | else-not-has_flight w ↦ rw w.left-is (c.loop-ask.invariant ∙ sym (append-nil _) ∙ more true w.if-not-has_flight.false)
    ]
