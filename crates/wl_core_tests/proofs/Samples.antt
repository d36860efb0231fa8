-- Lists of events for the tests.
use Rattle.std.proofs.Common.{List, [], ◌∷◌, ◌++◌}
use Rattle.std.specs.List.{AllByRecursion}
use Rattle.wl_core.specs.declared.events.Event.{Event}
use Rattle.wl_core.specs.Events.{IsWithin}

pub within_more : (events : List Event) (e : Event) → AllByRecursion IsWithin events → IsWithin e → AllByRecursion IsWithin (events ++ e ∷ [])
within_more [] e all is = (is, tt)
within_more (first ∷ events) e all is = (all.0, within_more events e all.1 is)
