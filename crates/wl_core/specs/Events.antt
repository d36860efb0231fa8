-- What can happen.
use Rattle.std.specs.Prelude.{◌<◌}
use Rattle.wl_core.specs.declared.events.TheConstants.{CONNS}
use Rattle.wl_core.specs.declared.events.Event.{Event}
use Rattle.wl_core.specs.declared.events.Event.TheVariants as events

-- a connection that an event names is one of those that there may be
abbrev pub IsWithin : Event → Type 0
IsWithin (events.Sync document) = Unit {0}
IsWithin (events.Claim now) = Unit {0}
IsWithin (events.Signed ticket signed now) = Unit {0}
IsWithin (events.Failed ticket) = Unit {0}
IsWithin (events.Join conn selectors) = conn < CONNS
IsWithin (events.Name conn selectors) = conn < CONNS
IsWithin (events.Feed conn piece) = conn < CONNS
IsWithin (events.Turn conn) = conn < CONNS
IsWithin (events.Token conn now signed) = conn < CONNS
IsWithin (events.Close conn) = conn < CONNS
