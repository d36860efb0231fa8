use Rattle.std.proofs.Common.{◌≡◌, take}
use Rattle.wl_store.specs.Stores.{asks_of}
use Rattle.wl_store.proofs.lists.asks_for.Given as goal

abbrev pub invariant-loop-entry : goal.invariant-loop-entry
invariant-loop-entry l = l.asks.items ≡ asks_of (take l.entry-index l.entries)
