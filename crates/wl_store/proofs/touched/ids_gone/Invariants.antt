use Rattle.std.proofs.Common.{◌≡◌, not, map, filter, take}
use Rattle.list_laws.specs.Keys.{item_at}
use Rattle.wl_entry.specs.Keys.{entry_key}
use Rattle.wl_store.specs.Touched.{is_entry}
use Rattle.wl_store.proofs.touched.ids_gone.Given as goal

abbrev pub invariant-loop-entry : goal.invariant-loop-entry
invariant-loop-entry l = l.ids.items ≡ map entry_key (filter (λ e. not (is_entry (item_at entry_key l.after e.id) e)) (take l.entry-index l.before))
