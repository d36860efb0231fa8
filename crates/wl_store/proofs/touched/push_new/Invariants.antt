use Rattle.std.proofs.Common.{◌≡◌, ◌++◌, not, map, filter, take}
use Rattle.std.specs.Prelude.{is_some}
use Rattle.list_laws.specs.Keys.{item_at}
use Rattle.wl_entry.specs.Keys.{entry_key}
use Rattle.wl_store.proofs.touched.push_new.Given as goal

abbrev pub invariant-loop-entry : goal.invariant-loop-entry
invariant-loop-entry l = l.ids.items ≡ l.fn.ids.items ++ map entry_key (filter (λ e. not (is_some (item_at entry_key l.before e.id))) (take l.entry-index l.after))
