use Rattle.wl_selector.proofs.Members.{sorted_short, sorted_has}
use Rattle.wl_selector.proofs.sets.Selectors.from_list.Goals as goal

pub returns-clause-short : goal.returns-clause-short
returns-clause-short c = rw c.in_ok-in_order.ensures.ok (sorted_short c.args.items.items)

pub returns-clause-members : goal.returns-clause-members
returns-clause-members c text = rw c.in_ok-in_order.ensures.ok (sorted_has text c.args.items.items)
