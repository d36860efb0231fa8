use Rattle.std.proofs.Common.{◌≡◌, ◌∙◌, ap}
use Rattle.std.specs.Map.{values_of}
use Rattle.wl_match.specs.Changes.{changed_entries}
use Rattle.wl_match.proofs.ById.{values_by_id, keys_by_id, changed_few}
use Rattle.wl_match.proofs.changes.changed_list.Goals as goal

pub returns-clause-value : goal.returns-clause-value
returns-clause-value c =
    let made = c.in_ok-make_all.ensures c.args.entries.now c.in_ok-all.ensures in
    c.in_ok-list.ensures.value ∙ ap values_of made ∙ values_by_id (changed_entries c.args.changes.now c.args.entries.now)

pub returns-clause-rises : goal.returns-clause-rises
returns-clause-rises c =
    let made = c.in_ok-make_all.ensures c.args.entries.now c.in_ok-all.ensures in
    let value : c.in_ok-list.list.items ≡ changed_entries c.args.changes.now c.args.entries.now = c.in_ok-list.ensures.value ∙ ap values_of made ∙ values_by_id (changed_entries c.args.changes.now c.args.entries.now) in
    rw (value, ← keys_by_id (changed_entries c.args.changes.now c.args.entries.now)) (rw made at c.in_ok-list.ensures.ordered)

pub returns-clause-at_most : goal.returns-clause-at_most
returns-clause-at_most c =
    let made = c.in_ok-make_all.ensures c.args.entries.now c.in_ok-all.ensures in
    let value : c.in_ok-list.list.items ≡ changed_entries c.args.changes.now c.args.entries.now = c.in_ok-list.ensures.value ∙ ap values_of made ∙ values_by_id (changed_entries c.args.changes.now c.args.entries.now) in
    rw value (changed_few c.args.changes.now c.args.entries.now)
