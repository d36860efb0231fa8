use Rattle.std.proofs.Common.{filter}
use Rattle.std.specs.List.{list_any, flat_map}
use Rattle.wl_entry.specs.Entitled.{is_entitled}
use Rattle.std.proofs.lemmas.List.Folds.{list_any-append}
use Rattle.wl_subscribe.specs.Filed.{is_hit}
use Rattle.wl_subscribe.specs.Differing.{federates_anew, entries_differing, all_differ, reasons}
use Rattle.wl_subscribe.proofs.Filings.{hit_all}
use Rattle.wl_subscribe.proofs.subscribers.hits_of.Goals as goal

pub returns-clause-hit : goal.returns-clause-hit
unfolding reasons
returns-clause-hit c = λ n sel at.
    let p = c.args.old.now in
    let q = c.args.new.now in
    let one = flat_map (entries_differing p q) c.args.ids.now in
    let other = filter (federates_anew p q) q.entries in
    let first = rw (c.all_differ.ensures.value, c.new.ensures.empty) at (c.in_ok-add_all_differing.ensures n sel at) in
    hit_all (is_hit c.add_federated_anew.new.self n) (is_hit c.add_all_differing.new.self n) (all_differ p q) (list_any (is_entitled sel) one) (list_any (is_entitled sel) other) (list_any (is_entitled sel) (reasons c.args.ids.now p q))
    (c.in_ok-add_federated_anew.ensures n sel at) first (list_any-append (is_entitled sel) one other)
