use Rattle.std.proofs.Common.{◌≡◌, ◌<◌, length, get_or, subst, ◌&&◌, ◌+◌, take, filter, ◌∙◌}
use Rattle.std.specs.List.{list_any}
use Rattle.wl_entry.specs.Entitled.{is_entitled}
use Rattle.wl_subscribe.specs.Filed.{is_hit}
use Rattle.wl_subscribe.specs.Differing.{federates_anew}
use Rattle.wl_subscribe.proofs.Filings.{hit_both, more_passing}
use Rattle.wl_subscribe.proofs.hits.Hits.add_all_federated.Goals as goal

pub loop-entry-preserved : goal.loop-entry-preserved
loop-entry-preserved c = λ n sel at.
    let t = federates_anew c.args.old.now c.args.new.now in
    let es = c.args.new.now.entries in
    let i = c.loop-entry.entry-index in
    let x = c.entry-item.result in
    let items : c.as_slice-entry-items.result.now ≡ es = c.as_slice-entry-items.ensures ∙ (c.part.ensures ∙ (λ j. (c.new.view_is j).entries)) in
    let lt : i < length es = subst (λ l. i < length l) items c.loop-entry-test.true in
    let is : x ≡ get_or es i x = subst (λ l. x ≡ get_or l i x) items c.entry-item.is in
    let step = rw c.part-in-loop-entry.ensures at (c.in_ok-add_federated.ensures n sel at) in
    hit_both (is_hit c.add_federated.new.self n) (is_hit c.loop-entry.self n) (is_hit c.args.self.now n) (list_any (is_entitled sel) (filter t (take i es))) (t x && is_entitled sel x) (list_any (is_entitled sel) (filter t (take (i + 1) es)))
    step (c.loop-entry.invariant n sel at) (more_passing t (is_entitled sel) es i x lt is)
