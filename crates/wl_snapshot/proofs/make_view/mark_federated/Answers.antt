use Rattle.std.proofs.Common.{take, ◌∙◌}
use Rattle.std.specs.Str.{bytes_eq}
use Rattle.std.specs.List.{list_any}
use Rattle.wl_entry.specs.declared.bundles.Bundle.{Bundle}
use Rattle.wl_snapshot.specs.Views.{is_federated}
use Rattle.wl_snapshot.proofs.Marks.{any_more}
use Rattle.wl_snapshot.proofs.make_view.mark_federated.Goals as goal

pub loop-entry-preserved : goal.loop-entry-preserved
unfolding is_federated
loop-entry-preserved c =
    let marks = c.mark_domains.ensures.marked (λ (b : Bundle). is_federated (take c.loop-entry.entry-index c.args.entries.now) b.domain) c.loop-entry.invariant.marked in
    let ofs = rw c.as_slice.ensures at marks in
    let one = rw c.part.ensures at ofs in
    record {
      each = c.mark_domains.ensures.each;
      marked = one ∙ any_more (λ e b. list_any (λ other. bytes_eq other b.domain) e.federates_with) c.args.bundles.now c.args.entries.now c.loop-entry.entry-index c.entry-item.result c.loop-entry-test.true c.entry-item.is;
    }
