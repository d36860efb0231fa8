use Rattle.std.proofs.Common.{◌||◌, take, ◌∙◌}
use Rattle.std.specs.Str.{bytes_eq}
use Rattle.std.specs.List.{list_any}
use Rattle.wl_entry.specs.declared.bundles.Bundle.{Bundle}
use Rattle.wl_snapshot.proofs.Marks.{any_more_of}
use Rattle.wl_snapshot.proofs.make_view.mark_domains.Goals as goal

pub loop-domain-preserved : goal.loop-domain-preserved
loop-domain-preserved c =
    record {
      each = c.mark_key.ensures.each;
      marked = λ before is.
          let marks = c.mark_key.ensures.marked (λ (b : Bundle). before b || list_any (λ other. bytes_eq other b.domain) (take c.loop-domain.domain-index c.args.domains.now)) (c.loop-domain.invariant.marked before is) in
          let key = rw c.as_bytes.ensures.value at marks in
          key ∙ any_more_of before (λ other b. bytes_eq other b.domain) c.args.bundles.now c.args.domains.now c.loop-domain.domain-index c.domain-item.result c.loop-domain-test.true c.domain-item.is;
    }
