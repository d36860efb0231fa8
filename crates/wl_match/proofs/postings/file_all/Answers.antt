use Rattle.std.proofs.Common.{◌∙◌, refl, sym}
use Rattle.wl_match.specs.Postings.{ids_under}
use Rattle.wl_match.proofs.SelectorFiles.{ids_more}
use Rattle.wl_match.proofs.postings.file_all.Goals as goal

pub loop-entry-init : goal.loop-entry-init
unfolding ids_under
loop-entry-init c = λ q. rw c.new-groups.ensures.empty refl

pub loop-entry-preserved : goal.loop-entry-preserved
loop-entry-preserved c = λ q.
    let e = c.entry-item.result in
    c.in_ok-file.ensures q ∙ rw (c.part.ensures, c.loop-entry.invariant q) (sym (ids_more q c.args.entries.now c.loop-entry.entry-index e c.loop-entry-test.true c.entry-item.is))
