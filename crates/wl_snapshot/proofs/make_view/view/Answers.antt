use Rattle.std.proofs.Common.{filter, sym, ◌∙◌, ap, subst}
use Rattle.wl_snapshot.specs.Snapshots.{IsPublication}
use Rattle.wl_entry.specs.Entitled.{is_entitled}
use Rattle.wl_snapshot.specs.Views.{ChosenFrom}
use Rattle.wl_snapshot.proofs.Choices.{chosen_by}
use Rattle.wl_snapshot.proofs.make_view.view.Goals as goal

pub view_with-requires : goal.view_with-requires
view_with-requires c =
    let is = subst IsPublication c.snapshot.view_is c.snapshot.invariant in
    let entries = c.as_slice-2.ensures.value ∙ c.in_ok-entries.ensures ∙ ap (filter (is_entitled c.args.selectors.now)) (c.as_slice.ensures ∙ c.part.ensures ∙ ap (λ p. p.entries) c.snapshot.view_is) in
    subst (ChosenFrom c.args.snapshot.now) (sym entries) (chosen_by c.args.snapshot.now (is_entitled c.args.selectors.now) is)
