use Rattle.std.proofs.Common.{sym, ◌∙◌, ap, subst}
use Rattle.wl_snapshot.specs.Snapshots.{IsPublication}
use Rattle.wl_snapshot.specs.Views.{ChosenFrom, entries_at}
use Rattle.wl_snapshot.proofs.Choices.{chosen_at}
use Rattle.wl_snapshot.proofs.make_view.view_of.Goals as goal

pub view_with-requires : goal.view_with-requires
view_with-requires c =
    let is = subst IsPublication c.snapshot.view_is c.snapshot.invariant in
    let entries = c.as_slice-2.ensures.value ∙ c.in_ok-entries.ensures ∙ ap (λ es. entries_at es c.args.places.now) (c.as_slice.ensures ∙ c.part.ensures ∙ ap (λ p. p.entries) c.snapshot.view_is) in
    subst (ChosenFrom c.args.snapshot.now) (sym entries) (chosen_at c.args.snapshot.now c.args.places.now is c.requires.rising c.requires.there)
