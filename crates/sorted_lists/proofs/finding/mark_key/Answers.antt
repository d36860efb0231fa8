use Rattle.std.proofs.Common.{true, map, slice_set, ap, sym, ◌∙◌}
use Rattle.sorted_lists.proofs.Marks.{marked, marks_key}
use Rattle.sorted_lists.proofs.finding.mark_key.Goals as goal

pub returns-in-Some-clause-marked : goal.returns-in-Some-clause-marked
returns-in-Some-clause-marked g c before is =
    let place = sym c.place_by_key.ensures.place ∙ c.in-Some.is in
    ap (λ marks. slice_set marks c.in-Some.place true) is ∙ ap (marked (map before c.args.items.now)) (sym place) ∙ marks_key g.T.Keyed.key before c.args.key.now c.args.items.now c.requires.rising

pub returns-in_default-clause-marked : goal.returns-in_default-clause-marked
returns-in_default-clause-marked g c before is =
    let place = sym c.place_by_key.ensures.place ∙ c.in_default.is in
    is ∙ ap (marked (map before c.args.items.now)) (sym place) ∙ marks_key g.T.Keyed.key before c.args.key.now c.args.items.now c.requires.rising
