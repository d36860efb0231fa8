use Rattle.std.proofs.Common.{◌∙◌, ap}
use Rattle.wl_match.specs.Indexes.{entitled_places}
use Rattle.wl_match.proofs.ChosenPlaces.{rising_are, there_are, chosen_are}
use Rattle.wl_match.proofs.index.Index.entitled.Goals as goal

pub returns-clause-chosen : goal.returns-clause-chosen
returns-clause-chosen c =
    let is = c.in_ok-places.ensures ∙ ap (entitled_places c.args.selectors.now) (c.as_slice-entries.ensures.value ∙ c.self.view_is) in
    chosen_are c.args.selectors.now c.args.self.now c.in_ok-places.places is

pub returns-clause-rising : goal.returns-clause-rising
returns-clause-rising c =
    let is = c.in_ok-places.ensures ∙ ap (entitled_places c.args.selectors.now) (c.as_slice-entries.ensures.value ∙ c.self.view_is) in
    rising_are c.args.selectors.now c.args.self.now c.in_ok-places.places is

pub returns-clause-there : goal.returns-clause-there
returns-clause-there c =
    let is = c.in_ok-places.ensures ∙ ap (entitled_places c.args.selectors.now) (c.as_slice-entries.ensures.value ∙ c.self.view_is) in
    there_are c.args.selectors.now c.args.self.now c.in_ok-places.places is
