use Rattle.std.proofs.Common.{◌≡◌, sym, ◌∙◌, ap, subst, List, [], ◌∷◌, ◌++◌, Some}
use Rattle.wl_snapshot.specs.Snapshots.{Publication}
use Rattle.wl_store.specs.Steps.{Stored, news}
use Rattle.wl_publish.specs.Listings.{Listing}
use Rattle.wl_desk.specs.Desks.{DeskState, Follows}
use Rattle.wl_desk.proofs.Nexts.{has_next, is_new}
use Rattle.wl_desk.proofs.desk.Desk.settle.Goals as goal

pub publish-requires-clause-number : goal.publish-requires-clause-number
publish-requires-clause-number g c =
    let step = c.args.prepared.step in
    let is : Some c.in-Some.published_snapshot ≡ news step.answer.change step.next.published = cc (c.in-Some.is, c.in-Ok.ensures.value) in
    let follows = subst (λ (d : DeskState). Follows d.managed.stored.published step.answer.change step.next.published) (sym c.self.view_is) c.requires in
    has_next c.self.inside.publisher.list c.self.inside.manager.stored.published step.next.published c.in-Some.published_snapshot step.answer.change c.self.invariant is follows

pub invariant_of-self-in-Ok-publish : goal.invariant_of-self-in-Ok-publish
invariant_of-self-in-Ok-publish g c =
    let step = c.args.prepared.step in
    let is : Some c.in-Some.published_snapshot ≡ news step.answer.change step.next.published = cc (c.in-Some.is, c.in-Ok.ensures.value) in
    let published = is_new step.next.published c.in-Some.published_snapshot step.answer.change is ∙ sym (ap (λ (m : Stored). m.published) c.adopt-adopted-in-Ok-publish.ensures.stored) in
    (c.self.inside.publisher.list, ap (λ (l : Listing). l.list) c.in-Ok-publish.ensures.0 ∙ ap (λ (p : Publication). c.self.inside.publisher.list ++ p ∷ []) published)
