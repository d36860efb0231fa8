use Rattle.std.proofs.Common.{sym, ◌∙◌, ap}
use Rattle.wl_subscribe.specs.Filed.{is_hit}
use Rattle.wl_subscribe.specs.Subscribed.{affected_numbers}
use Rattle.wl_subscribe.proofs.Reasons.{affected_are, differ_for}
use Rattle.wl_subscribe.proofs.subscribers.Subscribers.affected_at.Goals as goal

pub returns : goal.returns
returns c =
    let p = c.args.old.now in
    let q = c.args.new.now in
    c.from_vec.ensures ∙ c.in_ok-numbers_hit.ensures.value
    ∙ affected_are p q (record { next = c.self.inside.next; members = c.self.inside.members.entries }) (is_hit c.in_ok-hits.hits) c.in_ok-numbers_hit.ensures.rising
    (λ n sel at. c.in_ok-hits.ensures.hit n sel at ∙ sym (differ_for p q sel c.in_ok-hits.ensures.old c.in_ok-hits.ensures.new c.args.ids.now c.requires))
    ∙ ap (affected_numbers p q) c.self.view_is
