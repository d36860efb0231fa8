use Rattle.std.proofs.Common.{sym, ◌∙◌, ap}
use Rattle.wl_publish.specs.declared.rule.Current.{Current}
use Rattle.wl_publish.proofs.Keeps.{learns_all, shown_is}
use Rattle.wl_publish.proofs.steps.begin.Goals as goal

pub publish_as-requires : goal.publish_as-requires
publish_as-requires g c next is =
    let w = c.in-Ok.writer in
    let x = w.desk.shown.value in
    let queued = c.in-Ok.ensures.queued in
    let e = shown_is (x.published_snapshot, x.prefix) _ next c.args.again queued.0 is in
    let published_snapshot = e.0 ∙ (c.requires.same.1 ∙ sym (ap (λ d. d.shown.value.published_snapshot) queued.1)) in
    let prefix = e.1 ∙ (c.requires.same.0 ∙ sym (ap (λ d. d.shown.value.prefix) queued.1)) in
    learns_all g.V.Voucher.signed (λ (x : Current). x.prefix.store) (λ (x : Current). x.prefix.list) (λ (x : Current). x.published_snapshot) _ x next _ (ap (λ p. p.store) prefix) (ap (λ p. p.list) prefix) published_snapshot
