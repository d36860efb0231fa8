use Rattle.std.proofs.Common.{sym, ◌∙◌, ap}
use Rattle.wl_publish.proofs.Additions.{adds_moves}
use Rattle.wl_publish.proofs.book.Prefix.add.Goals as goal

pub compare_exchange-found-requires : goal.compare_exchange-found-requires
compare_exchange-found-requires c =
    let h = c.requires.head in
    let book = ap (λ l. l.store) c.self.view_is in
    let seen = c.again-seen.ensures in
    let offer = c.plain-offer.ensures in
    let pen = c.no_pen-pen.ensures in
    let store = ap (λ s. s.book) seen ∙ (book ∙ sym (ap (λ w. w.book) h)) in (
      ap (λ w. w.tracked) h,
      store,
      pen.0 ∙ store,
      offer.0,
      rw (ap (λ w. w.key) h, pen.1, offer.1, offer.3, ap (λ s. s.log) seen) (adds_moves c.self.inside.seen.log c.args.next.now c.self.inside.count c.in-Some.more (sym c.self.invariant) c.in-Some.ensures.1),
    )
