use Rattle.std.proofs.Common.{◌≡◌, true, sym, subst}
use Rattle.wl_subscribe.specs.Filed.{has_number, is_filed}
use Rattle.wl_subscribe.proofs.Filings.{text_at_place}
use Rattle.wl_subscribe.proofs.hits.shortest.Goals as goal

pub loop-selector-init : goal.loop-selector-init
unfolding is_filed
loop-selector-init c = λ n first all. subst (λ l. has_number l n ≡ true) (sym c.numbers_at-best.ensures) first

pub loop-selector-preserved : goal.loop-selector-preserved
unfolding is_filed
loop-selector-preserved c = λ n first all.
    let there = text_at_place c.args.selectors.now c.loop-selector.selector-index c.selector-item.result c.loop-selector-test.true c.selector-item.is in
    c.shorter-best.ensures n (c.loop-selector.invariant n first all) (subst (λ l. has_number l n ≡ true) (sym c.numbers_at.ensures) (all c.selector-item.result there))
