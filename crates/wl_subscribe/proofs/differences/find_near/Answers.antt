use Rattle.std.proofs.Common.{sym, ◌∙◌}
use Rattle.wl_subscribe.proofs.ByKey.{there_at}
use Rattle.wl_subscribe.proofs.differences.find_near.Goals as goal

pub returns-then-eq : goal.returns-then-eq
returns-then-eq g c =
    sym (there_at g.T.Keyed.key c.args.items.now c.args.place c.in-Some.item.now c.args.key.now c.requires (sym c.in-Some.ensures) (sym (rw c.key.ensures at c.eq.ensures) ∙ c.if-eq.true))
