use Rattle.std.specs.Prelude.{not}
use Rattle.std.proofs.Common.{◌≡◌, rules, sym, ◌∙◌, ap}
use Rattle.sorted_blocks.specs.Blocks.{is_above}
use Rattle.sorted_blocks.proofs.BlockOfKey.{begins_first, begins_none}
use Rattle.sorted_blocks.proofs.placing.begins_up_to.Goals as goal

pub returns-in-Some : goal.returns-in-Some
returns-in-Some g c =
    let over : c.is_gt.result ≡ is_above g.T.Keyed.key c.args.key.now c.in-Some.item.now = search rules in
    ap not over ∙ sym (begins_first g.T.Keyed.key c.args.key.now c.args.items.now c.in-Some.item.now (sym c.in-Some.ensures.value))

pub returns-in-None : goal.returns-in-None
returns-in-None g c = sym (begins_none g.T.Keyed.key c.args.key.now c.args.items.now (sym c.in-None.ensures.value))
