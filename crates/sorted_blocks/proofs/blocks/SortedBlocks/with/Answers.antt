use Rattle.std.proofs.Common.{◌++◌, ◌<◌, length, map, sym, ◌∙◌, ap, subst}
use Rattle.list_laws.specs.Lists.{Rises}
use Rattle.sorted_blocks.specs.Blocks.{join, AreFilled, with_item}
use Rattle.sorted_blocks.specs.Places.{IsPlace}
use Rattle.sorted_blocks.proofs.OneMoreItem.{rises_with}
use Rattle.sorted_blocks.proofs.BlockOfKey.{rises_in, some_put, put_whole, filled_whole}
use Rattle.sorted_blocks.proofs.blocks.SortedBlocks.with.Goals as goal

pub block_with-requires : goal.block_with-requires
block_with-requires g c =
    let blocks = ap join c.as_slice-blocks.ensures.value ∙ c.self.view_is in
    subst (λ l. Rises (map g.T.Keyed.key l)) (sym c.parts_at-parts.ensures.block)
    (rises_in g.T.Keyed.key c.key.result.now c.place_of.result c.as_slice-blocks.result.now (subst (λ l. Rises (map g.T.Keyed.key l)) (sym blocks) c.requires))

pub push_block-requires : goal.push_block-requires
push_block-requires g c =
    subst (λ l. 0 < length l) (sym (c.as_slice.ensures.value ∙ c.in_ok-block.ensures)) (some_put g.T.Keyed.key c.args.item c.parts_at-parts.result.block.now)

pub invariant_of-result : goal.invariant_of-result
invariant_of-result g c =
    filled_whole c.place_of.result c.as_slice-blocks.result.now c.push_shares.new.shares.items c.push_block.new.blocks.items c.push_shares-2.new.shares.items c.parts_at-parts.result.back.now
    (subst AreFilled (sym c.as_slice-blocks.ensures.value) c.self.invariant)
    (c.in_ok-push_shares.ensures ∙ (λ i. c.in_ok-blocks.ensures.items i ++ c.parts_at-parts.ensures.prefix i))
    c.parts_at-parts.ensures.back c.in_ok-push_block.ensures.filled c.in_ok-push_shares-2.ensures

pub returns-clause-value : goal.returns-clause-value
returns-clause-value g c =
    let is = subst (λ k. IsPlace g.T.Keyed.key k c.place_of.result c.as_slice-blocks.result.now) c.key.ensures c.place_of.ensures.place in
    put_whole g.T.Keyed.key c.args.item c.place_of.result c.as_slice-blocks.result.now c.push_shares.new.shares.items c.push_block.new.blocks.items c.push_shares-2.new.shares.items c.parts_at-parts.result.back.now c.parts_at-parts.result.block.now c.as_slice.result.now
    is
    (c.in_ok-push_shares.ensures ∙ (λ i. c.in_ok-blocks.ensures.items i ++ c.parts_at-parts.ensures.prefix i))
    c.parts_at-parts.ensures.block c.parts_at-parts.ensures.back
    (c.as_slice.ensures.value ∙ c.in_ok-block.ensures)
    c.in_ok-push_block.ensures.items c.in_ok-push_shares-2.ensures
    ∙ ap (with_item g.T.Keyed.key c.args.item) (ap join c.as_slice-blocks.ensures.value ∙ c.self.view_is)

pub returns-clause-rises : goal.returns-clause-rises
returns-clause-rises g c = subst (λ l. Rises (map g.T.Keyed.key l)) (sym (returns-clause-value g c)) (rises_with g.T.Keyed.key c.args.item c.args.self.now c.requires)
