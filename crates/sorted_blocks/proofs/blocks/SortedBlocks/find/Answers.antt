use Rattle.std.proofs.Common.{map, sym, ◌∙◌, ap, subst}
use Rattle.list_laws.specs.Lists.{Rises}
use Rattle.list_laws.specs.Keys.{item_at}
use Rattle.sorted_blocks.specs.Blocks.{join}
use Rattle.sorted_blocks.proofs.BlockOfKey.{rises_in, found}
use Rattle.sorted_blocks.proofs.blocks.SortedBlocks.find.Goals as goal

pub find_by_key-requires : goal.find_by_key-requires
find_by_key-requires g c =
    let blocks = ap join c.as_slice-blocks.ensures.value ∙ c.self.view_is in
    subst (λ l. Rises (map g.T.Keyed.key l)) (sym c.parts_at-parts.ensures.block)
    (rises_in g.T.Keyed.key c.args.key.now c.place_of.result c.as_slice-blocks.result.now (subst (λ l. Rises (map g.T.Keyed.key l)) (sym blocks) c.requires))

pub returns : goal.returns
returns g c =
    c.find_by_key.ensures
    ∙ (ap (λ l. item_at g.T.Keyed.key l c.args.key.now) c.parts_at-parts.ensures.block
    ∙ (found g.T.Keyed.key c.args.key.now c.place_of.result c.as_slice-blocks.result.now c.place_of.ensures.place
    ∙ ap (λ l. item_at g.T.Keyed.key l c.args.key.now) (ap join c.as_slice-blocks.ensures.value ∙ c.self.view_is)))
