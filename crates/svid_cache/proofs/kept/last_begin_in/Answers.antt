use Rattle.std.specs.Prelude.{slice_index_or}
use Rattle.std.proofs.Common.{◌≡◌, ◌<◌, ◌≤◌, [], length, arith, ◌∙◌, ap, subst}
use Rattle.std.proofs.lemmas.List.{get_or_default, take_all}
use Rattle.sorted_blocks.specs.Blocks.{join}
use Rattle.svid_cache.specs.Queue.{AllBegunBy, IsEarliest}
use Rattle.svid_cache.proofs.Begins.{begun_block, earliest_block}
use Rattle.svid_cache.proofs.kept.last_begin_in.Goals as goal

pub loop-block-preserved : goal.loop-block-preserved
loop-block-preserved c =
    let below : c.loop-block.block-index < length c.args.blocks.now = omega arith in
    let item : c.as_slice.result.now ≡ slice_index_or c.args.blocks.now c.loop-block.block-index [] = c.as_slice.ensures ∙ (c.part.ensures ∙ (c.block-item.is ∙ get_or_default c.args.blocks.now c.loop-block.block-index c.block-item.result [] below)) in
    record {
      begun = begun_block c.loop-block.last c.last_begin-last.result c.loop-block.block-index c.args.blocks.now below c.loop-block.invariant.begun c.last_begin-last.ensures.other
          (subst (AllBegunBy c.last_begin-last.result) item c.last_begin-last.ensures.begun);
      exact = earliest_block c.args.blocks.now c.loop-block.block-index 0 c.loop-block.last c.last_begin-last.result below c.loop-block.invariant.exact
          (subst (λ b. IsEarliest c.loop-block.last (λ s. AllBegunBy s b) c.last_begin-last.result) item c.last_begin-last.ensures.exact);
    }

pub returns-clause-exact : goal.returns-clause-exact
returns-clause-exact c =
    let few : length c.args.blocks.now ≤ c.loop-block.block-index = omega arith in
    subst (λ l. IsEarliest 0 (λ s. AllBegunBy s l) c.loop-block.last) (ap join (take_all c.loop-block.block-index c.args.blocks.now few)) c.loop-block.invariant.exact
