use Rattle.std.specs.Prelude.{slice_index_or}
use Rattle.std.proofs.Common.{◌≡◌, ◌<◌, ◌≤◌, [], length, arith, ◌∙◌, ap, subst}
use Rattle.std.proofs.lemmas.List.{get_or_default, take_all}
use Rattle.sorted_blocks.specs.Blocks.{join}
use Rattle.svid_cache.specs.Queue.{NoneEndsBefore, IsLatest, last_second}
use Rattle.svid_cache.proofs.Expiries.{ends_more}
use Rattle.svid_cache.proofs.Latest.{latest_block}
use Rattle.svid_cache.proofs.kept.first_end_in.Goals as goal

pub loop-block-preserved : goal.loop-block-preserved
loop-block-preserved c =
    let below : c.loop-block.block-index < length c.args.blocks.now = omega arith in
    let item : c.as_slice.result.now ≡ slice_index_or c.args.blocks.now c.loop-block.block-index [] = c.as_slice.ensures ∙ (c.part.ensures ∙ (c.block-item.is ∙ get_or_default c.args.blocks.now c.loop-block.block-index c.block-item.result [] below)) in
    record {
      ends = ends_more c.loop-block.first c.first_end-first.result c.loop-block.block-index c.args.blocks.now below c.loop-block.invariant.ends c.first_end-first.ensures.other
          (subst (NoneEndsBefore c.first_end-first.result) item c.first_end-first.ensures.ends);
      exact = latest_block c.args.blocks.now c.loop-block.block-index last_second c.loop-block.first c.first_end-first.result below c.loop-block.invariant.exact
          (subst (λ b. IsLatest c.loop-block.first (λ s. NoneEndsBefore s b) c.first_end-first.result) item c.first_end-first.ensures.exact);
    }

pub returns-clause-exact : goal.returns-clause-exact
returns-clause-exact c =
    let few : length c.args.blocks.now ≤ c.loop-block.block-index = omega arith in
    subst (λ l. IsLatest last_second (λ s. NoneEndsBefore s l) c.loop-block.first) (ap join (take_all c.loop-block.block-index c.args.blocks.now few)) c.loop-block.invariant.exact
