use Rattle.std.proofs.Common.{◌≡◌, ◌∷◌, drop, rules, sym, ◌∙◌}
use Rattle.sorted_blocks.proofs.BlockOfKey.{at_split, at_end, none_left}
use Rattle.sorted_blocks.proofs.placing.parts_at.Goals as goal

pub returns-in-Some-clause-block : goal.returns-in-Some-clause-block
returns-in-Some-clause-block g c =
    let rest : drop c.args.place c.args.blocks.now ≡ c.in-Some.block.now ∷ c.in-Some.back.now = sym c.split_at.ensures.back ∙ search rules in
    c.as_slice.ensures ∙ (c.part.ensures ∙ sym (at_split c.args.place c.args.blocks.now c.in-Some.block.now c.in-Some.back.now rest).0)

pub returns-in-Some-clause-back : goal.returns-in-Some-clause-back
returns-in-Some-clause-back g c =
    let rest : drop c.args.place c.args.blocks.now ≡ c.in-Some.block.now ∷ c.in-Some.back.now = sym c.split_at.ensures.back ∙ search rules in
    sym (at_split c.args.place c.args.blocks.now c.in-Some.block.now c.in-Some.back.now rest).1

pub returns-in-None-clause-block : goal.returns-in-None-clause-block
returns-in-None-clause-block g c = sym (at_end c.args.place c.args.blocks.now (sym c.split_at.ensures.back ∙ none_left c.split_at.result.1.now c.in-None.ensures.cases)).0
