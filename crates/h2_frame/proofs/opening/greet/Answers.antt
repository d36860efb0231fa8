use Rattle.std.proofs.Common.{◌≡◌, ◌<◌, ◌-◌, length, drop, arith, ap, ◌∙◌, ◌+◌}
use Rattle.std.proofs.lemmas.List.{drop-drop, length-drop}
use Rattle.h2_frame.specs.Reading.{preface}
use Rattle.h2_frame.proofs.Openings.{greet_whole, greet_partly, greet_wrong}
use Rattle.h2_frame.proofs.opening.greet.Goals as goal

pub returns-then-count-left : goal.returns-then-count-left
returns-then-count-left c =
    let left : c.split_at.result.1.now ≡ drop c.args.matched preface = c.split_at.ensures.back in
    (rw left at (greet_whole c.split_at.result.1.now c.args.piece.now c.common-count.result c.common-count.ensures.same c.if-count-left.true), c.common-count.ensures.piece)

pub returns-then-count-piece : goal.returns-then-count-piece
returns-then-count-piece c =
    let left : c.split_at.result.1.now ≡ drop c.args.matched preface = c.split_at.ensures.back in
    let long : length c.split_at.result.1.now ≡ 24 - c.args.matched = ap length left ∙ length-drop c.args.matched preface in
    let less : c.common-count.result < length c.split_at.result.1.now = omega arith in
    (rw (left, drop-drop) at (greet_partly c.split_at.result.1.now c.args.piece.now c.common-count.result c.common-count.ensures.same less c.if-count-piece.true), omega arith)

pub returns-else-count-piece : goal.returns-else-count-piece
returns-else-count-piece c =
    let left : c.split_at.result.1.now ≡ drop c.args.matched preface = c.split_at.ensures.back in
    let long : length c.split_at.result.1.now ≡ 24 - c.args.matched = ap length left ∙ length-drop c.args.matched preface in
    let less : c.common-count.result < length c.split_at.result.1.now = omega arith in
    let short : c.common-count.result < length c.args.piece.now = omega arith in
    rw left at (greet_wrong c.split_at.result.1.now c.args.piece.now c.common-count.result (c.args.matched + c.common-count.result) c.common-count.ensures.same less short (c.common-count.ensures.ends less short) (omega arith))
