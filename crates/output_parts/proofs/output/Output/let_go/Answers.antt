use Rattle.std.proofs.Common.{◌≤◌, ◌<◌, ◌-◌, ◌+◌, drop, option_map, length, sym, ap, ◌∙◌, arith, length-append}
use Rattle.output_parts.specs.Outputs.{piece_bytes, joined}
use Rattle.output_parts.proofs.Fronts.{front_of, passes_front}
use Rattle.output_parts.proofs.output.Output.let_go.Goals as goal

pub overflow_sub-self : goal.overflow_sub-self
overflow_sub-self c =
    let o = c.pieces.self-inside in
    let inv = c.pieces.invariant in
    let front = front_of o.pieces o.gone o.before c.len-length.result o.last c.in-Some.piece.now (sym c.get.ensures ∙ ap (option_map (λ x. x.now)) c.in-Some.is) inv.small inv.before c.len-length.ensures in
    omega (arith, front.others)

pub overflow_add-self : goal.overflow_add-self
overflow_add-self c =
    let o = c.pieces.self-inside in
    let inv = c.pieces.invariant in
    let front = front_of o.pieces o.gone o.before c.len-length.result o.last c.in-Some.piece.now (sym c.get.ensures ∙ ap (option_map (λ x. x.now)) c.in-Some.is) inv.small inv.before c.len-length.ensures in
    omega (arith, front.there, c.len.ensures.bound)

pub pieces-smaller : goal.pieces-smaller
pieces-smaller c =
    let o = c.pieces.self-inside in
    let inv = c.pieces.invariant in
    let front = front_of o.pieces o.gone o.before c.len-length.result o.last c.in-Some.piece.now (sym c.get.ensures ∙ ap (option_map (λ x. x.now)) c.in-Some.is) inv.small inv.before c.len-length.ensures in
    let less : length o.pieces - (o.gone + 1) < length o.pieces - o.gone = omega (arith, front.there) in
    less

pub pieces-preserved : goal.pieces-preserved
pieces-preserved c =
    let o = c.pieces.self-inside in
    let inv = c.pieces.invariant in
    let p = c.in-Some.piece.now in
    let front = front_of o.pieces o.gone o.before c.len-length.result o.last p (sym c.get.ensures ∙ ap (option_map (λ x. x.now)) c.in-Some.is) inv.small inv.before c.len-length.ensures in
    let le : c.len-length.result ≤ c.pieces.left = omega (arith, c.if-left-length.false) in
    record {
      gone = omega (arith, front.there);
      small = omega (arith, inv.small);
      before = omega (arith, front.others);
      left = passes_front c.pieces.left c.len-length.result (piece_bytes p) _ front.counts le ∙ ap (drop c.pieces.left) (sym front.bytes) ∙ inv.left;
      within = λ sent. omega (arith, inv.within sent, ap length front.bytes, length-append (piece_bytes p) (joined (drop (o.gone + 1) o.pieces) o.last), front.counts, le);
    }
