use Rattle.std.proofs.Common.{◌+◌, ◌-◌, ◌<◌, ◌≤◌, length, drop, ap, ◌∙◌, arith, length-drop}
use Rattle.wl_worker.proofs.SentParts.{passes_more}
use Rattle.wl_worker.proofs.flush.flush_output.Goals as goal

pub sends-preserved : goal.sends-preserved
sends-preserved g c =
    let takes = c.in-Took.ensures.takes in
    let inv = c.sends.invariant in
    let sent = c.sends.sent in
    let count = c.in-Took.count in
    let small : sent + count ≤ length c.sends.output = omega (arith, inv.within, takes.takes.1, length-drop sent c.sends.output) in
    record {
      room = omega (arith, inv.room, c.in-Took.ensures.len);
      within = c.let_go-sent.ensures.within small;
      passes = passes_more _ _ _ sent count (drop c.args.start c.args.output.now) c.sends.output _ inv.passes takes.takes.2 c.let_go-sent.ensures.left;
      sends = omega (arith, inv.sends, takes.later);
      stalls = omega (arith, inv.stalls, takes.stalls_later);
      origin = c.in-Took.ensures.origin ∙ inv.origin;
      receives = c.in-Took.ensures.receives ∙ inv.receives;
    }

pub sends-smaller : goal.sends-smaller
sends-smaller g c =
    let takes = c.in-Took.ensures.takes in
    let output = c.sends.output in
    let sent = c.sends.sent in
    let count = c.in-Took.count in
    let now = c.let_go-sent.new.self in
    let left = c.let_go-sent.result in
    let less : length now - left < length output - sent = omega (arith, takes.takes.0, takes.takes.1, length-drop sent output, ap length c.let_go-sent.ensures.left, length-drop left now, length-drop (sent + count) output) in
    less
