use Rattle.std.proofs.Common.{get_or, ◌+◌, ◌==◌, take, refl}
use Rattle.wl_entry.specs.Entitled.{is_entitled}
use Rattle.wl_subscribe.specs.Filed.{has_number, is_hit}
use Rattle.wl_subscribe.proofs.Filings.{hit_more, more_numbers}
use Rattle.wl_subscribe.proofs.hits.Hits.add_numbers.Goals as goal

pub loop-number-preserved : goal.loop-number-preserved
loop-number-preserved c = λ n sel at.
    let ns = c.args.numbers.now in
    let i = c.loop-number.number-index in
    let m = get_or ns i 0 in
    hit_more (is_hit c.add_number.new.self n) (is_hit c.loop-number.self n) (is_hit c.args.self.now n) (has_number (take i ns) n) (m == n) (has_number (take (i + 1) ns) n) (is_entitled sel c.args.entry.now)
    (c.in_ok-add_number.ensures n sel at) (c.loop-number.invariant n sel at) (more_numbers ns i m n c.loop-number-test.true refl)
