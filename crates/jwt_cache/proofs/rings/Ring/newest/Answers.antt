use Rattle.std.proofs.Common.{◌<◌, length, sym, option_map, arith}
use Rattle.jwt_cache.specs.History.{newest, is_of_use}
use Rattle.jwt_cache.proofs.Newest.{newest_step, none_in}
use Rattle.jwt_cache.proofs.rings.Ring.newest.Goals as goal
use Rattle.jwt_cache.proofs.rings.Ring.newest.Goals.{in-Some+then-is_of_use, in-Some+else-is_of_use, in_default}

pub loop-i-preserved : goal.loop-i-preserved
loop-i-preserved c =
    let xs = c.self.inside.items.items in
    let test = is_of_use c.args.ask.now c.args.audience.now c.args.renew_before c.args.now in
    elim c.match-get.branch [
      | in-Some+then-is_of_use w ↦
          let s = newest_step test xs c.loop-i.i w.in-Some.kept.now (option_map (λ k. k.now) c.loop-i.found) (newest test xs) (sym w.in-Some.ensures) c.loop-i.invariant in
          rw w.found-is (rw (sym w.if-is_of_use.ensures) at s)
      | in-Some+else-is_of_use w ↦
          let s = newest_step test xs c.loop-i.i w.in-Some.kept.now (option_map (λ k. k.now) c.loop-i.found) (newest test xs) (sym w.in-Some.ensures) c.loop-i.invariant in
          rw w.found-is (rw (sym w.if-is_of_use.ensures) at s)
      | in_default w ↦
          let lt : c.loop-i.i < length xs = omega (arith, c.loop-i-test.true, c.len-i-end.ensures.len) in
          absurd (none_in xs c.loop-i.i w.in_default.ensures lt)
    ]
