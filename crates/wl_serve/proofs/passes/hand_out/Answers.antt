use Rattle.std.proofs.Common.{arith, ◌≡◌, ◌<◌, length, refl, subst}
use Rattle.std.specs.List.{AllByRecursion}
use Rattle.wl_publish.specs.Listings.{Passing}
use Rattle.wl_serve.proofs.PassOrder.{all_but_last, one_fewer, one_given, ahead_still}
use Rattle.wl_serve.proofs.passes.hand_out.Goals as goal

pub loop-seat-preserved : goal.loop-seat-preserved
loop-seat-preserved g c =
    let inside : c.loop-seat.seat-index < length c.loop-seat.seats = omega (arith, c.loop-seat-test.true, c.loop-seat.auto.seats) in
    let popped = λ (given : Passing) (all : AllByRecursion (λ (p : Passing). p ≡ given) c.args.passes.items). all_but_last (λ (p : Passing). p ≡ given) c.pop.new.self.items c.in-Some.pass (subst (AllByRecursion (λ (p : Passing). p ≡ given)) c.in-Some.ensures.items (c.loop-seat.invariant.same given all)) in
    record {
      left = one_fewer c.loop-seat.passes.items c.pop.new.self.items c.in-Some.pass c.loop-seat.seats c.loop-seat.seat-index _ c.in-Some.ensures.items c.loop-seat.invariant.left;
      same = λ given all. (popped given all).0;
      done = λ given all. one_given c.args.seats.now c.loop-seat.seats c.loop-seat.seat-index _ c.seat-item.result (λ s. record { room = s.room; sockets = g.L.Listener.sockets s.listener; listener = g.L.Listener.told s.listener; listener_faults = g.L.Listener.faults s.listener; ready_faults = g.P.Ready.faults s.ready; attestor = g.A.Attestor.calls s.attestor; attestor_faults = g.A.Attestor.faults s.attestor; asks = g.T.TokenAsks.taken s.asks; ask_faults = g.T.TokenAsks.faults s.asks; clock = g.C.Clock.answers s.clock; starved = s.starved; pass = s.pass; end = s.end }) c.in-Some.pass given (popped given all).1 refl inside c.seat-item.is c.loop-seat.invariant.ahead
          (c.loop-seat.invariant.done given all);
      ahead = ahead_still c.args.seats.now c.loop-seat.seats c.loop-seat.seat-index _ c.loop-seat.invariant.ahead;
    }

pub returns-clause-given : goal.returns-clause-given
returns-clause-given g c = λ given all i d lt. c.loop-seat.invariant.done given all i d (omega (arith, c.loop-seat-test.false, lt))
