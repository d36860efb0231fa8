use Rattle.std.proofs.Common.{◌≡◌, ◌∙◌, arith, sym, ap, subst}
use Rattle.std.specs.Prelude.{[], ◌∷◌, length, map}
use Rattle.std.specs.List.{AllZip, range_with_len}
use Rattle.std.proofs.lemmas.List.{length-append}
use Rattle.wl_dealing.specs.Dealt.{dealt}
use Rattle.wl_serve.specs.Prepared.{IsSeat, AreSeats}
use Rattle.wl_serve.proofs.SeatLists.{made_more, pushed}
use Rattle.wl_serve.proofs.making.make_seats.Goals as goal

pub loop-number-preserved : goal.loop-number-preserved
loop-number-preserved g c =
    let items = pushed c.loop-number.seats.items c.push.new.self.items c.in_ok-seat.seat _ c.if-is_err.ensures.negation c.push.ensures.items in
    let seats_long = ap length items ∙ length-append c.loop-number.seats.items (c.in_ok-seat.seat ∷ []) in
    let bells_long = ap length c.in_ok-push.ensures.ok ∙ length-append c.loop-number.bells (c.in_ok-seat.bell ∷ []) in
    record {
      seats = made_more c.loop-number.seats.items c.push.new.self.items c.in_ok-seat.seat g.M.Seat.SeatShown.shown g.M.SeatMaker.tells c.seat_count-count.result c.args.sockets.now c.loop-number.number items
          c.loop-number.invariant.seats
          c.in_ok-seat.ensures.made;
      bells = omega (arith, seats_long, bells_long, c.loop-number.invariant.bells);
    }

pub returns-clause-seats : goal.returns-clause-seats
returns-clause-seats g c =
    let all : c.loop-number.number ≡ c.seat_count-count.result = omega (arith, c.loop-number-test.false, c.loop-number.auto.number-end) in
    let seats = map g.M.Seat.SeatShown.shown c.loop-number.seats.items in
    subst (λ n. AreSeats g.M.SeatMaker.tells n c.args.sockets.now seats) c.seat_count-count.ensures
    (subst (λ n. AllZip (λ k v. IsSeat g.M.SeatMaker.tells (dealt c.seat_count-count.result k c.args.sockets.now) v) (range_with_len 0 n) seats) all c.loop-number.invariant.seats)
