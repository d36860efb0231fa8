use Rattle.std.proofs.Common.{◌≡◌, map, length}
use Rattle.std.specs.List.{AllZip, range_with_len}
use Rattle.wl_dealing.specs.Dealt.{dealt}
use Rattle.wl_serve.specs.Prepared.{IsSeat}
use Rattle.wl_serve.proofs.making.make_seats.Given as goal

abbrev pub invariant-loop-number : goal.invariant-loop-number
invariant-loop-number g l =
    record {
      seats : AllZip (λ k v. IsSeat g.M.SeatMaker.tells (dealt l.count k l.sockets) v) (range_with_len 0 l.number) (map g.M.Seat.SeatShown.shown l.seats.items);
      bells : length l.bells ≡ length l.seats.items;
    }
