use Rattle.std.proofs.Common.{◌≡◌, ◌+◌, ◌<◌, ◌≤◌, ℕ, length, slice_index_or}
use Rattle.std.specs.List.{AllByRecursion}
use Rattle.wl_publish.specs.Listings.{Passing}
use Rattle.wl_serve.specs.Views.{SeatView}
use Rattle.wl_serve.specs.Seating.{with_pass}
use Rattle.wl_serve.proofs.passes.hand_out.Given as goal

abbrev pub invariant-loop-seat : goal.invariant-loop-seat
invariant-loop-seat g l =
    record {
      left : length l.passes.items + l.seat-index ≡ length l.seats;
      same : (given : Passing) → AllByRecursion (λ p. p ≡ given) l.fn.passes.items → AllByRecursion (λ p. p ≡ given) l.passes.items;
      done : (given : Passing) → AllByRecursion (λ p. p ≡ given) l.fn.passes.items → (i : ℕ) (d : _) → i < l.seat-index
          → ◌≡◌ {A = SeatView} (record { room = (slice_index_or l.seats i d).room; sockets = g.L.Listener.sockets (slice_index_or l.seats i d).listener; listener = g.L.Listener.told (slice_index_or l.seats i d).listener; listener_faults = g.L.Listener.faults (slice_index_or l.seats i d).listener; ready_faults = g.P.Ready.faults (slice_index_or l.seats i d).ready; attestor = g.A.Attestor.calls (slice_index_or l.seats i d).attestor; attestor_faults = g.A.Attestor.faults (slice_index_or l.seats i d).attestor; asks = g.T.TokenAsks.taken (slice_index_or l.seats i d).asks; ask_faults = g.T.TokenAsks.faults (slice_index_or l.seats i d).asks; clock = g.C.Clock.answers (slice_index_or l.seats i d).clock; starved = (slice_index_or l.seats i d).starved; pass = (slice_index_or l.seats i d).pass; end = (slice_index_or l.seats i d).end })
          (with_pass given (record { room = (slice_index_or l.initial.seats i d).room; sockets = g.L.Listener.sockets (slice_index_or l.initial.seats i d).listener; listener = g.L.Listener.told (slice_index_or l.initial.seats i d).listener; listener_faults = g.L.Listener.faults (slice_index_or l.initial.seats i d).listener; ready_faults = g.P.Ready.faults (slice_index_or l.initial.seats i d).ready; attestor = g.A.Attestor.calls (slice_index_or l.initial.seats i d).attestor; attestor_faults = g.A.Attestor.faults (slice_index_or l.initial.seats i d).attestor; asks = g.T.TokenAsks.taken (slice_index_or l.initial.seats i d).asks; ask_faults = g.T.TokenAsks.faults (slice_index_or l.initial.seats i d).asks; clock = g.C.Clock.answers (slice_index_or l.initial.seats i d).clock; starved = (slice_index_or l.initial.seats i d).starved; pass = (slice_index_or l.initial.seats i d).pass; end = (slice_index_or l.initial.seats i d).end }));
      ahead : (i : ℕ) (d : _) → l.seat-index ≤ i → slice_index_or l.seats i d ≡ slice_index_or l.initial.seats i d;
    }
