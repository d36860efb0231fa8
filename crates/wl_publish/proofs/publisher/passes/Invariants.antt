use Rattle.std.proofs.Common.{◌≡◌, [], length}
use Rattle.std.specs.List.{AllByRecursion}
use Rattle.wl_publish.specs.Places.{known_at}
use Rattle.wl_publish.specs.Listings.{passing}
use Rattle.wl_publish.proofs.publisher.passes.Given as goal

abbrev pub invariant-loop-place : goal.invariant-loop-place
invariant-loop-place g l = record {
  count : length l.passes ≡ l._place;
  each : AllByRecursion (λ p. p ≡ passing l.prefix.store l.prefix.list [] l.prefix.list) l.passes;
  shown : (l.writer.desk.shown ≡ l.fn.writer.desk.shown) × (l.writer.log ≡ l.fn.writer.log) × (l.writer.behind ≡ l.fn.writer.behind);
  known : known_at l.writer.desk.place ≡ known_at l.fn.writer.desk.place;
}
