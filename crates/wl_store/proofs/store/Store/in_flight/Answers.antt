use Rattle.std.proofs.Common.{◌==◌, arith}
use Rattle.wl_store.proofs.UnmarkedFlights.{any_found}
use Rattle.wl_store.proofs.store.Store.in_flight.Goals as goal

pub returns : goal.returns
returns g c = search (arith, c.is_some.ensures, c.flight.ensures, any_found (λ f. f.number == c.args.number) c.args.self.now.store.in_flight)
