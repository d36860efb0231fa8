use Rattle.std.proofs.Common.{◌≡◌, sym, subst}
use Rattle.std.specs.List.{AllByRecursion}
use Rattle.wl_publish.specs.Listings.{Passing}
use Rattle.wl_serve.specs.Seating.{with_pass}
use Rattle.wl_serve.proofs.Lists.{handed}
use Rattle.wl_serve.proofs.passes.give_passes.Goals as goal

pub returns-clause-given : goal.returns-clause-given
returns-clause-given g c = λ given all. handed _ (with_pass given) _ _ c.hand_out.ensures.count (c.hand_out.ensures.given given (subst (AllByRecursion (λ (p : Passing). p ≡ given)) (sym c.into_vec.ensures) all))
