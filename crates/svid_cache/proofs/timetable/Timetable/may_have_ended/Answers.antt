use Rattle.std.proofs.Common.{arith, sym, subst}
use Rattle.std.proofs.lemmas.Bool.Decides.{nat_tests}
use Rattle.svid_cache.specs.Queue.{NoneEndsBefore}
use Rattle.svid_cache.specs.Timetables.{cached_by}
use Rattle.svid_cache.proofs.Expiries.{none_yet}
use Rattle.svid_cache.proofs.timetable.Timetable.may_have_ended.Goals as goal

pub returns : goal.returns
returns c = λ svids about none.
    none_yet c.args.now c.self.inside.end (cached_by c.args.self.now svids) (subst (λ e. NoneEndsBefore e svids) (sym (λ i. (c.self.view_is i).end)) about.ends) (grind (arith, nat_tests, none))
