use Rattle.std.proofs.Common.{sym, ◌∙◌, ap}
use Rattle.svid_cache.specs.Caches.{has_ended}
use Rattle.svid_cache.proofs.Expiries.{ended_is, all_kept}
use Rattle.svid_cache.proofs.cache.Cache.has_ended.Goals as goal

pub returns-then-may_have_ended-clause-ended : goal.returns-then-may_have_ended-clause-ended
returns-then-may_have_ended-clause-ended c =
    c.any_ended.ensures ∙ ended_is c.args.now c.args.self.now c.as_slice.result.now (c.as_slice.ensures.value ∙ (λ i. (c.self.view_is i).svids))

pub returns-then-may_have_ended-clause-kept : goal.returns-then-may_have_ended-clause-kept
returns-then-may_have_ended-clause-kept c = λ none. all_kept c.args.now c.args.self.now (sym (returns-then-may_have_ended-clause-ended c) ∙ none)

pub returns-else-may_have_ended-clause-kept : goal.returns-else-may_have_ended-clause-kept
returns-else-may_have_ended-clause-kept c = λ none.
    all_kept c.args.now c.args.self.now (ap (has_ended c.args.now) (sym c.self.view_is) ∙ c.may_have_ended.ensures c.self.inside.svids.items c.self.invariant none)
