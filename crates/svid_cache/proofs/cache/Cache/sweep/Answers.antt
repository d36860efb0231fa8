use Rattle.std.proofs.Common.{◌≡◌, ◌≤◌, length, filter, arith, rules, sym, ◌∙◌, ap, subst}
use Rattle.std.proofs.lemmas.Fn.{filter_same}
use Rattle.svid_cache.specs.Caches.{lasts, without_ended}
use Rattle.svid_cache.specs.Timetables.{IsAbout}
use Rattle.svid_cache.proofs.CacheFacts.{few_svids}
use Rattle.svid_cache.proofs.cache.Cache.sweep.Goals as goal

pub invariant_of-self : goal.invariant_of-self
invariant_of-self c =
    let same : c.retain.new.self.items ≡ filter (lasts c.args.now) c.self.inside.svids.items = filter_same _ _ _ (λ x b f' k. search rules) _ _ c.retain.ensures.filtered in
    subst (IsAbout c.sweep.new.self) (sym same) (c.sweep.ensures.about c.self.inside.svids.items c.self.invariant)

pub returns-clause-swept : goal.returns-clause-swept
returns-clause-swept c =
    let same : c.retain.new.self.items ≡ filter (lasts c.args.now) c.self.inside.svids.items = filter_same _ _ _ (λ x b f' k. search rules) _ _ c.retain.ensures.filtered in
    (λ i. record { asks = c.sweep.ensures.asks i; svids = same i; renew_before = c.sweep.ensures.renew_before i }) ∙ ap (without_ended c.args.now) c.self.view_is

pub overflow_cast-result : goal.overflow_cast-result
overflow_cast-result c =
    let few : length c.self.inside.svids.items ≤ length c.self.inside.table.asks = few_svids c.self.inside.table.asks c.self.inside.svids.items c.self.invariant.cached.asks c.self.invariant.cached.svids c.self.invariant.cached.listed in
    grind (arith, few, c.self.invariant.cached.few, c.len-before.ensures)
