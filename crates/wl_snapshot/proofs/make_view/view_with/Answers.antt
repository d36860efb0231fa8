use Rattle.std.proofs.Common.{map, filter, sym, ◌∙◌, ap, subst}
use Rattle.wl_snapshot.specs.Snapshots.{IsPublication}
use Rattle.wl_snapshot.specs.Views.{IsViewModel, view_model_of, held_of, is_seen}
use Rattle.wl_snapshot.proofs.ViewModels.{view_model_holds}
use Rattle.wl_snapshot.proofs.make_view.view_with.Goals as goal

pub invariant_of-result : goal.invariant_of-result
unfolding view_model_of
invariant_of-result c =
    let is = subst IsPublication c.snapshot.view_is c.snapshot.invariant in
    let domain = c.in_ok-domain.ensures ∙ ap (λ p. p.domain) c.snapshot.view_is in
    let held = c.in_ok-held.ensures ∙ ap (λ svids. map (held_of svids) c.args.entries.now) (ap (λ p. p.svids) c.snapshot.view_is) in
    let own = c.as_bytes.ensures.value ∙ domain in
    let all = c.as_slice.ensures ∙ c.part.ensures ∙ ap (λ p. p.bundles) c.snapshot.view_is in
    let bundles = c.in_ok-bundles.ensures ∙ (λ i. filter (is_seen (own i) c.args.entries.now) (all i)) in
    subst IsViewModel (sym (λ i. record { domain = domain i; held = held i; bundles = bundles i })) (view_model_holds c.args.snapshot.now c.args.entries.now is c.requires)
