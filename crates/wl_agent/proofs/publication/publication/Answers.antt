use Rattle.std.proofs.Common.{sym, ◌∙◌, ap, subst}
use Rattle.wl_snapshot.specs.Snapshots.{IsPublication}
use Rattle.wl_agent.specs.Kept.{kept_in, publication_of}
use Rattle.wl_agent.proofs.Keeps.{is_publication}
use Rattle.wl_agent.proofs.publication.publication.Goals as goal

pub invariant_of-result : goal.invariant_of-result
unfolding publication_of
invariant_of-result c =
    let state = c.state.inside in
    let svids = c.in_ok-svids.ensures ∙ ap (λ entries. kept_in entries state.svids) c.as_slice.ensures in
    let all = is_publication (record { domain = state.domain; bundles = state.bundles; entries = state.entries; svids = state.svids; renew_before = state.renew_before }) c.state.invariant in
    subst IsPublication (sym (λ i. record { number = 0; domain = state.domain; entries = c.in_ok-entries.ensures i; svids = svids i; bundles = c.in_ok-bundles.ensures i })) all
