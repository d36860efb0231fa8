use Rattle.std.proofs.Common.{sym, ◌∙◌}
use Rattle.wl_entry.proofs.Sames.{bundles_are}
use Rattle.wl_store.proofs.store.Store.known_bundles.Goals as goal

pub returns-then-eq-clause-bundles : goal.returns-then-eq-clause-bundles
returns-then-eq-clause-bundles g c =
    c.in_ok-share.ensures ∙ (sym (c.as_slice-2.ensures ∙ c.part-2.ensures) ∙ (bundles_are c.as_slice-2.result.now c.as_slice-3.result.now (sym c.eq.ensures ∙ c.if-eq.true) ∙ (c.as_slice-3.ensures ∙ c.in_ok-bundles.ensures)))
