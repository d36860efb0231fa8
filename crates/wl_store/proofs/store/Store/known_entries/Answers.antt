use Rattle.std.proofs.Common.{sym, ◌∙◌}
use Rattle.wl_entry.proofs.Sames.{entries_are}
use Rattle.wl_store.proofs.store.Store.known_entries.Goals as goal

pub returns-then-eq-clause-entries : goal.returns-then-eq-clause-entries
returns-then-eq-clause-entries g c =
    c.in_ok-share.ensures ∙ (sym (c.as_slice-2.ensures ∙ c.part-2.ensures) ∙ (entries_are c.as_slice-2.result.now c.as_slice-3.result.now (sym c.eq.ensures ∙ c.if-eq.true) ∙ (c.as_slice-3.ensures ∙ c.in_ok-entries.ensures)))
