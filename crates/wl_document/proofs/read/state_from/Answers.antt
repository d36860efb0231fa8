use Rattle.std.proofs.Common.{arith, sym, ◌∙◌, subst}
use Rattle.std.specs.List.{AllByRecursion}
use Rattle.wl_entry.specs.Limits.{EntryWithin, BundleWithin}
use Rattle.wl_entry.specs.Keys.{bundle_key, entry_key}
use Rattle.wl_document.specs.Svids.{doc_svid_key}
use Rattle.wl_document.specs.States.{SvidWithin}
use Rattle.wl_document.proofs.Orders.{rises_keyed}
use Rattle.wl_document.proofs.read.state_from.Goals as goal

pub invariant_of-result : goal.invariant_of-result
invariant_of-result c =
    let bundles = c.from_vec.ensures ∙ c.in_ok-bundles.ensures.ok in
    let entries = c.from_vec-2.ensures ∙ c.in_ok-entries.ensures.ok in
    let svids = c.from_vec-3.ensures ∙ c.in_ok-svids.ensures.ok in
    record {
      bundles = rises_keyed bundle_key c.args.bundles.entries _ c.requires.bundles.keyed c.in_ok-bundles.ensures.ordered bundles;
      entries = rises_keyed entry_key c.args.entries.entries _ c.requires.entries.keyed c.in_ok-entries.ensures.ordered entries;
      svids = rises_keyed doc_svid_key c.args.svids.entries _ c.requires.svids.keyed c.in_ok-svids.ensures.ordered svids;
      few_bundles = rw c.from_vec.ensures (omega (arith, c.in_ok-bundles.ensures.len, c.requires.bundles.few));
      few_entries = rw c.from_vec-2.ensures (omega (arith, c.in_ok-entries.ensures.len, c.requires.entries.few));
      few_svids = rw c.from_vec-3.ensures (omega (arith, c.in_ok-svids.ensures.len, c.requires.svids.few));
      bundles_within = subst (AllByRecursion BundleWithin) (sym bundles) c.requires.bundles.each;
      entries_within = subst (AllByRecursion EntryWithin) (sym entries) c.requires.entries.each;
      svids_within = subst (AllByRecursion SvidWithin) (sym svids) c.requires.svids.each;
    }
