use Rattle.std.proofs.Common.{◌≡◌, ◌++◌, ◌∙◌}
use Rattle.wl_entry.specs.Keys.{entry_key, svid_key}
use Rattle.wl_entry.specs.Same.{same_entry, same_svid}
use Rattle.wl_subscribe.specs.Differing.{keys_gone, keys_new}
use Rattle.wl_subscribe.proofs.EqualKeys.{same_but}
use Rattle.wl_subscribe.proofs.differences.differing_ids.Goals as goal

pub returns : goal.returns
returns c =
    let p = c.args.old.now in
    let q = c.args.new.now in
    let before : c.as_slice-before.result.now ≡ p.entries = c.as_slice-before.ensures ∙ (c.part.ensures ∙ (λ i. (c.old.view_is i).entries)) in
    let after : c.as_slice-after.result.now ≡ q.entries = c.as_slice-after.ensures ∙ (c.part-2.ensures ∙ (λ i. (c.new.view_is i).entries)) in
    let before_2 : c.as_slice-before-2.result.now ≡ p.svids = c.as_slice-before-2.ensures ∙ (c.in_ok-old_svids.ensures ∙ (λ i. (c.old.view_is i).svids)) in
    let after_2 : c.as_slice-after-2.result.now ≡ q.svids = c.as_slice-after-2.ensures ∙ (c.in_ok-new_svids.ensures ∙ (λ i. (c.new.view_is i).svids)) in
    let first = c.in_ok-push_gone.ensures ∙ (λ i. c.new-ids.ensures.items i ++ keys_gone same_entry entry_key (before i) (after i)) in
    let second = c.in_ok-push_new.ensures ∙ (λ i. first i ++ keys_new entry_key (before i) (after i)) in
    let third = c.in_ok-push_gone-2.ensures ∙ (λ i. second i ++ keys_gone same_svid svid_key (before_2 i) (after_2 i)) in
    let fourth = c.in_ok-push_new-2.ensures ∙ (λ i. third i ++ keys_new svid_key (before_2 i) (after_2 i)) in
    same_but c.from_vec.result p q (c.from_vec.ensures ∙ fourth)
