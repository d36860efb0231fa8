use Rattle.std.proofs.Common.{◌≡◌, true, sym, ◌∙◌, subst}
use Rattle.std.specs.Cmp.Lexicographic.{pointwise}
use Rattle.wl_entry.specs.Same.{same_bundle}
use Rattle.wl_subscribe.proofs.Bundles.{none_federates}
use Rattle.wl_subscribe.proofs.differences.has_same_bundles.Goals as goal

pub returns : goal.returns
returns c = λ is.
    let olds : c.as_slice.result.now ≡ c.args.old.now.bundles = c.as_slice.ensures ∙ (c.part.ensures ∙ (λ j. (c.old.view_is j).bundles)) in
    let news : c.as_slice-2.result.now ≡ c.args.new.now.bundles = c.as_slice-2.ensures ∙ (c.part-2.ensures ∙ (λ j. (c.new.view_is j).bundles)) in
    none_federates c.args.old.now c.args.new.now
    (subst (λ xs. pointwise same_bundle xs c.args.new.now.bundles ≡ true) olds
    (subst (λ ys. pointwise same_bundle c.as_slice.result.now ys ≡ true) news (sym c.eq.ensures ∙ is)))
