use Rattle.std.proofs.Common.{ℕ, List, sym, ap, ◌∙◌, arith, length-drop}
use Rattle.std.specs.Ordering.{nat_cmp}
use Rattle.std.specs.Cmp.Lexicographic.{slice_cmp}
use Rattle.wl_selector.proofs.Subsets.{all_found, some_left, up_after, later_up, missing_at, found_at, passed_at}
use Rattle.wl_selector.proofs.sets.Selectors.is_subset.Goals as goal
use Rattle.wl_selector.proofs.sets.Selectors.is_subset.Goals.{in-Equal, in-Greater}

pub returns-in_default : goal.returns-in_default
returns-in_default c = all_found _ _ c.in_default.ensures.cases ∙ c.loop-other.invariant.so_far

pub returns-in-Less : goal.returns-in-Less
returns-in-Less c =
    let less = sym (ap (λ (v : List ℕ). slice_cmp nat_cmp c.in-Some.first.now v) c.other-item.is) ∙ sym c.cmp.ensures ∙ c.in-Less.is in
    sym (missing_at _ _ _ _ c.other-item.result _ c.loop-other-test.true c.in-Some.ensures.cases.0 c.loop-other.invariant.ascending c.loop-other.invariant.sought less) ∙ c.loop-other.invariant.so_far

pub loop-other-preserved : goal.loop-other-preserved
loop-other-preserved c =
    let compared = sym (ap (λ (v : List ℕ). slice_cmp nat_cmp c.in-Some.first.now v) c.other-item.is) ∙ sym c.cmp.ensures in
    let after = up_after _ _ _ _ c.other-item.result _ c.loop-other-test.true c.in-Some.ensures.cases.0 c.loop-other.invariant.ascending c.loop-other.invariant.sought in
    elim c.match-cmp.branch [
      | in-Equal w ↦ rw w.rest-is (record {
        sought = later_up _ _ _ _ c.other-item.result _ c.loop-other-test.true c.in-Some.ensures.cases.0 c.loop-other.invariant.ascending c.loop-other.invariant.sought;
        ascending = after;
        so_far = sym (found_at _ _ _ _ c.other-item.result _ c.loop-other-test.true c.in-Some.ensures.cases.0 c.loop-other.invariant.ascending c.loop-other.invariant.sought (compared ∙ w.in-Equal.is)) ∙ c.loop-other.invariant.so_far;
      })
      | in-Greater w ↦ rw w.rest-is (record {
        sought = c.loop-other.invariant.sought;
        ascending = after;
        so_far = sym (passed_at _ _ _ _ c.other-item.result _ c.loop-other-test.true c.in-Some.ensures.cases.0 c.loop-other.invariant.ascending c.loop-other.invariant.sought (compared ∙ w.in-Greater.is)) ∙ c.loop-other.invariant.so_far;
      })
    ]

pub returns : goal.returns
returns c = some_left _ _ _ c.is_empty.ensures (omega (arith, length-drop (c.loop-other.other-index) c.as_slice-others.result.now, c.loop-other-test.false)) ∙ c.loop-other.invariant.so_far
