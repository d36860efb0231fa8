use Rattle.std.proofs.Common.{◌≡◌, None, arith, sym, ◌∙◌, subst}
use Rattle.wl_selector.specs.Selectors.{selector_fault}
use Rattle.wl_config.proofs.OwnSelectors.{uid_selector_sound, only_memory}
use Rattle.wl_config.proofs.selectors.uid_selector.Goals as goal

pub only_memory-requires : goal.only_memory-requires
only_memory-requires c =
    let sound = subst (λ t. selector_fault t ≡ None) (sym (c.as_slice.ensures ∙ c.in_ok-text.ensures)) (uid_selector_sound c.args.uid (omega (arith, c.ranges.uid))) in
    only_memory c.as_slice.result.now c.in-Err.fault sound c.in-Err.ensures
