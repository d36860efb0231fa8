use Rattle.std.proofs.Common.{◌≡◌, ℕ, true, List, take}
use Rattle.wl_selector.specs.Selectors.{has_text}
use Rattle.wl_subscribe.specs.Filed.{is_filed}
use Rattle.wl_subscribe.proofs.filing.file_all.Given as goal

abbrev pub invariant-loop-selector : goal.invariant-loop-selector
invariant-loop-selector l = record {
  kept : (text : List ℕ) (n : ℕ) → is_filed l.fn.filed text n ≡ true → is_filed l.filed text n ≡ true;
  done : (text : List ℕ) → has_text (take l.selector-index l.selectors) text ≡ true → is_filed l.filed text l.number ≡ true;
}
