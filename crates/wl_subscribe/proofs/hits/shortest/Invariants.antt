use Rattle.std.proofs.Common.{◌≡◌, ℕ, true, List}
use Rattle.wl_selector.specs.Selectors.{has_text}
use Rattle.wl_subscribe.specs.Filed.{has_number, is_filed}
use Rattle.wl_subscribe.proofs.hits.shortest.Given as goal

abbrev pub invariant-loop-selector : goal.invariant-loop-selector
invariant-loop-selector l = (n : ℕ) → is_filed l.filed l.fn.first n ≡ true → ((text : List ℕ) → has_text l.selectors text ≡ true → is_filed l.filed text n ≡ true) → has_number l.best n ≡ true
