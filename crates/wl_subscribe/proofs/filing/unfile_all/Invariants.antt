use Rattle.std.proofs.Common.{◌≡◌, ◌==◌, ℕ, true, false, List}
use Rattle.wl_subscribe.specs.Filed.{is_filed}
use Rattle.wl_subscribe.proofs.filing.unfile_all.Given as goal

abbrev pub invariant-loop-selector : goal.invariant-loop-selector
invariant-loop-selector l = (text : List ℕ) (n : ℕ) → (n == l.number) ≡ false → is_filed l.fn.filed text n ≡ true → is_filed l.filed text n ≡ true
