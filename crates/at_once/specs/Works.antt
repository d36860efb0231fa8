-- Each element of the second list is what a call of the work left at that place of the first (own rule).
use Rattle.std.specs.Prelude.{ℕ, List}
use Rattle.std.specs.Fork.{ChangesEach}
use denote.Ref.{MutBor}
use denote.Param.Members.{Shared}

pub record Worked {F T : Type 0} (g : Shared F (ℕ × (MutBor T × Unit {0})) ((Unit {0}) × (MutBor T × Unit {0}))) (work : F) (before after : List T) : Type 0 where
  pub each : ChangesEach g work before after
