-- A folder of folders, and a link that names one of them.
use Rattle.std.specs.Prelude.{ℕ, ◌+◌, ◌≡◌, ◌≢◌, Bool, if◌then◌else◌, List, Option, Some, option_and_then}
use Rattle.file_sets.specs.declared.set.File.{File}

-- the mode of a file, 0600 or 0644: what is secret is for its owner alone
abbrev pub mode_of : Bool → ℕ
mode_of is_secret = if is_secret then 384 else 420

-- what readers see through the link
abbrev pub seen : Option ℕ → (ℕ → Option (List File)) → Option (List File)
seen link holds = option_and_then holds link

-- only this folder may have changed
abbrev pub OthersStay : ℕ → (ℕ → Option (List File)) → (ℕ → Option (List File)) → Type 0
OthersStay n old new = (m : ℕ) → m ≢ n → new m ≡ old m

-- readers still see what they saw, and have seen nothing else
pub record Stays (link0 : Option ℕ) (turns0 : ℕ) (link1 : Option ℕ) (turns1 : ℕ) : Type 0 where
  pub link : link1 ≡ link0
  pub turns : turns1 ≡ turns0

-- the link was exchanged once, for this folder
pub record Turns (n : ℕ) (turns0 : ℕ) (link1 : Option ℕ) (turns1 : ℕ) : Type 0 where
  pub link : link1 ≡ Some n
  pub turns : turns1 ≡ turns0 + 1

-- What readers saw all the while: the old set.
abbrev pub SawOld : Option (List File) → ℕ → Option (List File) → ℕ → Type 0
SawOld old turns0 new turns1 = (new ≡ old) × (turns1 ≡ turns0)

-- What readers saw: the old set, and then this one, whole.
abbrev pub SawNew : List File → ℕ → Option (List File) → ℕ → Type 0
SawNew files turns0 new turns1 = (new ≡ Some files) × (turns1 ≡ turns0 + 1)
