-- What a link to a signer is seen as (own rules).
use Rattle.std.specs.Prelude.{◌≡◌, ◌⊎◌, ℕ, ◌+◌, Option, IfSome}

-- The count of faults, and the number of the next ask on the stream that is open, where one is.
pub record LinkState : Type 0 where
  pub faults : ℕ
  pub next : Option ℕ

-- After an ask that was answered the next number is one above the last, where the stream is still open: 2 where it was
-- opened for this ask.
abbrev pub NumbersOn : Option ℕ → Option ℕ → Type 0
NumbersOn old new = IfSome new (λ n. (n ≡ 2) ⊎ IfSome old (λ m. n ≡ m + 1))
