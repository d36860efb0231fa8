-- Whether bytes are UTF-8.
use Rattle.std.proofs.Common.{ℕ, ◌≡◌, List, Result, Ok, Err, sym}
use Rattle.std.specs.Str.{IsUtf8, is_utf8}
use Rattle.std.specs.Result.{is_ok, MatchResult}
use Rattle.std.proofs.lemmas.Bool.{false_from_ne_true}
use Rattle.std.proofs.lemmas.Str.{IsUtf8-from_is_utf8, is_utf8-from_IsUtf8}

pub told : {X E : Type 0} (bytes : List ℕ) (P : X → Type 0) (Q : E → Type 0) (r : Result X E) → MatchResult r (λ x. P x × IsUtf8 bytes) (λ e. (IsUtf8 bytes → ⊥) × Q e) → is_ok r ≡ is_utf8 bytes
told bytes P Q (Ok x) h = sym (is_utf8-from_IsUtf8 bytes h.1)
told bytes P Q (Err e) h = sym (false_from_ne_true (is_utf8 bytes) (λ yes. h.0 (IsUtf8-from_is_utf8 bytes yes)))
