-- An id is short.
use Rattle.std.proofs.Common.{◌≡◌, ℕ, ◌<◌, ◌≤◌, true, false, not, List, length, is_some, inl, inr, refl}
use Rattle.std.proofs.lemmas.Bool.{cases_lt, lt-ltb}
use Rattle.spiffe_id.specs.Faults.{id_fault}
use Rattle.wl_control.specs.Words.{is_id}

too_long : (w : List ℕ) → 2048 < length w → is_id w ≡ false
unfolding id_fault
too_long w lt = rw (lt-ltb 2048 (length w) lt) refl

pub id_most : (w : List ℕ) → is_id w ≡ true → length w ≤ 2048
id_most w is =
    elim (cases_lt 2048 (length w)) [
      | inl lt ↦ absurd (cc (is, too_long w lt))
      | inr le ↦ le
    ]
