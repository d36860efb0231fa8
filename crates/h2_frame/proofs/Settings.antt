-- The settings of a payload, one by one.
use Rattle.std.specs.Int.{w16, w32, from_be_bytes, to_be_bytes}
use Rattle.std.specs.List.{AllByRecursion}
use Rattle.std.proofs.lemmas.Nat.{from_be_bytes-to_be_bytes_2, from_be_bytes-to_be_bytes_4}
use Rattle.h2_frame.specs.Writing.{setting_bytes, FitsSetting}
use Rattle.std.proofs.Common.{◌≡◌, ℕ, ap, ◌∙◌, ◌*◌, flat_map, ◌<◌, ◌≤◌, List, [], ◌∷◌, ◌++◌, length, take, drop, refl, arith, append_assoc, append-nil}
use Rattle.h2_frame.specs.declared.frame.Setting.{Setting}
use Rattle.h2_frame.specs.Payloads.{setting_of, settings_of}

settings_next : (b : List ℕ) → 6 ≤ length b → settings_of b ≡ setting_of (take 6 b) ∷ settings_of (drop 6 b)
settings_next (a ∷ b ∷ c ∷ d ∷ e ∷ f ∷ rest) le = refl
settings_next [] le = absurd (omega arith)
settings_next (a ∷ []) le = absurd (omega arith)
settings_next (a ∷ b ∷ []) le = absurd (omega arith)
settings_next (a ∷ b ∷ c ∷ []) le = absurd (omega arith)
settings_next (a ∷ b ∷ c ∷ d ∷ []) le = absurd (omega arith)
settings_next (a ∷ b ∷ c ∷ d ∷ e ∷ []) le = absurd (omega arith)

-- a step of a loop over what is left
pub settings_step : (pairs : List Setting) (b : List ℕ) (all : List Setting) → 6 ≤ length b → pairs ++ settings_of b ≡ all → (pairs ++ setting_of (take 6 b) ∷ []) ++ settings_of (drop 6 b) ≡ all
settings_step pairs b all le h = rw (append_assoc, ← settings_next b le) h

pub settings_end : (pairs : List Setting) (b : List ℕ) (all : List Setting) → length b < 6 → pairs ++ settings_of b ≡ all → pairs ≡ all
settings_end pairs b all lt h = rw (none b lt, append-nil) at h
  where
    none : (b : List ℕ) → length b < 6 → settings_of b ≡ []
    none (a ∷ b ∷ c ∷ d ∷ e ∷ f ∷ rest) lt = absurd (omega arith)
    none [] lt = refl
    none (a ∷ []) lt = refl
    none (a ∷ b ∷ []) lt = refl
    none (a ∷ b ∷ c ∷ []) lt = refl
    none (a ∷ b ∷ c ∷ d ∷ []) lt = refl
    none (a ∷ b ∷ c ∷ d ∷ e ∷ []) lt = refl

-- ---- settings that are written

pub settings_length : (pairs : List Setting) → length (flat_map setting_bytes pairs) ≡ 6 * length pairs
settings_length [] = refl
settings_length (pair ∷ pairs) = let ih = settings_length pairs in omega arith

setting_again : (pair : Setting) (rest : List ℕ) → FitsSetting pair → settings_of (setting_bytes pair ++ rest) ≡ pair ∷ settings_of rest
setting_again pair rest fits =
    let id : from_be_bytes w16 (to_be_bytes w16 pair.id) ≡ pair.id = from_be_bytes-to_be_bytes_2 pair.id fits.0 in
    let value : from_be_bytes w32 (to_be_bytes w32 pair.value) ≡ pair.value = from_be_bytes-to_be_bytes_4 pair.value fits.1 in
    rw (id, value) refl

pub settings_again : (pairs : List Setting) → AllByRecursion FitsSetting pairs → settings_of (flat_map setting_bytes pairs) ≡ pairs
settings_again [] fits = refl
settings_again (pair ∷ pairs) fits = setting_again pair (flat_map setting_bytes pairs) fits.0 ∙ ap (λ rest. pair ∷ rest) (settings_again pairs fits.1)
