-- Bytes as JSON.
use Rattle.std.proofs.Common.{◌≡◌, ℕ, List, Bool, true, false, Some, None, if◌then◌else◌, refl, ◌∙◌, ap}
use Rattle.std.specs.Str.{is_utf8, IsUtf8}
use Rattle.std.proofs.lemmas.Str.{is_utf8-from_IsUtf8, IsUtf8-from_is_utf8}
use Rattle.serde_json.specs.Data.{Data}
use Rattle.serde_json.specs.Read.{read}
use Rattle.json_members.specs.Texts.{value_of}

pub value_read : (bytes : List ℕ) (d : Data) → IsUtf8 bytes → read bytes ≡ Some d → value_of bytes ≡ Some d
value_read bytes d text is = ap (λ b. if b then read bytes else None) (is_utf8-from_IsUtf8 bytes text) ∙ is

pub value_refused : (bytes : List ℕ) → (IsUtf8 bytes → read bytes ≡ None) → value_of bytes ≡ None
value_refused bytes none = by (is_utf8 bytes) refl
  where
    by : (b : Bool) → is_utf8 bytes ≡ b → value_of bytes ≡ None
    by true h = ap (λ c. if c then read bytes else None) h ∙ none (IsUtf8-from_is_utf8 bytes h)
    by false h = ap (λ c. if c then read bytes else None) h
