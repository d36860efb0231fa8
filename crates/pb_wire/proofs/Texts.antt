-- Whether bytes are UTF-8, as a test and as a fact; and what a string is.
use Rattle.std.proofs.Common.{◌≡◌, ℕ, Bool, true, false, cond, List, Option, Some, None, Result, Ok, Err, MatchResult, refl, sym, ap, subst}
use Rattle.std.specs.Result.{is_ok}
use Rattle.std.specs.Str.{IsUtf8, is_utf8}
use Rattle.std.proofs.lemmas.Str.{is_utf8-from_IsUtf8, IsUtf8-from_is_utf8}
use Rattle.list_laws.proofs.Results.{needs_ok}
use Rattle.pb_wire.specs.declared.fault.FieldFault.TheVariants.{NotUtf8}
use Rattle.pb_wire.specs.declared.field.Field.{Field}
use Rattle.pb_wire.specs.Message.{content_of, utf8_text, text_of}

not_text : (bytes : List ℕ) (b : Bool) → is_utf8 bytes ≡ b → (IsUtf8 bytes → ⊥) → is_utf8 bytes ≡ false
not_text bytes true e wrong = absurd (wrong (IsUtf8-from_is_utf8 bytes e))
not_text bytes false e wrong = e

-- what `from_utf8` answered
pub told : {T E : Type 0} (bytes : List ℕ) (P : T → Type 0) (Q : E → Type 0) (r : Result T E) → MatchResult r (λ s. P s × IsUtf8 bytes) (λ e. (IsUtf8 bytes → ⊥) × Q e) → is_ok r ≡ is_utf8 bytes
told bytes P Q (Ok s) h = sym (is_utf8-from_IsUtf8 bytes h.1)
told bytes P Q (Err e) h = sym (not_text bytes (is_utf8 bytes) refl h.0)

-- ---- strings

chosen_text : (number : ℕ) (b : Bool) (text other : List ℕ) → cond b (Ok text) (Err (NotUtf8 number)) ≡ Ok other → (b ≡ true) × (text ≡ other)
chosen_text number b text other e = needs_ok b (NotUtf8 number) text other e

found_in : (number : ℕ) (content : Option (List ℕ)) (text : List ℕ) → utf8_text number content ≡ Ok text → (content ≡ Some text) × IsUtf8 text
found_in number None text e = absurd cc
found_in number (Some t) text e =
    let g = chosen_text number (is_utf8 t) t text e in
    (ap (λ (x : List ℕ). Some x) g.1, subst (λ (x : List ℕ). IsUtf8 x) g.1 (IsUtf8-from_is_utf8 t g.0))

pub text_found : (bytes : List ℕ) (f : Field) (text : List ℕ) → text_of bytes f ≡ Ok text → (content_of bytes f.value ≡ Some text) × IsUtf8 text
unfolding text_of
text_found bytes f text e = found_in f.number (content_of bytes f.value) text e

pub text_again : (bytes : List ℕ) (f : Field) (text : List ℕ) → content_of bytes f.value ≡ Some text → IsUtf8 text → text_of bytes f ≡ Ok text
unfolding text_of
text_again bytes f text e is = rw (e, is_utf8-from_IsUtf8 text is) refl
