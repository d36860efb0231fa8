-- The kit's escapes are those of grpc-message.
use Rattle.std.proofs.Common.{◌≡◌, ℕ, zero, suc, ◌+◌, ◌-◌, ◌^◌, ◌<◌, Bool, true, false, not, ◌&&◌, inl, inr, ◌∷◌, ◌++◌, [], List, refl, ap, arith, if◌then◌else◌}
use Rattle.std.specs.Prelude.{All, slice_index}
use Rattle.std.proofs.lemmas.Bool.{cases_lt}
use Rattle.std.proofs.lemmas.List.Elements.{All-head, All-tail, All-from_get_or}
use Rattle.percent_encoding.proofs.PercentLemmas.{IsByte}
use Rattle.percent_encoding.specs.declared.ascii_set.AsciiSet.{AsciiSet}
use Rattle.percent_encoding.specs.AsciiSet.{should_percent_encode}
use Rattle.percent_encoding.specs.Percent.{percent_encode, encode_byte, percent_encode_byte}
use Rattle.grpc_wire.specs.Answers.{is_plain_byte, percent_encoded_byte, percent_encoded}

-- ---- a test of every number below

abbrev all_below : ℕ → (ℕ → Bool) → Bool
all_below zero p = true
all_below (suc n) p = p n && all_below n p

-- the tests agree
abbrev same : Bool → Bool → Bool
same true b = b
same false b = not b

same_is : (a b : Bool) → same a b ≡ true → a ≡ b
same_is true true h = refl
same_is true false h = absurd (cc h)
same_is false true h = absurd (cc h)
same_is false false h = refl

both : (a b : Bool) → a && b ≡ true → (a ≡ true) × (b ≡ true)
both true b h = (refl, h)
both false b h = absurd (cc h)

passes : (n : ℕ) (p : ℕ → Bool) (b : ℕ) → all_below n p ≡ true → b < n → p b ≡ true
passes zero p b h lt = absurd (omega arith)
passes (suc n) p b h lt =
    let parts = both (p n) (all_below n p) h in
    elim (cases_lt b n) [
      | inl less ↦ passes n p b parts.1 less
      | inr more ↦ let here : b ≡ n = omega arith in rw here parts.0
    ]

-- ---- the set of the bytes that are escaped

-- the controls and `%`
abbrev pub IsOfMessages : AsciiSet → Type 0
IsOfMessages set = set.mask ≡ 2 ^ 32 - 1 + 2 ^ 37 + 2 ^ 127

abbrev messages_set : AsciiSet
messages_set = record { mask = 2 ^ 32 - 1 + 2 ^ 37 + 2 ^ 127 }

checked : all_below 256 (λ b. same (should_percent_encode messages_set b) (not (is_plain_byte b))) ≡ true
unfolding should_percent_encode
checked = refl

escapes : (b : ℕ) → b < 256 → should_percent_encode messages_set b ≡ not (is_plain_byte b)
escapes b lt = same_is _ _ (passes 256 (λ b. same (should_percent_encode messages_set b) (not (is_plain_byte b))) b checked lt)

turned : {X : Type 0} (t : Bool) (x y : X) → (if not t then x else y) ≡ (if t then y else x)
turned true x y = refl
turned false x y = refl

byte_same : (b : ℕ) → b < 256 → encode_byte messages_set b ≡ percent_encoded_byte b
byte_same b lt = rw (escapes b lt) (turned (is_plain_byte b) (percent_encode_byte b) (b ∷ []))

text_same : (text : List ℕ) → All IsByte text → percent_encode messages_set text ≡ percent_encoded text
unfolding percent_encode percent_encoded
text_same [] small = refl
text_same (b ∷ text) small =
    rw (byte_same b (All-head IsByte b text small)) (ap (λ rest. percent_encoded_byte b ++ rest) (text_same text (All-tail IsByte b text small)))

pub encodes : (set : AsciiSet) (text : List ℕ) → IsOfMessages set → ((i : ℕ) → slice_index text i < 256) → percent_encode set text ≡ percent_encoded text
encodes set text is small =
    let same_set : set ≡ messages_set = ap (λ m. let s : AsciiSet = record { mask = m } in s) is in
    rw same_set (text_same text (All-from_get_or IsByte text 0 (λ i within. small i)))
