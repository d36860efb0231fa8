-- Integers are read as they are encoded, and every encoding is read.
use Rattle.std.proofs.Common.{◌≡◌, ℕ, zero, suc, ◌+◌, ◌*◌, ◌%◌, ◌^◌, ◌<◌, ◌≤◌, List, [], ◌∷◌, ◌++◌, length, refl, sym, ap, ◌∙◌, arith, inl, inr, Result, Ok, Err}
use Rattle.std.proofs.lemmas.Bool.{cases_lt, cases_eq, lt-ltb, le-ltb, eq-eqb, ne_eqb}
use Rattle.hpack.proofs.Common.{HpackFault, integer_at, IsInteger}
use Rattle.hpack.specs.declared.fault.HpackFault.TheVariants as faults
use Rattle.list_laws.proofs.Results.{ok_first, ok_second}
use Rattle.hpack.specs.Reading.{more_at}
use Rattle.hpack.specs.Grammar.{Continues, groups}

-- some bytes begin with a text of this kind, and this stands after it
pub record Took (bytes rest : List ℕ) (R : List ℕ → Type 0) : Type 0 where
  pub text : List ℕ
  pub parts : bytes ≡ text ++ rest
  pub is : R text

abbrev pub worths_from : ℕ → ℕ → List ℕ
worths_from zero worth = []
worths_from (suc count) worth = worth ∷ worths_from count (worth * 128)

abbrev pub IsMore : ℕ → ℕ → ℕ → List ℕ → ℕ → Type 0
IsMore count worth old text value = Continues text × (length text ≤ count) × (value ≡ old + groups text * worth) × (value < 2 ^ 32)

pub continues-cons : (byte : ℕ) (text : List ℕ) → 128 ≤ byte → Continues text → Continues (byte ∷ text)
continues-cons byte [] le more = absurd more
continues-cons byte (next ∷ text) le more = (le, more)

one_group : (byte worth old : ℕ) → old + groups (byte ∷ []) * worth ≡ old + byte % 128 * worth
unfolding groups
one_group byte worth old = omega arith

next_group : (byte worth old : ℕ) (text : List ℕ) → old + groups (byte ∷ text) * worth ≡ (old + byte % 128 * worth) + groups text * (worth * 128)
unfolding groups
next_group byte worth old text = omega arith

more_takes : (count worth old : ℕ) (bytes : List ℕ) (value : ℕ) (rest : List ℕ) → more_at (worths_from count worth) old bytes ≡ Ok (value, rest) → Took bytes rest (λ text. IsMore count worth old text value)
unfolding more_at
more_takes zero worth old [] value rest e = absurd (cc)
more_takes zero worth old (byte ∷ bytes) value rest e = absurd (cc)
more_takes (suc count) worth old [] value rest e = absurd (cc)
more_takes (suc count) worth old (byte ∷ bytes) value rest e =
    elim (cases_lt 4294967295 (old + byte % 128 * worth)) [
      | inl past ↦ absurd (let wrong : Err faults.Integer ≡ Ok (value, rest) = (rw (lt-ltb 4294967295 (old + byte % 128 * worth) past) at e) in cc)
      | inr fits ↦ elim (cases_lt byte 128) [
        | inl last ↦
            let same : Ok (old + byte % 128 * worth, bytes) ≡ Ok (value, rest) = (rw (le-ltb 4294967295 (old + byte % 128 * worth) fits, lt-ltb byte 128 last) at e) in
            let v : value ≡ old + byte % 128 * worth = sym (ok_first same) in
            let r : bytes ≡ rest = ok_second same in
            record { text = byte ∷ []; parts = ap (λ xs. byte ∷ xs) r; is = (last, omega arith, v ∙ sym (one_group byte worth old), omega arith) }
        | inr more ↦
            let later = more_takes count (worth * 128) (old + byte % 128 * worth) bytes value rest (rw (le-ltb 4294967295 (old + byte % 128 * worth) fits, le-ltb byte 128 more) at e) in
            record {
              text = byte ∷ later.text;
              parts = ap (λ xs. byte ∷ xs) later.parts;
              is = (continues-cons byte later.text more later.is.0, omega (arith, later.is.1), later.is.2 ∙ sym (next_group byte worth old later.text), later.is.3);
            }
      ]
    ]

more_again : (count worth old : ℕ) (text rest : List ℕ) → Continues text → length text ≤ count → old + groups text * worth < 2 ^ 32 → more_at (worths_from count worth) old (text ++ rest) ≡ Ok (old + groups text * worth, rest)
unfolding more_at
more_again count worth old [] rest more short fits = absurd more
more_again zero worth old (byte ∷ []) rest more short fits = absurd (omega arith)
more_again zero worth old (byte ∷ next ∷ text) rest more short fits = absurd (omega arith)
more_again (suc count) worth old (byte ∷ []) rest more short fits =
    let v = one_group byte worth old in
    rw (le-ltb 4294967295 (old + byte % 128 * worth) (omega arith), lt-ltb byte 128 more) (ap (λ x. Ok (x, rest)) (sym v))
more_again (suc count) worth old (byte ∷ next ∷ text) rest more short fits =
    let v = next_group byte worth old (next ∷ text) in
    rw (le-ltb 4294967295 (old + byte % 128 * worth) (omega arith), le-ltb byte 128 more.0) (more_again count (worth * 128) (old + byte % 128 * worth) (next ∷ text) rest more.1 (omega arith) (omega arith) ∙ ap (λ x. Ok (x, rest)) (sym v))

pub long_integer : (full byte : ℕ) (text : List ℕ) (value : ℕ) → byte % (full + 1) ≡ full → IsMore 5 1 full text value → IsInteger full (byte ∷ text) value
long_integer full byte [] value prefix more = absurd more.0
long_integer full byte (next ∷ text) value prefix more = (prefix, more.0, more.1, omega (arith, more.2), more.3)

pub integer_takes : (full : ℕ) (bytes : List ℕ) (value : ℕ) (rest : List ℕ) → integer_at full bytes ≡ Ok (value, rest) → Took bytes rest (λ text. IsInteger full text value)
unfolding integer_at
integer_takes full [] value rest e = absurd (cc)
integer_takes full (byte ∷ bytes) value rest e =
    elim (cases_eq (byte % (full + 1)) full) [
      | inl prefix ↦
          let later = more_takes 5 1 full bytes value rest (rw (eq-eqb (byte % (full + 1)) full prefix) at e) in
          record { text = byte ∷ later.text; parts = ap (λ xs. byte ∷ xs) later.parts; is = long_integer full byte later.text value prefix later.is }
      | inr short ↦
          let same : Ok (byte % (full + 1), bytes) ≡ Ok (value, rest) = (rw (ne_eqb (byte % (full + 1)) full short) at e) in
          let v : value ≡ byte % (full + 1) = sym (ok_first same) in
          let r : bytes ≡ rest = ok_second same in
          record { text = byte ∷ []; parts = ap (λ xs. byte ∷ xs) r; is = (v, omega (arith, short)) }
    ]

pub integer_again : (full : ℕ) (text : List ℕ) (value : ℕ) (rest : List ℕ) → IsInteger full text value → integer_at full (text ++ rest) ≡ Ok (value, rest)
unfolding integer_at
integer_again full [] value rest is = absurd is
integer_again full (byte ∷ []) value rest is =
    let short : byte % (full + 1) ≡ full → ⊥ = (λ e. omega (arith, is.0, is.1)) in
    rw (ne_eqb (byte % (full + 1)) full short) (ap (λ x. Ok (x, rest)) (sym is.0))
integer_again full (byte ∷ next ∷ text) value rest is =
    let v : full + groups (next ∷ text) * 1 ≡ value = omega (arith, is.3) in
    rw (eq-eqb (byte % (full + 1)) full is.0) (more_again 5 1 full (next ∷ text) rest is.1 is.2 (omega (arith, is.4)) ∙ ap (λ x. Ok (x, rest)) v)

pub integer_some : (full : ℕ) (text : List ℕ) (value : ℕ) → IsInteger full text value → 0 < length text
integer_some full [] value is = absurd is
integer_some full (byte ∷ text) value is = omega arith
