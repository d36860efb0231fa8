-- What is read as a number is one of its forms, and each of its forms is read.
use Rattle.std.proofs.Common.{◌≡◌, ℕ, zero, suc, ◌+◌, ◌*◌, ◌-◌, ◌^◌, ◌<◌, ◌≤◌, ltb, List, [], ◌∷◌, ◌++◌, length, drop, Ok, refl, sym, ap, subst, ◌∙◌, arith, inl, inr}
use Rattle.std.proofs.lemmas.Bool.{cases_lt, lt-ltb, le-ltb, ltb-true}
use Rattle.std.proofs.lemmas.List.{get_or-drop}
use Rattle.std.proofs.Math.Nat.{pow-succ', one-le-pow}
use Rattle.pb_wire.specs.declared.fault.WireFault.{WireFault}
use Rattle.pb_wire.specs.declared.fault.WireFault.TheVariants.{VarintLong}
use Rattle.pb_wire.specs.Varint.{IsForm, Encodes}
use Rattle.list_laws.specs.Lists.{AreBytes}
use Rattle.list_laws.specs.Results.{◌>>=◌}
use Rattle.pb_wire.specs.Reading.{varint_from, varint_at}
use Rattle.list_laws.proofs.Results.{bind_ok, needs_ok, ok_is}

-- what was read from the front
pub record TakesForm (bytes : List ℕ) (more n count : ℕ) : Type 0 where
  pub form : List ℕ
  pub rest : List ℕ
  pub parts : bytes ≡ form ++ rest
  pub is_form : IsForm form n
  pub is_count : count ≡ length form
  pub few : length form ≤ suc more
  pub fits : n < 2 * 128 ^ more

longer : (b n high : ℕ) (bs : List ℕ) → 128 ≤ b → b < 256 → n + 128 ≡ b + 128 * high → IsForm bs high → IsForm (b ∷ bs) n
longer b n high [] more byte sum rest = absurd rest
longer b n high (c ∷ bs) more byte sum rest = (more, byte, high, sum, rest)

takes_form : (at more : ℕ) (bytes : List ℕ) (n count : ℕ) → AreBytes bytes → varint_from at more bytes ≡ Ok (n, count) → TakesForm bytes more n count
takes_form at zero [] n count fits e = absurd cc
takes_form at (suc more) [] n count fits e = absurd cc
takes_form at zero (b ∷ bs) n count fits e =
    let g = needs_ok (ltb b 2) (VarintLong at) (b, 1) (n, count) e in
    let small = ltb-true b 2 g.0 in
    let value : b ≡ n = ap (λ (p : ℕ × ℕ). p.0) g.1 in
    let len : 1 ≡ count = ap (λ (p : ℕ × ℕ). p.1) g.1 in
    record { form = b ∷ []; rest = bs; parts = refl; is_form = (omega arith, sym value); is_count = sym len; few = omega arith; fits = omega arith }
takes_form at (suc more) (b ∷ bs) n count fits e =
    elim (cases_lt b 128) [
      | inl small ↦
          let one : varint_from at (suc more) (b ∷ bs) ≡ Ok (b, 1) = rw (lt-ltb b 128 small) refl in
          let g = ok_is {E = WireFault} (sym one ∙ e) in
          let value : b ≡ n = ap (λ (p : ℕ × ℕ). p.0) g in
          let len : 1 ≡ count = ap (λ (p : ℕ × ℕ). p.1) g in
          record { form = b ∷ []; rest = bs; parts = refl; is_form = (small, sym value); is_count = sym len; few = omega arith; fits = omega (arith, pow-succ' 128 more, one-le-pow more 128 (omega arith)) }
      | inr large ↦
          let one : varint_from at (suc more) (b ∷ bs) ≡ (varint_from at more bs >>= λ high. Ok ((b - 128) + 128 * high.0, suc high.1)) = rw (le-ltb b 128 large) refl in
          let h = bind_ok (varint_from at more bs) (λ high. Ok ((b - 128) + 128 * high.0, suc high.1)) (n, count) (sym one ∙ e) in
          let t = takes_form at more bs h.0.0 h.0.1 (λ i. fits (suc i)) h.1 in
          let g = ok_is h.2 in
          let value : (b - 128) + 128 * h.0.0 ≡ n = ap (λ (p : ℕ × ℕ). p.0) g in
          let len : suc h.0.1 ≡ count = ap (λ (p : ℕ × ℕ). p.1) g in
          record {
            form = b ∷ t.form;
            rest = t.rest;
            parts = ap (λ (xs : List ℕ). b ∷ xs) t.parts;
            is_form = longer b n h.0.0 t.form large (fits 0) (omega (arith, value)) t.is_form;
            is_count = sym len ∙ ap suc t.is_count;
            few = omega (arith, t.few);
            fits = omega (arith, value, t.fits, fits 0, pow-succ' 128 more);
          }
    ]

again_form : (at more : ℕ) (form rest : List ℕ) (n : ℕ) → IsForm form n → length form ≤ suc more → n < 2 * 128 ^ more → varint_from at more (form ++ rest) ≡ Ok (n, length form)
again_form at more [] rest n is few fits = absurd is
again_form at zero (b ∷ []) rest n is few fits = rw (is.1, lt-ltb b 2 (omega (arith, is.1))) refl
again_form at (suc more) (b ∷ []) rest n is few fits = rw (is.1, lt-ltb b 128 is.0) refl
again_form at zero (b ∷ c ∷ bs) rest n is few fits = absurd (omega arith)
again_form at (suc more) (b ∷ c ∷ bs) rest n is few fits =
    let high = is.2 in
    let below : high < 2 * 128 ^ more = omega (arith, is.0, is.3, fits, pow-succ' 128 more) in
    let value : (b - 128) + 128 * high ≡ n = omega (arith, is.0, is.3) in
    rw (le-ltb b 128 is.0, again_form at more (c ∷ bs) rest high is.4 (omega arith) below, value) refl

-- ---- at a place

AreBytes-drop : (bytes : List ℕ) (at : ℕ) → AreBytes bytes → AreBytes (drop at bytes)
AreBytes-drop bytes at h i = rw get_or-drop (h (at + i))

-- what stands at a place begins with a form of this number
pub record Begins (bytes : List ℕ) (at n next : ℕ) : Type 0 where
  pub form : List ℕ
  pub rest : List ℕ
  pub parts : drop at bytes ≡ form ++ rest
  pub encodes : Encodes form n
  pub some : 1 ≤ length form
  pub behind : next ≡ at + length form

pub form_some : (form : List ℕ) (n : ℕ) → IsForm form n → 1 ≤ length form
form_some [] n h = absurd h
form_some (b ∷ bs) n h = omega arith

pub varint_begins : (bytes : List ℕ) (at : ℕ) (v : ℕ × ℕ) → AreBytes bytes → varint_at bytes at ≡ Ok v → Begins bytes at v.0 v.1
unfolding varint_at
varint_begins bytes at v fits e =
    let h = bind_ok (varint_from at 9 (drop at bytes)) (λ v. Ok (v.0, at + v.1)) v e in
    let t = takes_form at 9 (drop at bytes) h.0.0 h.0.1 (AreBytes-drop bytes at fits) h.1 in
    let g = ok_is h.2 in
    let made : Begins bytes at h.0.0 (at + h.0.1) = record {
      form = t.form;
      rest = t.rest;
      parts = t.parts;
      encodes = record { form = t.is_form; few = omega (arith, t.few); fits = omega (arith, t.fits) };
      some = form_some t.form h.0.0 t.is_form;
      behind = omega (arith, t.is_count);
    } in
    subst (λ (p : ℕ × ℕ). Begins bytes at p.0 p.1) g made

pub varint_again : (bytes : List ℕ) (at n : ℕ) (form rest : List ℕ) → drop at bytes ≡ form ++ rest → Encodes form n → varint_at bytes at ≡ Ok (n, at + length form)
unfolding varint_at
varint_again bytes at n form rest parts is =
    rw (parts, again_form at 9 form rest n is.form (omega (arith, is.few)) (omega (arith, is.fits))) refl
