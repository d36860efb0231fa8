-- The preface, byte by byte.
use Rattle.std.proofs.Common.{◌≡◌, ◌≢◌, ℕ, ◌+◌, ◌-◌, ◌<◌, ◌≤◌, List, [], ◌∷◌, length, drop, get_or, refl, ◌∙◌, arith, eq-eqb, ne_eqb}
use Rattle.std.proofs.lemmas.List.{drop_more, length-drop}
use Rattle.h2_frame.specs.declared.fault.FrameFault.TheVariants as faults
use Rattle.h2_frame.specs.Reading.{Opening, Fault, frames_of, after_preface}

pub opened_next : (left b : List ℕ) (n : ℕ) → n < length left → n < length b → get_or left n 0 ≡ get_or b n 0 → after_preface (drop n left) (drop n b) ≡ after_preface (drop (n + 1) left) (drop (n + 1) b)
unfolding after_preface
opened_next left b n p q same = rw (drop_more left n 0 p, drop_more b n 0 q, eq-eqb (get_or left n 0) (get_or b n 0) same) refl

-- all of it has come
pub opened_whole : (left b : List ℕ) → length left ≤ 0 → after_preface left b ≡ frames_of b
unfolding after_preface
opened_whole [] b le = refl
opened_whole (p ∷ left) b le = absurd (omega arith)

-- no more has come
pub opened_partly : (left b : List ℕ) → 0 < length left → length b ≤ 0 → after_preface left b ≡ record { frames = []; ending = Opening left }
unfolding after_preface
opened_partly [] b lt le = absurd (omega arith)
opened_partly (p ∷ left) [] lt le = refl
opened_partly (p ∷ left) (x ∷ b) lt le = absurd (omega arith)

-- the next byte is another
opened_wrong : (p x : ℕ) (left b : List ℕ) → p ≢ x → after_preface (p ∷ left) (x ∷ b) ≡ record { frames = []; ending = Fault (faults.BadPreface (23 - length left)) }
unfolding after_preface
opened_wrong p x left b other = rw (ne_eqb p x other) refl

-- ---- after the bytes that two strings have in common

pub greet_whole : (left piece : List ℕ) (n : ℕ) → after_preface left piece ≡ after_preface (drop n left) (drop n piece) → n ≡ length left → after_preface left piece ≡ frames_of (drop n piece)
greet_whole left piece n same all = same ∙ opened_whole (drop n left) (drop n piece) (simp length-drop (omega arith))

pub greet_partly : (left piece : List ℕ) (n : ℕ) → after_preface left piece ≡ after_preface (drop n left) (drop n piece) → n < length left → n ≡ length piece → after_preface left piece ≡ record { frames = []; ending = Opening (drop n left) }
greet_partly left piece n same less all = same ∙ opened_partly (drop n left) (drop n piece) (simp length-drop (omega arith)) (simp length-drop (omega arith))

pub greet_wrong : (left piece : List ℕ) (n at : ℕ) → after_preface left piece ≡ after_preface (drop n left) (drop n piece) → n < length left → n < length piece → get_or left n 0 ≢ get_or piece n 0 → at ≡ 24 - (length left - n) → after_preface left piece ≡ record { frames = []; ending = Fault (faults.BadPreface at) }
greet_wrong left piece n at same p q other place =
    let here : at ≡ 23 - length (drop (n + 1) left) = simp length-drop (omega arith) in
    same ∙ rw (drop_more left n 0 p, drop_more piece n 0 q, here) (opened_wrong (get_or left n 0) (get_or piece n 0) (drop (n + 1) left) (drop (n + 1) piece) other)
