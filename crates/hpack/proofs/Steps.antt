-- The table of steps is that of the tree: a computed test over its 4,096 entries.
use Rattle.std.proofs.Common.{◌≡◌, ℕ, ◌+◌, ◌*◌, ◌/◌, ◌%◌, ◌<◌, ◌&&◌, Bool, true, false, if◌then◌else◌, nat_lt, ◌==◌, List, [], ◌∷◌, length, get_or, refl, arith, zero, suc, add-zero}
use Rattle.std.proofs.lemmas.Bool.{and_parts, ltb-true, eqb-true, false≢true}
use Rattle.hpack.specs.declared.tables.TheConstants.{STEPS}
use Rattle.hpack.proofs.Common.{bits, Branch, Node, Symbol, End, branch_at, walk}

-- what an entry of the table stands for
abbrev pub step_of : ℕ → ℕ → List ℕ × Branch
step_of symbol next =
    if nat_lt symbol 256 then (symbol ∷ [], Node next)
    else if symbol == 256 then ([], Node next)
    else ([], End)

abbrev pub is_step : List ℕ × Branch → ℕ → Bool
is_step ([], Node next) entry = nat_lt next 256 && entry == 65536 + next
is_step (symbol ∷ [], Node next) entry = nat_lt next 256 && (nat_lt symbol 256 && entry == 256 * symbol + next)
is_step ([], End) entry = entry == 65792
is_step _ entry = false

abbrev pub are_steps : ℕ → List ℕ → Bool
are_steps place [] = true
are_steps place (entry ∷ entries) = is_step (walk (place / 16) (bits 4 (place % 16))) entry && are_steps (place + 1) entries

pub steps : are_steps 0 STEPS ≡ true
unfolding walk branch_at bits
steps = refl

pub are_steps-at : (place : ℕ) (entries : List ℕ) (i : ℕ) → are_steps place entries ≡ true → i < length entries → is_step (walk ((place + i) / 16) (bits 4 ((place + i) % 16))) (get_or entries i 0) ≡ true
are_steps-at place [] i all lt = absurd (omega arith)
are_steps-at place (entry ∷ entries) zero all lt = rw add-zero (and_parts _ _ all).0
are_steps-at place (entry ∷ entries) (suc i) all lt =
    let e : place + suc i ≡ (place + 1) + i = omega arith in
    rw e (are_steps-at (place + 1) entries i (and_parts (is_step (walk (place / 16) (bits 4 (place % 16))) entry) _ all).1 (omega arith))

pub is_step-found : (found : List ℕ × Branch) (entry : ℕ) → is_step found entry ≡ true → found ≡ step_of (entry / 256) (entry % 256)
is_step-found ([], Node next) entry is =
    let lt : next < 256 = ltb-true next 256 (and_parts _ _ is).0 in
    let e : entry ≡ 65536 + next = eqb-true entry (65536 + next) (and_parts (nat_lt next 256) _ is).1 in
    let q : entry / 256 ≡ 256 = omega arith in
    let r : entry % 256 ≡ next = omega arith in
    rw (q, r) refl
is_step-found (symbol ∷ [], Node next) entry is =
    let lt : next < 256 = ltb-true next 256 (and_parts _ _ is).0 in
    let both : (nat_lt symbol 256 && entry == 256 * symbol + next) ≡ true = (and_parts (nat_lt next 256) _ is).1 in
    let st : nat_lt symbol 256 ≡ true = (and_parts _ _ both).0 in
    let small : symbol < 256 = ltb-true symbol 256 st in
    let e : entry ≡ 256 * symbol + next = eqb-true entry (256 * symbol + next) (and_parts (nat_lt symbol 256) _ both).1 in
    let q : entry / 256 ≡ symbol = omega arith in
    let r : entry % 256 ≡ next = omega arith in
    rw (q, r, st) refl
is_step-found ([], End) entry is = let e : entry ≡ 65792 = eqb-true entry 65792 is in rw e refl
is_step-found ([], Symbol s) entry is = absurd (false≢true is)
is_step-found (symbol ∷ [], Symbol s) entry is = absurd (false≢true is)
is_step-found (symbol ∷ [], End) entry is = absurd (false≢true is)
is_step-found (symbol ∷ other ∷ more, b) entry is = absurd (false≢true is)
