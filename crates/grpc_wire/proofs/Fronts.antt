-- One message at the front, and the bytes after it.
use Rattle.std.proofs.Common.{◌≡◌, ◌⊎◌, inl, inr, ℕ, ◌+◌, ◌<◌, ◌≤◌, ◌==◌, not, false, List, ◌++◌, length, take, drop, slice_index, Result, Ok, Err, Option, Some, None, refl, arith, nat_lt, ltb-false, ltb-true, le-ltb, length-drop, length-append}
use Rattle.std.proofs.lemmas.Bool.{cases_Bool}
use Rattle.std.proofs.lemmas.List.{drop-drop, take-append-le, drop-append-le}
use Rattle.std.specs.Int.{w32, from_be_bytes}
use Rattle.grpc_wire.specs.declared.fault.MessageFault.{MessageFault}
use Rattle.grpc_wire.proofs.Prefixes.{prefix_more, prefix_long}
use Rattle.grpc_wire.specs.Messages.{length_within, prefix_of, Step, partial, whole, wrong, step_of_prefix, first_message}

-- the length that five bytes say
abbrev said_by : List ℕ → ℕ
said_by b = from_be_bytes w32 (take 4 (drop 1 b))

-- ---- a message takes bytes

-- what is left after a message is shorter than this
abbrev pub IsShorter : ℕ → Step → Type 0
IsShorter n partial = Unit {0}
IsShorter n (whole m rest) = length rest < n
IsShorter n (wrong fault) = Unit {0}

sized_shorter : (limit n k : ℕ) (after : List ℕ) → length after < k → IsShorter k (step_of_prefix (length_within limit n) after)
sized_shorter limit n k after lt =
    elim (cases_Bool (nat_lt limit n)) [
      | inl large ↦ rw large tt
      | inr large ↦ elim (cases_Bool (nat_lt (length after) n)) [
        | inl short ↦ rw (large, short) tt
        | inr short ↦ rw (large, short) (simp length-drop (omega arith))
      ]
    ]

pub first_shorter : (limit : ℕ) (b : List ℕ) → IsShorter (length b) (first_message limit b)
unfolding first_message prefix_of
first_shorter limit b =
    elim (cases_Bool (nat_lt (length b) 1)) [
      | inl none ↦ rw none tt
      | inr none ↦ elim (cases_Bool (not (slice_index b 0 == 0))) [
        | inl flag ↦ rw (none, flag) tt
        | inr flag ↦ elim (cases_Bool (nat_lt (length b) 5)) [
          | inl few ↦ rw (none, flag, few) tt
          | inr few ↦
              let long : 5 ≤ length b = ltb-false (length b) 5 few in
              rw (none, flag, few) (sized_shorter limit (said_by b) (length b) (drop 5 b) (simp length-drop (omega arith)))
        ]
      ]
    ]

-- ---- more bytes after it

-- the same with more bytes after
abbrev pub with_more : Step → List ℕ → Step
with_more partial more = partial
with_more (whole m rest) more = whole m (rest ++ more)
with_more (wrong fault) more = wrong fault

behind_more : (said : Result (Option ℕ) MessageFault) (b more : List ℕ) → ((n : ℕ) → said ≡ Ok (Some n) → 5 ≤ length b) → (step_of_prefix said (drop 5 b) ≡ partial) ⊎ (step_of_prefix said (drop 5 (b ++ more)) ≡ with_more (step_of_prefix said (drop 5 b)) more)
behind_more (Err fault) b more long = inr refl
behind_more (Ok None) b more long = inl refl
behind_more (Ok (Some n)) b more long =
    let rest : drop 5 (b ++ more) ≡ drop 5 b ++ more = drop-append-le 5 b more (long n refl) in
    elim (cases_Bool (nat_lt (length (drop 5 b)) n)) [
      | inl short ↦ inl (rw short refl)
      | inr short ↦
          let enough : n ≤ length (drop 5 b) = ltb-false (length (drop 5 b)) n short in
          let still : nat_lt (length (drop 5 b ++ more)) n ≡ false = le-ltb (length (drop 5 b ++ more)) n (simp length-append (omega arith)) in
          inr (rw (rest, short, still, take-append-le n (drop 5 b) more enough, drop-append-le n (drop 5 b) more enough) refl)
    ]

pub first_more : (limit : ℕ) (b more : List ℕ) → (first_message limit b ≡ partial) ⊎ (first_message limit (b ++ more) ≡ with_more (first_message limit b) more)
unfolding first_message
first_more limit b more =
    elim (prefix_more limit b more) [
      | inl none ↦ inl (rw none refl)
      | inr same ↦ rw same (behind_more (prefix_of limit b) b more (λ n said. prefix_long limit n b said))
    ]

-- ---- a whole message, and a part of one

pub first_whole : (limit n : ℕ) (b after : List ℕ) → 5 ≤ length b → prefix_of limit b ≡ Ok (Some n) → after ≡ drop 5 b → n ≤ length after → first_message limit b ≡ whole (take n after) (drop (5 + n) b)
unfolding first_message
first_whole limit n b after long said behind fits =
    rw (said, ← behind, le-ltb (length after) n fits, ← drop-drop n 5 b, behind) refl

sized_small : (limit n : ℕ) (after : List ℕ) → step_of_prefix (length_within limit n) after ≡ partial → length after < limit + 1
sized_small limit n after part =
    elim (cases_Bool (nat_lt limit n)) [
      | inl large ↦ absurd (cc (rw large at part))
      | inr large ↦ elim (cases_Bool (nat_lt (length after) n)) [
        | inl short ↦ omega (arith, ltb-false limit n large, ltb-true (length after) n short)
        | inr short ↦ absurd (cc (rw (large, short) at part))
      ]
    ]

-- less than a message is at most as long as the limit says
pub part_small : (limit : ℕ) (b : List ℕ) → first_message limit b ≡ partial → length b < limit + 6
unfolding first_message prefix_of
part_small limit b part =
    elim (cases_Bool (nat_lt (length b) 1)) [
      | inl none ↦ omega (arith, ltb-true (length b) 1 none)
      | inr none ↦ elim (cases_Bool (not (slice_index b 0 == 0))) [
        | inl flag ↦ absurd (cc (rw (none, flag) at part))
        | inr flag ↦ elim (cases_Bool (nat_lt (length b) 5)) [
          | inl few ↦ omega (arith, ltb-true (length b) 5 few)
          | inr few ↦ omega (arith, simp length-drop at (sized_small limit (said_by b) (drop 5 b) (rw (none, flag, few) at part)))
        ]
      ]
    ]
