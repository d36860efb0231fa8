-- The prefix of a message does not change with more bytes after it.
use Rattle.std.proofs.Common.{◌≡◌, ◌⊎◌, inl, inr, ℕ, ◌<◌, ◌≤◌, ◌==◌, not, false, List, ◌++◌, length, take, drop, slice_index, Ok, Err, Some, None, refl, arith, nat_lt, ltb-false, ltb-true, le-ltb, length-drop, length-append}
use Rattle.std.proofs.lemmas.Bool.{cases_Bool}
use Rattle.std.proofs.lemmas.List.{take-append-le, drop-append-le, get_or_append_left}
use Rattle.std.specs.Int.{w32, from_be_bytes}
use Rattle.grpc_wire.specs.declared.fault.MessageFault.TheVariants as faults
use Rattle.grpc_wire.specs.Messages.{length_within, prefix_of}

pub prefix_more : (limit : ℕ) (b more : List ℕ) → (prefix_of limit b ≡ Ok None) ⊎ (prefix_of limit (b ++ more) ≡ prefix_of limit b)
unfolding prefix_of
prefix_more limit b more =
    elim (cases_Bool (nat_lt (length b) 1)) [
      | inl none ↦ inl (rw none refl)
      | inr none ↦
          let some : 1 ≤ length b = ltb-false (length b) 1 none in
          let some_still : nat_lt (length (b ++ more)) 1 ≡ false = le-ltb (length (b ++ more)) 1 (simp length-append (omega arith)) in
          let first : slice_index (b ++ more) 0 ≡ slice_index b 0 = get_or_append_left b more 0 0 (omega arith) in
          elim (cases_Bool (not (slice_index b 0 == 0))) [
            | inl flag ↦ inr (rw (none, some_still, first, flag) refl)
            | inr flag ↦ elim (cases_Bool (nat_lt (length b) 5)) [
              | inl few ↦ inl (rw (none, flag, few) refl)
              | inr few ↦
                  let long : 5 ≤ length b = ltb-false (length b) 5 few in
                  let long_still : nat_lt (length (b ++ more)) 5 ≡ false = le-ltb (length (b ++ more)) 5 (simp length-append (omega arith)) in
                  let same : take 4 (drop 1 (b ++ more)) ≡ take 4 (drop 1 b) = rw (drop-append-le 1 b more (omega arith), take-append-le 4 (drop 1 b) more (simp length-drop (omega arith))) refl in
                  inr (rw (none, some_still, first, flag, few, long_still, same) refl)
            ]
          ]
    ]

-- a length always says whether it is within the limit
sized : (limit n : ℕ) → length_within limit n ≡ Ok None → ⊥
sized limit n said =
    elim (cases_Bool (nat_lt limit n)) [
      | inl large ↦ cc (rw large at said)
      | inr large ↦ cc (rw large at said)
    ]

sized_memory : (limit n : ℕ) → length_within limit n ≡ Err faults.Memory → ⊥
sized_memory limit n said =
    elim (cases_Bool (nat_lt limit n)) [
      | inl large ↦ cc (rw large at said)
      | inr large ↦ cc (rw large at said)
    ]

-- fewer than five bytes say nothing
pub prefix_short : (limit : ℕ) (b : List ℕ) → prefix_of limit b ≡ Ok None → length b < 5
unfolding prefix_of
prefix_short limit b said =
    elim (cases_Bool (nat_lt (length b) 1)) [
      | inl none ↦ omega (arith, ltb-true (length b) 1 none)
      | inr none ↦ elim (cases_Bool (not (slice_index b 0 == 0))) [
        | inl flag ↦ absurd (cc (rw (none, flag) at said))
        | inr flag ↦ elim (cases_Bool (nat_lt (length b) 5)) [
          | inl few ↦ ltb-true (length b) 5 few
          | inr few ↦ absurd (sized limit (from_be_bytes w32 (take 4 (drop 1 b))) (rw (none, flag, few) at said))
        ]
      ]
    ]

-- no memory is taken for a prefix
pub prefix_memory : (limit : ℕ) (b : List ℕ) → prefix_of limit b ≡ Err faults.Memory → ⊥
unfolding prefix_of
prefix_memory limit b said =
    elim (cases_Bool (nat_lt (length b) 1)) [
      | inl none ↦ cc (rw none at said)
      | inr none ↦ elim (cases_Bool (not (slice_index b 0 == 0))) [
        | inl flag ↦ cc (rw (none, flag) at said)
        | inr flag ↦ elim (cases_Bool (nat_lt (length b) 5)) [
          | inl few ↦ cc (rw (none, flag, few) at said)
          | inr few ↦ sized_memory limit (from_be_bytes w32 (take 4 (drop 1 b))) (rw (none, flag, few) at said)
        ]
      ]
    ]

-- five bytes say a length
pub prefix_long : (limit n : ℕ) (b : List ℕ) → prefix_of limit b ≡ Ok (Some n) → 5 ≤ length b
unfolding prefix_of
prefix_long limit n b said =
    elim (cases_Bool (nat_lt (length b) 1)) [
      | inl none ↦ absurd (cc (rw none at said))
      | inr none ↦ elim (cases_Bool (not (slice_index b 0 == 0))) [
        | inl flag ↦ absurd (cc (rw (none, flag) at said))
        | inr flag ↦ elim (cases_Bool (nat_lt (length b) 5)) [
          | inl few ↦ absurd (cc (rw (none, flag, few) at said))
          | inr few ↦ ltb-false (length b) 5 few
        ]
      ]
    ]
