-- The place of a call in the list, and the calls on other streams.
use Rattle.std.proofs.Common.{◌≡◌, ◌≢◌, inl, inr, ℕ, zero, suc, ◌<◌, ◌≤◌, ◌==◌, Bool, true, false, not, List, [], ◌∷◌, length, get_or, Some, None, position, Result, Ok, Err, OnOk, refl, sym, ap, ◌∙◌, arith, nat_lt, ltb-false, ne_eqb}
use Rattle.std.proofs.Math.ListN.{set}
use Rattle.std.proofs.lemmas.Bool.{cases_Bool, eqb-true}
use Rattle.std.proofs.lemmas.List.Quantifiers.{position-Some}
use Rattle.std.specs.List.{prefix_len}
use Rattle.grpc_conn.specs.declared.standing.Call.{Call}
use Rattle.grpc_conn.specs.declared.standing.Standing.{Standing}
use Rattle.grpc_conn.specs.Calls.{standing_after, standing_at, calls_after, with_call, without}

-- the call is on the stream
abbrev pub is_on : ℕ → Call → Bool
is_on stream c = c.stream == stream

-- ---- the first call on a stream

standing_here : (stream : ℕ) (calls : List Call) (i : ℕ) (d : Call) → i < length calls → is_on stream (get_or calls i d) ≡ true → ((k : ℕ) → k < i → is_on stream (get_or calls k d) ≡ false) → standing_at stream calls ≡ Some (get_or calls i d).standing
standing_here stream [] i d lt here first = absurd (omega arith)
standing_here stream (c ∷ calls) zero d lt here first = rw here refl
standing_here stream (c ∷ calls) (suc i) d lt here first =
    rw (first 0 (omega arith)) (standing_here stream calls i d (omega arith) here (λ k less. first (suc k) (omega arith)))

moved_here : (stream : ℕ) (bytes : List ℕ) (ended : Bool) (calls : List Call) (i : ℕ) (d : Call) → i < length calls → is_on stream (get_or calls i d) ≡ true → ((k : ℕ) → k < i → is_on stream (get_or calls k d) ≡ false) → calls_after stream bytes ended calls ≡ set calls i (record { stream = (get_or calls i d).stream; standing = standing_after (get_or calls i d).standing bytes ended })
moved_here stream bytes ended [] i d lt here first = absurd (omega arith)
moved_here stream bytes ended (c ∷ calls) zero d lt here first = rw here refl
moved_here stream bytes ended (c ∷ calls) (suc i) d lt here first =
    rw (first 0 (omega arith)) (ap (λ rest. c ∷ rest) (moved_here stream bytes ended calls i d (omega arith) here (λ k less. first (suc k) (omega arith))))

pub standing_placed : (stream : ℕ) (calls : List Call) (i : ℕ) (d : Call) → position (is_on stream) calls ≡ Some i → standing_at stream calls ≡ Some (get_or calls i d).standing
standing_placed stream calls i d found =
    let there = position-Some (is_on stream) calls i d found in
    standing_here stream calls i d there.0 there.1 there.2

pub moved_placed : (stream : ℕ) (bytes : List ℕ) (ended : Bool) (calls : List Call) (i : ℕ) (d : Call) → position (is_on stream) calls ≡ Some i → calls_after stream bytes ended calls ≡ set calls i (record { stream = (get_or calls i d).stream; standing = standing_after (get_or calls i d).standing bytes ended })
moved_placed stream bytes ended calls i d found =
    let there = position-Some (is_on stream) calls i d found in
    moved_here stream bytes ended calls i d there.0 there.1 there.2

-- ---- no call on a stream

pub none_there : (stream : ℕ) (calls : List Call) → length calls ≤ prefix_len (λ c. not (is_on stream c)) calls → standing_at stream calls ≡ None
none_there stream [] all = refl
none_there stream (c ∷ calls) all =
    elim (cases_Bool (is_on stream c)) [
      | inl here ↦ absurd (omega (arith, rw here at all))
      | inr other ↦ rw other (none_there stream calls (omega (arith, rw other at all)))
    ]

pub none_moved : (stream : ℕ) (bytes : List ℕ) (ended : Bool) (calls : List Call) → length calls ≤ prefix_len (λ c. not (is_on stream c)) calls → calls_after stream bytes ended calls ≡ calls
none_moved stream bytes ended [] all = refl
none_moved stream bytes ended (c ∷ calls) all =
    elim (cases_Bool (is_on stream c)) [
      | inl here ↦ absurd (omega (arith, rw here at all))
      | inr other ↦ rw other (ap (λ rest. c ∷ rest) (none_moved stream bytes ended calls (omega (arith, rw other at all))))
    ]

pub unplaced : (stream : ℕ) (calls : List Call) → position (is_on stream) calls ≡ None → length calls ≤ prefix_len (λ c. not (is_on stream c)) calls
unplaced stream calls none =
    elim (cases_Bool (nat_lt (prefix_len (λ c. not (is_on stream c)) calls) (length calls))) [
      | inl less ↦ absurd (cc (rw less at none))
      | inr all ↦ ltb-false (prefix_len (λ c. not (is_on stream c)) calls) (length calls) all
    ]

-- ---- what is known of an answer

pub on_ok_map : {T E : Type 0} (r : Result T E) (P Q : Type 0) → (P → Q) → OnOk r P → OnOk r Q
on_ok_map (Ok x) P Q f h = f h
on_ok_map (Err e) P Q f h = h

-- ---- for callers: the other calls

pub added_elsewhere : (other stream : ℕ) (standing : Standing) (calls : List Call) → stream ≢ other → standing_at other (with_call stream standing calls) ≡ standing_at other calls
added_elsewhere other stream standing [] apart = rw (ne_eqb stream other apart) refl
added_elsewhere other stream standing (c ∷ calls) apart =
    elim (cases_Bool (c.stream == other)) [
      | inl here ↦ rw here refl
      | inr there ↦ rw there (added_elsewhere other stream standing calls apart)
    ]

pub moved_elsewhere : (other stream : ℕ) (bytes : List ℕ) (ended : Bool) (calls : List Call) → stream ≢ other → standing_at other (calls_after stream bytes ended calls) ≡ standing_at other calls
moved_elsewhere other stream bytes ended [] apart = refl
moved_elsewhere other stream bytes ended (c ∷ calls) apart =
    elim (cases_Bool (c.stream == stream)) [
      | inl here ↦
          let is : c.stream ≡ stream = eqb-true c.stream stream here in
          let there : c.stream == other ≡ false = ne_eqb c.stream other (λ same. apart (sym is ∙ same)) in
          rw (here, there) refl
      | inr not_here ↦ elim (cases_Bool (c.stream == other)) [
        | inl there ↦ rw (not_here, there) refl
        | inr there ↦ rw (not_here, there) (moved_elsewhere other stream bytes ended calls apart)
      ]
    ]

pub moved_length : (stream : ℕ) (bytes : List ℕ) (ended : Bool) (calls : List Call) → length (calls_after stream bytes ended calls) ≡ length calls
moved_length stream bytes ended [] = refl
moved_length stream bytes ended (c ∷ calls) =
    elim (cases_Bool (c.stream == stream)) [
      | inl here ↦ rw here refl
      | inr there ↦ rw there (ap suc (moved_length stream bytes ended calls))
    ]

-- a stream that is gone isn't there
pub removed_there : (stream : ℕ) (calls : List Call) → standing_at stream (without stream calls) ≡ None
removed_there stream [] = refl
removed_there stream (c ∷ calls) =
    elim (cases_Bool (c.stream == stream)) [
      | inl here ↦ rw here (removed_there stream calls)
      | inr there ↦ rw (there, there) (removed_there stream calls)
    ]

pub gone_elsewhere : (other stream : ℕ) (calls : List Call) → stream ≢ other → standing_at other (without stream calls) ≡ standing_at other calls
gone_elsewhere other stream [] apart = refl
gone_elsewhere other stream (c ∷ calls) apart =
    elim (cases_Bool (c.stream == stream)) [
      | inl here ↦
          let is : c.stream ≡ stream = eqb-true c.stream stream here in
          let there : c.stream == other ≡ false = ne_eqb c.stream other (λ same. apart (sym is ∙ same)) in
          rw (here, there) (gone_elsewhere other stream calls apart)
      | inr not_here ↦ elim (cases_Bool (c.stream == other)) [
        | inl there ↦ rw (not_here, there) refl
        | inr there ↦ rw (not_here, there) (gone_elsewhere other stream calls apart)
      ]
    ]

pub gone_length : (stream : ℕ) (calls : List Call) → length (without stream calls) ≤ length calls
gone_length stream [] = omega arith
gone_length stream (c ∷ calls) =
    elim (cases_Bool (c.stream == stream)) [
      | inl here ↦ rw here (omega (arith, gone_length stream calls))
      | inr there ↦ rw there (omega (arith, gone_length stream calls))
    ]
