-- A body that comes in two parts, of which the first completes the prefix.
use Rattle.std.proofs.Common.{◌≡◌, inl, inr, ℕ, ◌+◌, ◌<◌, ◌≤◌, Bool, true, false, List, ◌++◌, length, take, drop, Ok, Err, Some, None, refl, ap, ◌∙◌, arith, append_assoc, take-append-drop, length-append, length-drop, length-take, le-ltb, lt-ltb}
use Rattle.std.proofs.lemmas.Bool.{cases_lt}
use Rattle.std.proofs.lemmas.List.{take_all}
use Rattle.workload_proto.specs.declared.limits.TheConstants.{MAX_REQUEST_LEN}
use Rattle.grpc_wire.specs.declared.fault.MessageFault.{MessageFault}
use Rattle.grpc_wire.specs.declared.fault.MessageFault.TheVariants as faults
use Rattle.grpc_wire.specs.declared.method.Method.{Method}
use Rattle.grpc_wire.specs.declared.refusal.Refusal.TheVariants.{Count}
use Rattle.grpc_wire.specs.Messages.{prefix_of}
use Rattle.grpc_conn.specs.declared.event.CallEvent.TheVariants.{Nothing, Refuse}
use Rattle.grpc_conn.specs.Verdicts.{refusal_of_prefix, part_verdict, sized_verdict, whole_verdict, body_verdict}
use Rattle.grpc_wire.proofs.Prefixes.{prefix_more, prefix_short, prefix_memory}

-- ---- the front completes the prefix, as far as it has come

pub parts_again : (old bytes front : List ℕ) (k : ℕ) → front ≡ old ++ take k bytes → front ++ drop k bytes ≡ old ++ bytes
parts_again old bytes front k same = rw (same, append_assoc, take-append-drop) refl

pub fault_parts : (method : Method) (ended : Bool) (old bytes front : List ℕ) (k : ℕ) (fault : MessageFault) → front ≡ old ++ take k bytes → prefix_of MAX_REQUEST_LEN front ≡ Err fault → body_verdict method (old ++ bytes) ended ≡ refusal_of_prefix fault
unfolding body_verdict
fault_parts method ended old bytes front k fault same said =
    elim (prefix_more MAX_REQUEST_LEN front (drop k bytes)) [
      | inl part ↦ absurd (cc (part, said))
      | inr more ↦ rw (← parts_again old bytes front k same, more, said) refl
    ]

-- a fault of a prefix is a refusal
pub fault_told : (fault : MessageFault) (b : List ℕ) → prefix_of MAX_REQUEST_LEN b ≡ Err fault → refusal_of_prefix fault ≡ Nothing → ⊥
fault_told (faults.Flag flag) b said nothing = cc nothing
fault_told (faults.TooLong n) b said nothing = cc nothing
fault_told faults.Memory b said nothing = prefix_memory MAX_REQUEST_LEN b said

pub sized_parts : (method : Method) (ended : Bool) (old bytes front : List ℕ) (k n : ℕ) → front ≡ old ++ take k bytes → prefix_of MAX_REQUEST_LEN front ≡ Ok (Some n) → body_verdict method (old ++ bytes) ended ≡ sized_verdict method n (drop 5 (front ++ drop k bytes)) ended
unfolding body_verdict
sized_parts method ended old bytes front k n same said =
    elim (prefix_more MAX_REQUEST_LEN front (drop k bytes)) [
      | inl part ↦ absurd (cc (part, said))
      | inr more ↦ rw (← parts_again old bytes front k same, more, said) refl
    ]

-- a prefix that isn't whole takes all bytes
pub part_all : (old bytes front : List ℕ) (k : ℕ) → front ≡ old ++ take k bytes → prefix_of MAX_REQUEST_LEN front ≡ Ok None → (k < length bytes → 5 ≤ length old + k) → front ≡ old ++ bytes
part_all old bytes front k same said lacks =
    let short : length front < 5 = prefix_short MAX_REQUEST_LEN front said in
    let count : length front ≡ length old + length (take k bytes) = ap length same ∙ length-append old (take k bytes) in
    elim (cases_lt k (length bytes)) [
      | inl less ↦ let full : 5 ≤ length old + k = lacks less in absurd (omega (arith, length-take k bytes))
      | inr all ↦ same ∙ ap (λ xs. old ++ xs) (take_all k bytes all)
    ]

pub part_parts : (method : Method) (ended : Bool) (old bytes : List ℕ) → prefix_of MAX_REQUEST_LEN (old ++ bytes) ≡ Ok None → body_verdict method (old ++ bytes) ended ≡ part_verdict ended
unfolding body_verdict
part_parts method ended old bytes said = rw said refl

-- ---- after a prefix

pub behind_length : (old rest : List ℕ) → 5 ≤ length old → length (drop 5 (old ++ rest)) + 5 ≡ length old + length rest
behind_length old rest long = simp (length-drop, length-append) (omega arith)

pub too_many : (method : Method) (n : ℕ) (after : List ℕ) (ended : Bool) → n < length after → sized_verdict method n after ended ≡ Refuse Count
too_many method n after ended more = rw (lt-ltb n (length after) more) refl

pub goes_on : (method : Method) (n : ℕ) (after : List ℕ) → length after ≤ n → sized_verdict method n after false ≡ Nothing
goes_on method n after fits = rw (le-ltb n (length after) fits) refl

pub too_few : (method : Method) (n : ℕ) (after : List ℕ) → length after < n → sized_verdict method n after true ≡ Refuse Count
too_few method n after fewer =
    let fits : length after ≤ n = omega arith in
    rw (le-ltb n (length after) fits, lt-ltb (length after) n fewer) refl

pub all_there : (method : Method) (n : ℕ) (after : List ℕ) → length after ≡ n → sized_verdict method n after true ≡ whole_verdict method after
all_there method n after same =
    let fits : length after ≤ n = omega arith in
    let enough : n ≤ length after = omega arith in
    rw (le-ltb n (length after) fits, le-ltb (length after) n enough) refl
