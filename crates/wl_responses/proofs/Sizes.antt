-- No message of a response is above the limit of messages.
use Rattle.std.proofs.Common.{◌≡◌, inl, inr, ℕ, ◌+◌, ◌≤◌, ◌<◌, ◌==◌, ◌&&◌, nat_lt, not, bytes_eq, Bool, true, false, if◌then◌else◌, List, [], ◌∷◌, length, Option, Some, None, refl, subst, arith, length-append, ltb-false}
use Rattle.std.specs.Int.{w32, to_be_bytes}
use Rattle.std.proofs.lemmas.Bool.{cases_Bool}
use Rattle.grpc_wire.specs.declared.prefix.TheConstants.{PREFIX_LEN}
use Rattle.wl_responses.proofs.Common.{framed, MAX_RESPONSE_LEN, capped, JwtToken, spell_state, ViewModel, view_in, answer_of, Denied, Wait, TooLong, Message, Method3, CallKind, Stream, Tokens, Check, Watch, health_of, AnsweringTurn, IsMessageOn, IsMessageOf}
use Rattle.pb_wire.proofs.Varints.{varint-small}
use Rattle.wl_health.specs.declared.health.TheConstants.{SERVING, NOT_SERVING, SERVICE_UNKNOWN}
use Rattle.wl_health.specs.Health.{workload_api}
use Rattle.wl_snapshot.specs.Views.{is_whole}
use Rattle.wl_snapshot.specs.Answers.{message_of, waits, within_limit}

pub framed_length : (m : List ℕ) → length (framed m) ≡ PREFIX_LEN + length m
unfolding framed
framed_length m = omega (arith, length-append (0 ∷ to_be_bytes w32 (length m)) m)

-- ---- a message of a method

pub not_above : (m : List ℕ) → nat_lt MAX_RESPONSE_LEN (capped (length m)) ≡ false → length m ≤ MAX_RESPONSE_LEN
not_above m small = let le : capped (length m) ≤ MAX_RESPONSE_LEN = ltb-false MAX_RESPONSE_LEN (capped (length m)) small in omega (arith, le)

within_short : (m n : List ℕ) → within_limit m ≡ Message n → length n ≤ MAX_RESPONSE_LEN
within_short m n is =
    elim (cases_Bool (nat_lt MAX_RESPONSE_LEN (capped (length m)))) [
      | inl long ↦ absurd (let no_message : TooLong (capped (length m)) ≡ Message n = rw long at is in cc no_message)
      | inr short ↦
          let same : Message m ≡ Message n = rw short at is in
          let one : m ≡ n = cc same in
          subst (λ (xs : List ℕ). length xs ≤ MAX_RESPONSE_LEN) one (not_above m short)
    ]

answer_short_by : (a w : Bool) (m n : List ℕ) → (if a then Denied else if w then Wait else within_limit m) ≡ Message n → length n ≤ MAX_RESPONSE_LEN
answer_short_by true w m n is = absurd (cc is)
answer_short_by false true m n is = absurd (cc is)
answer_short_by false false m n is = within_short m n is

answer_short : (method : Method3) (v : ViewModel) (n : List ℕ) → answer_of method v ≡ Message n → length n ≤ MAX_RESPONSE_LEN
unfolding answer_of
answer_short method v n is = answer_short_by (length v.held == 0) (waits method v) (message_of method v) n is

-- ---- a state

two_bytes : (state : ℕ) → state < 128 → length (spell_state state) ≡ 2
unfolding spell_state
two_bytes state small = rw (varint-small 8 (omega arith), varint-small state small) refl

one_of_three : (a b c : Bool) (x y z : ℕ) → x < 128 → y < 128 → z < 128 → (if a then x else if b then (if c then x else y) else z) < 128
one_of_three true b c x y z h k l = h
one_of_three false true true x y z h k l = h
one_of_three false true false x y z h k l = k
one_of_three false false c x y z h k l = l

state_small : (service : List ℕ) (v : ViewModel) → health_of service v < 128
state_small service v = one_of_three (bytes_eq service []) (bytes_eq service workload_api) (not (length v.held == 0) && is_whole v) SERVING NOT_SERVING SERVICE_UNKNOWN (omega arith) (omega arith) (omega arith)

state_short : (service : List ℕ) (v : ViewModel) → length (spell_state (health_of service v)) ≤ MAX_RESPONSE_LEN
state_short service v = omega (arith, two_bytes (health_of service v) (state_small service v))

-- ---- a response

abbrev IsShort : List ℕ → Type 0
IsShort bytes = (m : List ℕ) × (bytes ≡ framed m) × (length m ≤ MAX_RESPONSE_LEN)

kind_short : (kind : CallKind) (v : ViewModel) (tokens : List JwtToken) (bytes : List ℕ) → IsMessageOn kind v tokens bytes → IsShort bytes
kind_short (Stream method) v tokens bytes is = (is.0, is.2, answer_short method v is.0 is.1)
kind_short (Tokens audience id) v tokens bytes is = (_, is.1, is.2)
kind_short (Check service) v tokens bytes is = (_, is.1, state_short service v)
kind_short (Watch service) v tokens bytes is = (_, is, state_short service v)

pub answer_is_short : (turn : Option AnsweringTurn) (bytes : List ℕ) → IsMessageOf turn bytes → (m : List ℕ) × (bytes ≡ framed m) × (length m ≤ MAX_RESPONSE_LEN)
answer_is_short None bytes is = absurd is
answer_is_short (Some turn) bytes is = kind_short turn.kind (view_in turn.publication turn.selectors) turn.tokens bytes is
