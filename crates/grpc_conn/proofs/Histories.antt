-- What is kept of a call stands for its head and all bytes so far.
use Rattle.std.proofs.Common.{◌≡◌, inl, inr, ℕ, ◌<◌, ◌≤◌, ◌==◌, Bool, true, false, nat_lt, List, [], ◌∷◌, ◌++◌, length, drop, Option, Some, None, option_map, Result, Ok, Err, IsSomeAnd, refl, sym, arith, length-append, length-drop, lt-ltb, ltb-true, eq-eqb}
use Rattle.std.proofs.lemmas.Bool.{cases_Bool}
use Rattle.workload_proto.specs.declared.limits.TheConstants.{MAX_REQUEST_LEN}
use Rattle.wl_octets.specs.declared.header.Header.{Header}
use Rattle.grpc_wire.specs.declared.fault.MessageFault.{MessageFault}
use Rattle.grpc_wire.specs.declared.head.HeadVerdict.{HeadVerdict}
use Rattle.grpc_wire.specs.declared.head.HeadVerdict.TheVariants as heads
use Rattle.grpc_wire.specs.declared.method.Method.{Method}
use Rattle.grpc_wire.specs.Heads.{head_verdict}
use Rattle.grpc_wire.specs.Messages.{prefix_of}
use Rattle.grpc_conn.specs.declared.event.CallEvent.{CallEvent}
use Rattle.grpc_conn.specs.declared.event.CallEvent.TheVariants.{Nothing, Malformed, Refuse, Ready}
use Rattle.grpc_conn.specs.declared.standing.Call.{Call}
use Rattle.grpc_conn.specs.declared.standing.Standing.{Standing}
use Rattle.grpc_conn.specs.declared.standing.Standing.TheVariants.{Waiting, Decided}
use Rattle.grpc_conn.specs.Verdicts.{prefix_verdict, body_verdict, verdict_of_call, verdict, is_decided_event, news}
use Rattle.grpc_conn.specs.Calls.{standing_of, event_of, standing_after, standing_by_head, standing_of_head, StandsFor, standing_at, event_at, calls_after, with_call, CallStandsFor}
use Rattle.grpc_wire.proofs.Prefixes.{prefix_more}

-- ---- a verdict stays

stays_behind : (method : Method) (r : Result (Option ℕ) MessageFault) (after later : List ℕ) (ended : Bool) → length after ≤ length later → is_decided_event (prefix_verdict method r after false) ≡ true → prefix_verdict method r later ended ≡ prefix_verdict method r after false
stays_behind method (Err fault) after later ended le told = refl
stays_behind method (Ok None) after later ended le told = absurd (cc told)
stays_behind method (Ok (Some n)) after later ended le told =
    elim (cases_Bool (nat_lt n (length after))) [
      | inl more ↦
          let still : n < length later = omega (arith, ltb-true n (length after) more) in
          rw (lt-ltb n (length later) still, more) refl
      | inr fits ↦ absurd (cc (rw fits at told))
    ]

body_stays : (method : Method) (b more : List ℕ) (ended : Bool) → is_decided_event (body_verdict method b false) ≡ true → body_verdict method (b ++ more) ended ≡ body_verdict method b false
unfolding body_verdict
body_stays method b more ended told =
    elim (prefix_more MAX_REQUEST_LEN b more) [
      | inl part ↦ absurd (cc (rw part at told))
      | inr same ↦ rw same (stays_behind method (prefix_of MAX_REQUEST_LEN b) (drop 5 b) (drop 5 (b ++ more)) ended (simp (length-drop, length-append) (omega arith)) told)
    ]

stays_by : (h : HeadVerdict) (fed more : List ℕ) (ended : Bool) → is_decided_event (verdict_of_call h fed false) ≡ true → verdict_of_call h (fed ++ more) ended ≡ verdict_of_call h fed false
stays_by heads.Malformed fed more ended told = refl
stays_by (heads.Refused refusal) fed more ended told = refl
stays_by (heads.Call method) fed more ended told = body_stays method fed more ended told

-- more bytes, or the end, do not change a verdict
pub verdicts_stay : (headers : List Header) (fed more : List ℕ) (ended : Bool) → is_decided_event (verdict headers fed false) ≡ true → verdict headers (fed ++ more) ended ≡ verdict headers fed false
unfolding verdict
verdicts_stay headers fed more ended told = stays_by (head_verdict headers) fed more ended told

verdict_stays : (headers : List Header) (fed more : List ℕ) → is_decided_event (verdict headers fed false) ≡ true → is_decided_event (verdict headers (fed ++ more) false) ≡ true
verdict_stays headers fed more told = rw (verdicts_stay headers fed more false told) told

-- ---- what is reported

news_told : (before now : CallEvent) → is_decided_event before ≡ true → news before now ≡ Nothing
news_told Nothing now told = absurd (cc told)
news_told Malformed now told = refl
news_told (Refuse refusal) now told = refl
news_told (Ready method m request) now told = refl

news_open : (before now : CallEvent) → is_decided_event before ≡ false → news before now ≡ now
news_open Nothing now still = refl
news_open Malformed now still = absurd (cc still)
news_open (Refuse refusal) now still = absurd (cc still)
news_open (Ready method m request) now still = absurd (cc still)

of_call : (headers : List Header) (method : Method) (fed : List ℕ) (ended : Bool) → head_verdict headers ≡ heads.Call method → verdict headers fed ended ≡ body_verdict method fed ended
unfolding verdict
of_call headers method fed ended head = rw head refl

tells : (standing : Standing) (headers : List Header) (fed bytes : List ℕ) (ended : Bool) → StandsFor standing headers fed → event_of standing bytes ended ≡ news (verdict headers fed false) (verdict headers (fed ++ bytes) ended)
unfolding event_of
tells (Waiting method body) headers fed bytes ended stood =
    rw (news_open (verdict headers fed false) (verdict headers (fed ++ bytes) ended) stood.2, of_call headers method (fed ++ bytes) ended stood.0, stood.1) refl
tells Decided headers fed bytes ended stood = sym (news_told (verdict headers fed false) (verdict headers (fed ++ bytes) ended) stood)

-- ---- what is kept

kept_so : (method : Method) (headers : List Header) (fed : List ℕ) → head_verdict headers ≡ heads.Call method → StandsFor (standing_of (body_verdict method fed false) method fed) headers fed
kept_so method headers fed head =
    elim (cases_Bool (is_decided_event (body_verdict method fed false))) [
      | inl told ↦ rw told (rw (of_call headers method fed false head) told)
      | inr still ↦ rw still (head, refl, rw (of_call headers method fed false head) still)
    ]

moves : (standing : Standing) (headers : List Header) (fed bytes : List ℕ) → StandsFor standing headers fed → StandsFor (standing_after standing bytes false) headers (fed ++ bytes)
unfolding standing_after
moves (Waiting method body) headers fed bytes stood = rw stood.1 (kept_so method headers (fed ++ bytes) stood.0)
moves Decided headers fed bytes stood = verdict_stays headers fed bytes stood

head_stands_for : (h : HeadVerdict) (headers : List Header) → head_verdict headers ≡ h → StandsFor (standing_by_head h false) headers []
unfolding verdict
head_stands_for heads.Malformed headers head = rw head refl
head_stands_for (heads.Refused refusal) headers head = rw head refl
head_stands_for (heads.Call method) headers head = kept_so method headers [] head

begins : (headers : List Header) → StandsFor (standing_of_head headers false) headers []
unfolding standing_of_head
begins headers = head_stands_for (head_verdict headers) headers refl

-- ---- on a stream

moved_there : (stream : ℕ) (bytes : List ℕ) (ended : Bool) (calls : List Call) → standing_at stream (calls_after stream bytes ended calls) ≡ option_map (λ standing. standing_after standing bytes ended) (standing_at stream calls)
moved_there stream bytes ended [] = refl
moved_there stream bytes ended (c ∷ calls) =
    elim (cases_Bool (c.stream == stream)) [
      | inl here ↦ rw (here, here) refl
      | inr other ↦ rw (other, other) (moved_there stream bytes ended calls)
    ]

pub added_there : (stream : ℕ) (standing : Standing) (calls : List Call) → standing_at stream calls ≡ None → standing_at stream (with_call stream standing calls) ≡ Some standing
added_there stream standing [] absent = rw (eq-eqb stream stream refl) refl
added_there stream standing (c ∷ calls) absent =
    elim (cases_Bool (c.stream == stream)) [
      | inl here ↦ absurd (cc (rw here at absent))
      | inr other ↦ rw other (added_there stream standing calls (rw other at absent))
    ]

goes_at : (o : Option Standing) (headers : List Header) (fed bytes : List ℕ) → IsSomeAnd o (λ standing. StandsFor standing headers fed) → IsSomeAnd (option_map (λ standing. standing_after standing bytes false) o) (λ standing. StandsFor standing headers (fed ++ bytes))
goes_at None headers fed bytes stood = stood
goes_at (Some standing) headers fed bytes stood = moves standing headers fed bytes stood

tells_at : (o : Option Standing) (headers : List Header) (fed bytes : List ℕ) (ended : Bool) → IsSomeAnd o (λ standing. StandsFor standing headers fed) → event_at o bytes ended ≡ news (verdict headers fed false) (verdict headers (fed ++ bytes) ended)
tells_at None headers fed bytes ended stood = absurd stood
tells_at (Some standing) headers fed bytes ended stood = tells standing headers fed bytes ended stood

pub begins_so : (stream : ℕ) (headers : List Header) (ended : Bool) (old new : List Call) → standing_at stream old ≡ None → new ≡ with_call stream (standing_of_head headers ended) old → ended ≡ false → CallStandsFor stream new headers []
begins_so stream headers ended old new absent same going =
    rw (same, going, added_there stream (standing_of_head headers false) old absent) (begins headers)

pub tells_so : (stream : ℕ) (calls : List Call) (headers : List Header) (fed bytes : List ℕ) (ended : Bool) → CallStandsFor stream calls headers fed → event_at (standing_at stream calls) bytes ended ≡ news (verdict headers fed false) (verdict headers (fed ++ bytes) ended)
tells_so stream calls headers fed bytes ended stood = tells_at (standing_at stream calls) headers fed bytes ended stood

pub goes_so : (stream : ℕ) (old new : List Call) (headers : List Header) (fed bytes : List ℕ) (ended : Bool) → new ≡ calls_after stream bytes ended old → CallStandsFor stream old headers fed → ended ≡ false → CallStandsFor stream new headers (fed ++ bytes)
goes_so stream old new headers fed bytes ended same stood going =
    rw (same, going, moved_there stream bytes false old) (goes_at (standing_at stream old) headers fed bytes stood)
