-- A worked run: one entry, one caller that is entitled to it and one that isn't, and a call of FetchX509SVID. What the definitions
-- say of it is written out as bytes (RFC 9113, RFC 7541, gRPC over HTTP/2, `workload.proto`).
use Rattle.std.specs.Prelude.{◌≡◌, ℕ, true, false, List, [], ◌∷◌, ◌++◌, length, codes, Some, None}
use Rattle.h2_frame.specs.declared.frame.Frame.{Frame}
use Rattle.h2_frame.specs.declared.frame.Body.TheVariants.{Bytes, Headers, Settings}
use Rattle.grpc_wire.specs.declared.refusal.Refusal.TheVariants.{NoIdentity}
use Rattle.wl_entry.specs.Asks.{ask_of}
use Rattle.wl_entry.specs.declared.entries.Entry.{Entry}
use Rattle.wl_entry.specs.declared.signing.Svid.{Svid}
use Rattle.wl_entry.specs.declared.bundles.Bundle.{Bundle}
use Rattle.wl_snapshot.specs.Snapshots.{Publication}
use Rattle.wl_snapshot.specs.declared.answers.Method3.TheVariants.{X509Svid}
use Rattle.wl_session.specs.declared.served.CallKind.{CallKind}
use Rattle.wl_session.specs.declared.served.CallKind.TheVariants.{Stream}
use Rattle.wl_session.specs.declared.served.Stage.TheVariants.{Ready}
use Rattle.wl_responses.specs.Steps.{Step, FrameCame, CallAttested, TurnTaken, AllFit}
use Rattle.wl_responses.specs.Replies.{AnsweringTurn, no_replies, replies_on}
use Rattle.wl_responses.specs.Responses.{IsAnswer}
use Rattle.wl_responses.specs.Statuses.{IsRefused, ending_at}

-- ---- what is published

abbrev pub entry : Entry
entry = record { id = codes "e1"; spiffe_id = codes "spiffe://a.b/w"; selectors = codes "unix:uid:1" ∷ []; federates_with = []; dns_names = []; ttl = 3600; hint = [] }

abbrev pub svid : Svid
svid = record { ask = ask_of entry; signed = record { chain = 1 ∷ []; key = 2 ∷ []; not_before = 100; not_after = 200 } }

abbrev pub bundle : Bundle
bundle = record { domain = codes "a.b"; x509 = 3 ∷ []; jwks = [] }

abbrev pub publication : Publication
publication = record { number = 1; domain = codes "a.b"; entries = entry ∷ []; svids = svid ∷ []; bundles = bundle ∷ [] }

-- ---- the two callers, and the call

abbrev pub caller : List (List ℕ)
caller = codes "unix:uid:1" ∷ []

abbrev pub other_caller : List (List ℕ)
other_caller = codes "unix:uid:2" ∷ []

abbrev pub kind : CallKind
kind = Stream X509Svid

abbrev pub settings : Frame
settings = record { stream = 0; body = Settings [] }

-- :method POST, :scheme http, :path, :authority, content-type, te, and the security header
abbrev pub head_block : List ℕ
head_block =
    131 ∷ 134 ∷ 4 ∷ 32 ∷ codes "/SpiffeWorkloadAPI/FetchX509SVID" ++ 1 ∷ 9 ∷ codes "localhost"
    ++ 15 ∷ 16 ∷ 16 ∷ codes "application/grpc" ++ 0 ∷ 2 ∷ codes "te" ++ 8 ∷ codes "trailers"
    ++ 0 ∷ 18 ∷ codes "workload.spiffe.io" ++ 4 ∷ codes "true"

abbrev pub head : Frame
head = record { stream = 1; body = Headers head_block false true }

-- an empty message, and the end of the request
abbrev pub request : Frame
request = record { stream = 1; body = Bytes (0 ∷ 0 ∷ 0 ∷ 0 ∷ 0 ∷ []) 5 true }

-- the steps of a caller with these selectors, the last one first
abbrev pub run_of : List (List ℕ) → List Step
run_of selectors = TurnTaken publication ∷ CallAttested (Some selectors) ∷ FrameCame request ∷ FrameCame head ∷ FrameCame settings ∷ []

abbrev pub turn_of : List (List ℕ) → AnsweringTurn
turn_of selectors = record { publication = publication; kind = kind; selectors = selectors; tokens = [] }

-- ---- what the caller gets

-- gRPC's prefix, and an X509SVIDResponse with one SVID: the id, the chain, the key and the bundle
abbrev pub response : List ℕ
response = 0 ∷ 0 ∷ 0 ∷ 0 ∷ 27 ∷ 10 ∷ 25 ∷ 10 ∷ 14 ∷ codes "spiffe://a.b/w" ++ 18 ∷ 1 ∷ 1 ∷ 26 ∷ 1 ∷ 2 ∷ 34 ∷ 1 ∷ 3 ∷ []

-- one response began on stream 1, and all of it was written
abbrev pub FirstRunIsAnswered : Type 0
FirstRunIsAnswered = replies_on 1 (run_of caller) ≡ record { begun = record { bytes = response; turn = Some (turn_of caller) } ∷ []; written = response; left = [] }

-- it is an answer of that turn, and no other text is one
abbrev pub OneTextAnswers : Type 0
OneTextAnswers = IsAnswer (record { bytes = response; turn = Some (turn_of caller) }) × ((bytes : List ℕ) → IsAnswer (record { bytes = bytes; turn = Some (turn_of caller) }) → bytes ≡ response)

-- ---- what the other caller gets

-- nothing is written of a response
abbrev pub OtherCallerGetsNone : Type 0
OtherCallerGetsNone = replies_on 1 (run_of other_caller) ≡ no_replies

-- no text is an answer for it, and it is refused with status 7
abbrev pub NoTextAnswers : Type 0
NoTextAnswers = (bytes : List ℕ) → IsAnswer (record { bytes = bytes; turn = Some (turn_of other_caller) }) → ⊥

abbrev pub OtherCallerIsDenied : Type 0
OtherCallerIsDenied = ending_at publication (Ready kind other_caller None false) ≡ IsRefused NoIdentity

-- nor without a turn
abbrev pub NoTurnNoAnswer : Type 0
NoTurnNoAnswer = (bytes : List ℕ) → IsAnswer (record { bytes = bytes; turn = None }) → ⊥

-- the laws about all steps of a talk are about these runs
abbrev pub RunsFit : Type 0
RunsFit = AllFit (run_of caller) × AllFit (run_of other_caller)
