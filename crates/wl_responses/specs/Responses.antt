-- Each response on a stream is the answer on the view of one publication (SPIFFE Workload API; own rules).
use Rattle.std.specs.Prelude.{◌≡◌, ◌⊎◌, ℕ, ◌≤◌, ◌==◌, false, List, [], ◌∷◌, ◌++◌, length, map, Option, Some, None}
use Rattle.std.specs.List.{AllByRecursion}
use Rattle.list_laws.specs.Lists.{BeginsWith}
use Rattle.grpc_wire.specs.Messages.{framed, messages_of, IsOpen}
use Rattle.workload_proto.specs.declared.message.JwtItem.{JwtItem}
use Rattle.workload_proto.specs.declared.limits.TheConstants.{MAX_RESPONSE_LEN}
use Rattle.workload_proto.specs.Spelling.{spell_jwt}
use Rattle.wl_entry.specs.declared.tokens.JwtToken.{JwtToken}
use Rattle.wl_health.specs.Messages.{spell_state}
use Rattle.wl_snapshot.specs.Views.{ViewModel, view_in}
use Rattle.wl_snapshot.specs.Answers.{answer_of, asks_of}
use Rattle.wl_snapshot.specs.declared.answers.Answer.TheVariants.{Message}
use Rattle.wl_snapshot.specs.declared.token_asks.Wanted.{Wanted}
use Rattle.wl_session.specs.declared.served.CallKind.{CallKind}
use Rattle.wl_session.specs.declared.served.CallKind.TheVariants.{Stream, Tokens, Check, Watch}
use Rattle.wl_session.specs.declared.served.Stage.{Stage}
use Rattle.wl_session.specs.declared.served.Stage.TheVariants.{Unnamed, Ready, Asking}
use Rattle.wl_session.specs.Answering.{health_of}
use Rattle.wl_session.specs.Tokens.{first_unnamed}
use Rattle.wl_session.specs.Talks.{Talking}
use Rattle.wl_responses.specs.Steps.{Step, FrameCame, BytesBroke, CallAttested, TurnTaken, OutcomeCame, talk_after, AllFit}
use Rattle.wl_responses.specs.Replies.{AnsweringTurn, Response, Replies, stage_on, replies_on}

-- ---- one response

-- an ask and its token, as the response has them
abbrev pub token_item : Wanted → JwtToken → JwtItem
token_item w t = record { spiffe_id = w.ask.spiffe_id; svid = t.token; hint = w.hint }

-- one for each ask that has its token
abbrev pub token_items : List Wanted → List JwtToken → List JwtItem
token_items [] tokens = []
token_items (w ∷ ws) [] = []
token_items (w ∷ ws) (t ∷ tokens) = token_item w t ∷ token_items ws tokens

-- The message that a call is given on a view: its method's, as Answer gives it; of the tokens that came, one for each ask; or
-- the state of its service. A Check of a service that is not known is given none.
abbrev pub IsMessageOn : CallKind → ViewModel → List JwtToken → List ℕ → Type 0
IsMessageOn (Stream method) v tokens bytes = (m : List ℕ) × (answer_of method v ≡ Message m) × (bytes ≡ framed m)
IsMessageOn (Tokens audience id) v tokens bytes =
    let message = spell_jwt (record { svids = token_items (asks_of id v) tokens }) in
    (length tokens ≡ length (asks_of id v)) × (bytes ≡ framed message) × (length message ≤ MAX_RESPONSE_LEN)
IsMessageOn (Check service) v tokens bytes = ((health_of service v == 3) ≡ false) × (bytes ≡ framed (spell_state (health_of service v)))
IsMessageOn (Watch service) v tokens bytes = bytes ≡ framed (spell_state (health_of service v))

-- it is the message on the view, for the call's own selectors, of the publication that this turn read
abbrev pub IsMessageOf : Option AnsweringTurn → List ℕ → Type 0
IsMessageOf None bytes = ⊥
IsMessageOf (Some turn) bytes = IsMessageOn turn.kind (view_in turn.publication turn.selectors) turn.tokens bytes

abbrev pub IsAnswer : Response → Type 0
IsAnswer response = IsMessageOf response.turn response.bytes

-- ---- one stream

-- responses as one text, in the order in which they began
abbrev pub all_bytes : List Response → List ℕ
all_bytes [] = []
all_bytes (response ∷ before) = all_bytes before ++ response.bytes

abbrev pub last_bytes : List Response → List ℕ
last_bytes [] = []
last_bytes (response ∷ before) = response.bytes

-- no two that follow each other are equal
abbrev pub AllDiffer : List Response → Type 0
AllDiffer [] = Unit {0}
AllDiffer (response ∷ before) = (response.bytes ≡ last_bytes before → ⊥) × AllDiffer before

-- of all replies on one stream: with what is left of the last response, the bytes of DATA are the responses that began, in
-- their order; each of these is the answer on the view of the publication of the latest turn that answered the stream before
-- it began; and none is equal to the one before it
pub record AreAnswers (r : Replies) : Type 0 where
  pub bytes : r.written ++ r.left ≡ all_bytes r.begun
  pub answers : AllByRecursion IsAnswer r.begun
  pub differ : AllDiffer r.begun

abbrev pub StreamsHaveAnswers : Type 0
StreamsHaveAnswers = (n : ℕ) (steps : List Step) → AllFit steps → AreAnswers (replies_on n steps)

-- ---- the turn of a response

-- the call asks for this, and was attested with these selectors
abbrev pub IsReadyAs : CallKind → List (List ℕ) → Option Stage → Type 0
IsReadyAs kind selectors None = ⊥
IsReadyAs kind selectors (Some (Unnamed own)) = ⊥
IsReadyAs kind selectors (Some (Ready own named seen headed)) = (own ≡ kind) × (named ≡ selectors)
IsReadyAs kind selectors (Some (Asking first rest got)) = ⊥

-- at this step, from this talk, a turn read the publication while the call on the stream was ready so
abbrev pub IsTurn : ℕ → AnsweringTurn → Step → Talking → Type 0
IsTurn n turn (FrameCame f) t = ⊥
IsTurn n turn (BytesBroke why) t = ⊥
IsTurn n turn (CallAttested caller) t = ⊥
IsTurn n turn (TurnTaken x) t = (x ≡ turn.publication) × IsReadyAs turn.kind turn.selectors (stage_on n t.served)
IsTurn n turn (OutcomeCame o) t = ⊥

abbrev pub WasTaken : ℕ → AnsweringTurn → List Step → Type 0
WasTaken n turn [] = ⊥
WasTaken n turn (step ∷ before) = IsTurn n turn step (talk_after before) ⊎ WasTaken n turn before

-- at this step the call on the stream was attested with these selectors: it was the first one that was not attested
abbrev pub IsAttestation : ℕ → List (List ℕ) → Step → Talking → Type 0
IsAttestation n selectors (FrameCame f) t = ⊥
IsAttestation n selectors (BytesBroke why) t = ⊥
IsAttestation n selectors (CallAttested None) t = ⊥
IsAttestation n selectors (CallAttested (Some named)) t = (first_unnamed t.served ≡ Some n) × (named ≡ selectors)
IsAttestation n selectors (TurnTaken x) t = ⊥
IsAttestation n selectors (OutcomeCame o) t = ⊥

abbrev pub WasAttested : ℕ → List (List ℕ) → List Step → Type 0
WasAttested n selectors [] = ⊥
WasAttested n selectors (step ∷ before) = IsAttestation n selectors step (talk_after before) ⊎ WasAttested n selectors before

abbrev pub IfTurn : (AnsweringTurn → Type 0) → Option AnsweringTurn → Type 0
IfTurn P None = Unit {0}
IfTurn P (Some turn) = P turn

abbrev pub AllTurns : (AnsweringTurn → Type 0) → List Response → Type 0
AllTurns P responses = AllByRecursion (λ r. IfTurn P r.turn) responses

abbrev pub StreamsHaveTurns : Type 0
StreamsHaveTurns = (n : ℕ) (steps : List Step) → AllTurns (λ turn. WasTaken n turn steps) (replies_on n steps).begun

abbrev pub StreamsHaveSelectors : Type 0
StreamsHaveSelectors =
    (n : ℕ) (steps : List Step) → AllTurns (λ turn. WasAttested n turn.selectors steps) (replies_on n steps).begun

-- ---- as a reader of gRPC cuts them

-- the messages of responses after their prefixes, the first one first
abbrev pub AreMessages : List Response → List (List ℕ) → Type 0
AreMessages [] messages = messages ≡ []
AreMessages (r ∷ before) messages =
    (m : List ℕ) × (first : List (List ℕ)) × (messages ≡ first ++ m ∷ []) × (r.bytes ≡ framed m) × AreMessages before first

-- what was written, cut at the lengths of gRPC by a reader with a limit, is the first of these messages, and then a part of
-- one more, or nothing
pub record IsCut (limit : ℕ) (r : Replies) : Type 0 where
  pub messages : List (List ℕ)
  pub are : AreMessages r.begun messages
  pub cut : BeginsWith messages (messages_of limit r.written).messages
  pub unbroken : IsOpen (messages_of limit r.written).ending

-- ---- numbers

-- none is above this one
abbrev pub NoneAbove : ℕ → List ℕ → Type 0
NoneAbove n ns = AllByRecursion (λ m. m ≤ n) ns

-- of numbers, the last one first: none is below one before it
abbrev pub NeverFall : List ℕ → Type 0
NeverFall [] = Unit {0}
NeverFall (n ∷ before) = NoneAbove n before × NeverFall before

-- the numbers of the publications that the turns read, the last one first
abbrev pub read_at : Step → List ℕ → List ℕ
read_at (FrameCame f) before = before
read_at (BytesBroke why) before = before
read_at (CallAttested caller) before = before
read_at (TurnTaken x) before = x.number ∷ before
read_at (OutcomeCame o) before = before

abbrev pub numbers_read : List Step → List ℕ
numbers_read [] = []
numbers_read (step ∷ before) = read_at step (numbers_read before)

-- the number of the publication of whose view a response is
abbrev pub number_of_turn : Option AnsweringTurn → ℕ
number_of_turn None = 0
number_of_turn (Some turn) = turn.publication.number

abbrev pub numbers_of : List Response → List ℕ
numbers_of responses = map (λ r. number_of_turn r.turn) responses

-- where the turns' numbers do not fall, those of the responses on one stream do not
abbrev pub NumbersNeverFall : Type 0
NumbersNeverFall = (n : ℕ) (steps : List Step) → NeverFall (numbers_read steps) → NeverFall (numbers_of (replies_on n steps).begun)
