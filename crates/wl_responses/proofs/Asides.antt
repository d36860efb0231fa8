-- What is done for a call on one stream leaves the streams of all other numbers.
use Rattle.std.proofs.Common.{◌≡◌, inl, inr, ℕ, ◌==◌, length, Bool, true, false, not, nat_lt, if◌then◌else◌, List, [], ◌∷◌, ◌++◌, Option, Some, None, refl, sym, ◌∙◌}
use Rattle.std.specs.List.{AllByRecursion}
use Rattle.std.proofs.lemmas.Bool.{cases_Bool}
use Rattle.wl_responses.proofs.Common.{block_bytes, Phase, withdraws, framed, trailer_fields, refused_fields, Refusal, NoIdentity, LongResponse, UnknownService, Unsigned, Unattested, JwtItem, spell_jwt, capped, spell_state, Publication, ViewModel, view_in, answer_of, asks_of, Answer, Denied, Wait, TooLong, Message, Method3, Wanted, JwtAsk, JwtOutcome, CallKind, Stream, Tokens, Check, Watch, Stage, Unnamed, Ready, Asking, ServedCall, was_seen, Turned, goes_on, has_ended, with_head, with_refusal, with_message, with_last_message, stream_answer, health_of, token_answer, call_answer, stage_turn, call_turn, calls_turn, change_first, is_unnamed, name_call, name_stage, name_on, name_first, is_asking, item_for, next_ask, give_call, give_on, give_first, first_here, first_later, stands_itself, withdrawal_stands, refusal_stands, answer_stands, OnPhase}
use Rattle.h2_flow.specs.declared.stream.Stream as flow
use Rattle.grpc_wire.specs.Answers.{response_fields}
use Rattle.wl_session.specs.declared.asks.JwtOutcome.TheVariants as outcomes
use Rattle.wl_session.specs.Answering.{turn_before}
use Rattle.wl_session.specs.Tokens.{token_message, give_stage}
use Rattle.wl_session.proofs.Attestations.{first_of_none}
use Rattle.wl_session.proofs.Streams.{Stands, stands_both, last_answer_stands}
use Rattle.wl_responses.proofs.OutboxStreams.{head_other, trailers_other, message_other, withdrawn_other}

-- no call is on this stream
abbrev pub NoneOn : ℕ → List ServedCall → Type 0
NoneOn n cs = AllByRecursion (λ c. c.stream ≡ n → ⊥) cs

-- what is said of the streams of this number stays
abbrev pub Leaves : ℕ → Phase → Phase → Type 1
Leaves n p q = (P : flow.Stream → Type 0) → OnPhase n P p → OnPhase n P q

abbrev Apart : ℕ → Phase → Phase → Type 1
Apart k p q = (n : ℕ) → (k ≡ n → ⊥) → Leaves n p q

-- ---- answers

pub refusal_apart : (k : ℕ) (headed : Bool) (r : Refusal) (p : Phase) → Apart k p (with_refusal k headed r p)
unfolding with_refusal
refusal_apart k headed r p n other P h = trailers_other n k (block_bytes (refused_fields r (not headed))) P other (withdraws k p) (withdrawn_other n k P other p h)

head_apart : (k : ℕ) (headed : Bool) (p : Phase) → Apart k p (with_head k headed p)
unfolding with_head
head_apart k true p n other P h = h
head_apart k false p n other P h = head_other n k (block_bytes response_fields) P other p h

message_apart : (k : ℕ) (headed : Bool) (m : List ℕ) (p : Phase) → Apart k p (with_message k headed m p)
unfolding with_message
message_apart k headed m p n other P h = message_other n k (framed m) P other (with_head k headed p) (head_apart k headed p n other P h)

last_apart : (k : ℕ) (headed : Bool) (m : List ℕ) (p : Phase) → Apart k p (with_last_message k headed m p)
unfolding with_last_message
last_apart k headed m p n other P h = trailers_other n k (block_bytes (trailer_fields 0 [] false)) P other (with_message k headed m p) (message_apart k headed m p n other P h)

-- ---- one call

-- it has ended, or goes on; the others have what they had
pub data Aside (k : ℕ) (p : Phase) : Turned → Type 1 where
  over : (q : Phase) → Stands p q → Apart k p q → Aside k p (has_ended q)
  on : (stage : Stage) (q : Phase) → Stands p q → Apart k p q → Aside k p (goes_on k stage q)

stays_on : (k : ℕ) (stage : Stage) (p : Phase) → Aside k p (goes_on k stage p)
stays_on k stage p = on stage p (stands_itself p) (λ n other P h. h)

refused : (k : ℕ) (headed : Bool) (r : Refusal) (p : Phase) → Aside k p (has_ended (with_refusal k headed r p))
refused k headed r p = over (with_refusal k headed r p) (refusal_stands k headed r p) (refusal_apart k headed r p)

ends_well : (k : ℕ) (headed : Bool) (m : List ℕ) (p : Phase) → Aside k p (has_ended (with_last_message k headed m p))
ends_well k headed m p = over (with_last_message k headed m p) (last_answer_stands k headed m p) (last_apart k headed m p)

stream_aside : (k : ℕ) (method : Method3) (sel : List (List ℕ)) (v : ViewModel) (headed : Bool) (a : Answer) (p : Phase) → Aside k p (stream_answer k method sel v headed a p)
stream_aside k method sel v headed Denied p = refused k headed NoIdentity p
stream_aside k method sel v headed Wait p = on (Ready (Stream method) sel (Some v) headed) (withdraws k p) (withdrawal_stands k p) (λ n other P h. withdrawn_other n k P other p h)
stream_aside k method sel v headed (TooLong size) p = refused k headed LongResponse p
stream_aside k method sel v headed (Message m) p = on (Ready (Stream method) sel (Some v) true) (with_message k headed m p) (answer_stands k headed m p) (message_apart k headed m p)

token_aside : (k : ℕ) (headed : Bool) (audience : List (List ℕ)) (ws : List Wanted) (p : Phase) → Aside k p (token_answer k headed audience ws p)
token_aside k headed audience [] p = refused k headed NoIdentity p
token_aside k headed audience (w ∷ ws) p = stays_on k _ p

check_aside : (k : ℕ) (headed : Bool) (state : ℕ) (p : Phase) (b : Bool) → Aside k p (if b then has_ended (with_refusal k headed UnknownService p) else has_ended (with_last_message k headed (spell_state state) p))
check_aside k headed state p true = refused k headed UnknownService p
check_aside k headed state p false = ends_well k headed (spell_state state) p

answer_aside : (k : ℕ) (kind : CallKind) (sel : List (List ℕ)) (headed : Bool) (v : ViewModel) (p : Phase) → Aside k p (call_answer k kind sel headed v p)
unfolding call_answer
answer_aside k (Stream method) sel headed v p = stream_aside k method sel v headed (answer_of method v) p
answer_aside k (Tokens audience id) sel headed v p = token_aside k headed audience (asks_of id v) p
answer_aside k (Check service) sel headed v p = check_aside k headed (health_of service v) p (health_of service v == 3)
answer_aside k (Watch service) sel headed v p =
    on (Ready (Watch service) sel (Some v) true) (with_message k headed (spell_state (health_of service v)) p) (answer_stands k headed (spell_state (health_of service v)) p) (message_apart k headed (spell_state (health_of service v)) p)

new_aside : (k : ℕ) (kind : CallKind) (sel : List (List ℕ)) (seen : Option ViewModel) (headed : Bool) (v : ViewModel) (p : Phase) (b : Bool) → Aside k p (if b then goes_on k (Ready kind sel seen headed) p else call_answer k kind sel headed v p)
new_aside k kind sel seen headed v p true = stays_on k (Ready kind sel seen headed) p
new_aside k kind sel seen headed v p false = answer_aside k kind sel headed v p

stage_aside : (x : Publication) (k : ℕ) (s : Stage) (p : Phase) → Aside k p (stage_turn x k s p)
stage_aside x k (Unnamed kind) p = stays_on k (Unnamed kind) p
stage_aside x k (Ready kind sel seen headed) p = new_aside k kind sel seen headed (view_in x sel) p (was_seen seen (view_in x sel))
stage_aside x k (Asking first rest got) p = stays_on k (Asking first rest got) p

pub turn_aside : (x : Publication) (c : ServedCall) (p : Phase) → Aside c.stream p (call_turn x c p)
unfolding call_turn
turn_aside x c p = stage_aside x c.stream c.stage p

named_aside : (k : ℕ) (kind : CallKind) (sel : Option (List (List ℕ))) (p : Phase) → Aside k p (name_call k kind sel p)
named_aside k kind (Some sel) p = stays_on k (Ready kind sel None false) p
named_aside k kind None p = refused k false Unattested p

name_stage_aside : (sel : Option (List (List ℕ))) (k : ℕ) (s : Stage) (p : Phase) → Aside k p (name_stage sel k s p)
name_stage_aside sel k (Unnamed kind) p = named_aside k kind sel p
name_stage_aside sel k (Ready kind own seen headed) p = stays_on k (Ready kind own seen headed) p
name_stage_aside sel k (Asking first rest got) p = stays_on k (Asking first rest got) p

pub name_aside : (sel : Option (List (List ℕ))) (c : ServedCall) (p : Phase) → Aside c.stream p (name_on sel c p)
name_aside sel c p = name_stage_aside sel c.stream c.stage p

tokens_aside : (k : ℕ) (m : List ℕ) (p : Phase) → Aside k p (token_message k m p)
tokens_aside k m p = go (nat_lt 4194304 (capped (length m)))
  where
    go : (b : Bool) → Aside k p (if b then has_ended (with_refusal k false LongResponse p) else has_ended (with_last_message k false m p))
    go true = refused k false LongResponse p
    go false = ends_well k false m p

next_aside : (k : ℕ) (audience : List (List ℕ)) (ws : List Wanted) (got : List JwtItem) (p : Phase) → Aside k p (next_ask k audience ws got p)
next_aside k audience [] got p = tokens_aside k (spell_jwt (record { svids = got })) p
next_aside k audience (w ∷ ws) got p = stays_on k _ p

given_aside : (k : ℕ) (first : JwtAsk) (rest : List Wanted) (got : List JwtItem) (o : JwtOutcome) (p : Phase) → Aside k p (give_call k first rest got o p)
unfolding give_call
given_aside k first rest got (outcomes.Token t) p = next_aside k first.audience rest (got ++ item_for first t ∷ []) p
given_aside k first rest got outcomes.Failed p = refused k false Unsigned p
given_aside k first rest got (outcomes.Unfit u) p = refused k false Unsigned p

give_stage_aside : (o : JwtOutcome) (k : ℕ) (s : Stage) (p : Phase) → Aside k p (give_stage o k s p)
give_stage_aside o k (Unnamed kind) p = stays_on k (Unnamed kind) p
give_stage_aside o k (Ready kind sel seen headed) p = stays_on k (Ready kind sel seen headed) p
give_stage_aside o k (Asking first rest got) p = given_aside k first rest got o p

pub give_aside : (o : JwtOutcome) (c : ServedCall) (p : Phase) → Aside c.stream p (give_on o c p)
give_aside o c p = give_stage_aside o c.stream c.stage p

-- ---- all calls

-- the connection stands, and what has no call among these keeps what it had
pub record AllAside (cs : List ServedCall) (p : Phase) (r : Turned) : Type 1 where
  pub stands : Stands p r.phase
  pub leaves : (n : ℕ) → NoneOn n cs → Leaves n p r.phase
  pub none : (n : ℕ) → NoneOn n cs → NoneOn n r.kept

pub still_aside : (cs : List ServedCall) (p : Phase) → AllAside cs p (record { phase = p; kept = cs })
still_aside cs p = record { stands = stands_itself p; leaves = λ n h P k. k; none = λ n h. h }

before_aside : (k : ℕ) (c : ServedCall) (cs : List ServedCall) (p : Phase) (first : Turned) (go_on : Phase → Turned) → k ≡ c.stream → Aside k p first → AllAside cs first.phase (go_on first.phase) → AllAside (c ∷ cs) p (turn_before first go_on)
before_aside k c cs p _ go_on same (over q stands apart) rest = record {
  stands = stands_both p q _ stands rest.stands;
  leaves = λ n h P s. rest.leaves n h.1 P (apart n (λ e. h.0 (sym same ∙ e)) P s);
  none = λ n h. rest.none n h.1;
}
before_aside k c cs p _ go_on same (on stage q stands apart) rest = record {
  stands = stands_both p q _ stands rest.stands;
  leaves = λ n h P s. rest.leaves n h.1 P (apart n (λ e. h.0 (sym same ∙ e)) P s);
  none = λ n h. ((λ e. h.0 (sym same ∙ e)), rest.none n h.1);
}

pub calls_aside : (x : Publication) (cs : List ServedCall) (p : Phase) → AllAside cs p (calls_turn x cs p)
unfolding calls_turn
calls_aside x [] p = still_aside [] p
calls_aside x (c ∷ cs) p = before_aside c.stream c cs p (call_turn x c p) (calls_turn x cs) refl (turn_aside x c p) (calls_aside x cs (call_turn x c p).phase)

-- ---- the first of a kind

pub first_aside : (test : ServedCall → Bool) (change : ServedCall → Phase → Turned) → ((c : ServedCall) (p : Phase) → Aside c.stream p (change c p)) → (cs : List ServedCall) (p : Phase) → AllAside cs p (change_first test change cs p)
first_aside test change go [] p = rw (first_of_none test change p) (still_aside [] p)
first_aside test change go (c ∷ cs) p =
    elim (cases_Bool (test c)) [
      | inl here ↦
          rw (first_here test change c cs p here)
          (before_aside c.stream c cs p (change c p) (λ q. record { phase = q; kept = cs }) refl (go c p) (still_aside cs (change c p).phase))
      | inr later ↦
          rw (first_later test change c cs p later)
          (before_aside c.stream c cs p (goes_on c.stream c.stage p) (λ q. change_first test change cs q) refl (stays_on c.stream c.stage p) (first_aside test change go cs p))
    ]

pub names_aside : (sel : Option (List (List ℕ))) (cs : List ServedCall) (p : Phase) → AllAside cs p (name_first sel cs p)
unfolding name_first
names_aside sel cs p = first_aside is_unnamed (name_on sel) (name_aside sel) cs p

pub gives_aside : (o : JwtOutcome) (cs : List ServedCall) (p : Phase) → AllAside cs p (give_first o cs p)
unfolding give_first
gives_aside o cs p = first_aside is_asking (give_on o) (give_aside o) cs p
