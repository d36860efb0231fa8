-- What turns, names and tokens do for the one call of a connection.
use Rattle.std.proofs.Common.{◌≡◌, inl, inr, ℕ, ◌==◌, length, Bool, true, false, nat_lt, cond, List, [], ◌∷◌, ◌++◌, Option, Some, None, refl, sym, subst, append-nil}
use Rattle.std.proofs.lemmas.Bool.{cases_Bool}
use Rattle.wl_heard.proofs.Common.{Phase, SoundPhase, Refusal, NoIdentity, LongResponse, UnknownService, Unsigned, Unattested, Publication, JwtOutcome, ServedCall, Turned, calls_turn, is_unnamed, name_first, is_asking, give_first, first_of_none, call_stream, l_refusal}
use Rattle.h2_conn.specs.Conns.{withdraws}
use Rattle.workload_proto.specs.declared.message.JwtItem.{JwtItem}
use Rattle.workload_proto.specs.Spelling.{spell_jwt, capped}
use Rattle.wl_health.specs.Messages.{spell_state}
use Rattle.wl_snapshot.specs.Views.{ViewModel, view_in}
use Rattle.wl_snapshot.specs.Answers.{answer_of, asks_of}
use Rattle.wl_snapshot.specs.declared.answers.Answer.{Answer}
use Rattle.wl_snapshot.specs.declared.answers.Answer.TheVariants.{Denied, Wait, TooLong, Message}
use Rattle.wl_snapshot.specs.declared.answers.Method3.{Method3}
use Rattle.wl_snapshot.specs.declared.token_asks.Wanted.{Wanted}
use Rattle.wl_session.specs.declared.asks.JwtAsk.{JwtAsk}
use Rattle.wl_session.specs.declared.asks.JwtOutcome.TheVariants as outcomes
use Rattle.wl_session.specs.declared.served.CallKind.{CallKind}
use Rattle.wl_session.specs.declared.served.CallKind.TheVariants.{Stream, Tokens, Check, Watch}
use Rattle.wl_session.specs.declared.served.Stage.{Stage}
use Rattle.wl_session.specs.declared.served.Stage.TheVariants.{Unnamed, Ready, Asking}
use Rattle.wl_session.specs.Kinds.{was_seen}
use Rattle.wl_session.specs.Answering.{goes_on, has_ended, with_refusal, with_message, with_last_message, stream_answer, health_of, token_answer, check_answer, call_answer, stage_turn, call_turn, turn_before}
use Rattle.wl_session.specs.Tokens.{change_first, name_call, name_stage, item_for, next_ask, give_call, give_stage}
use Rattle.wl_session.proofs.Attestations.{first_here, first_later}
use Rattle.wl_client.specs.declared.listener.Stage as client
use Rattle.wl_heard.proofs.Lists.{late_identity, late_length, late_service}
use Rattle.wl_heard.proofs.Marks.{Mark, Bare, Headed, Closing, At}
use Rattle.wl_session.proofs.PhaseWalk.{l_message, l_last}
use Rattle.wl_heard.proofs.OnlyStream.{OnlyOn, sound_lasts, mark_if, mark_end, LateIf, silence_only, refusal_only, message_only, last_only}

-- ---- how a call stands

-- a call for tokens has no head before its message
abbrev pub HeadFits : CallKind → Bool → Type 0
HeadFits (Stream method) headed = Unit {0}
HeadFits (Tokens audience id) headed = headed ≡ false
HeadFits (Check service) headed = Unit {0}
HeadFits (Watch service) headed = Unit {0}

abbrev pub StageAt : Mark → Stage → Type 0
StageAt m (Unnamed kind) = m ≡ Bare
StageAt m (Ready kind sel seen headed) = (m ≡ mark_if headed) × HeadFits kind headed
StageAt m (Asking first rest got) = m ≡ Bare

-- no call, or the one on the call's stream
abbrev pub KeptAt : Mark → List ServedCall → Type 0
KeptAt m [] = Unit {0}
KeptAt m (c ∷ []) = (c.stream ≡ call_stream) × StageAt m c.stage
KeptAt m (c ∷ d ∷ cs) = ⊥

-- the calls and the connection, where the client's stream is at this stage
pub record Owned (g : client.Stage) (x : Turned) : Type 0 where
  pub mark : Mark
  pub sound : SoundPhase x.phase
  pub phase : OnlyOn (At mark g) x.phase
  pub kept : KeptAt mark x.kept

-- ---- the answers to one call

late_id : (headed : Bool) → LateIf headed NoIdentity
late_id true = late_identity
late_id false = tt

late_size : (headed : Bool) → LateIf headed LongResponse
late_size true = late_length
late_size false = tt

late_unknown : (headed : Bool) → LateIf headed UnknownService
late_unknown true = late_service
late_unknown false = tt

refused : (headed : Bool) (r : Refusal) (g : client.Stage) (p : Phase) → LateIf headed r → SoundPhase p → OnlyOn (At (mark_if headed) g) p → Owned g (has_ended (with_refusal call_stream headed r p))
refused headed r g p late sound h = record { mark = mark_end headed; sound = l_refusal SoundPhase sound_lasts call_stream headed r p sound; phase = refusal_only headed r g p late sound h; kept = tt }

answered : (kind : CallKind) (sel : List (List ℕ)) (seen : Option ViewModel) (headed : Bool) (m : List ℕ) (g : client.Stage) (p : Phase) → HeadFits kind true → SoundPhase p → OnlyOn (At (mark_if headed) g) p
    → Owned g (goes_on call_stream (Ready kind sel seen true) (with_message call_stream headed m p))
answered kind sel seen headed m g p fits sound h = record { mark = Headed; sound = l_message SoundPhase sound_lasts call_stream headed m p sound; phase = message_only headed m g p sound h; kept = (refl, (refl, fits)) }

ends_well : (headed : Bool) (m : List ℕ) (g : client.Stage) (p : Phase) → SoundPhase p → OnlyOn (At (mark_if headed) g) p → Owned g (has_ended (with_last_message call_stream headed m p))
ends_well headed m g p sound h = record { mark = Closing; sound = l_last SoundPhase sound_lasts call_stream headed m p sound; phase = last_only headed m g p sound h; kept = tt }

stays : (m : Mark) (s : Stage) (g : client.Stage) (p : Phase) → StageAt m s → SoundPhase p → OnlyOn (At m g) p → Owned g (goes_on call_stream s p)
stays m s g p fits sound h = record { mark = m; sound = sound; phase = h; kept = (refl, fits) }

stream_owned : (method : Method3) (sel : List (List ℕ)) (v : ViewModel) (headed : Bool) (a : Answer) (g : client.Stage) (p : Phase) → SoundPhase p → OnlyOn (At (mark_if headed) g) p → Owned g (stream_answer call_stream method sel v headed a p)
stream_owned method sel v headed Denied g p sound h = refused headed NoIdentity g p (late_id headed) sound h
stream_owned method sel v headed Wait g p sound h = stays (mark_if headed) (Ready (Stream method) sel (Some v) headed) g (withdraws call_stream p) (refl, tt) (sound_lasts.silenced call_stream p sound) (silence_only headed g p sound h)
stream_owned method sel v headed (TooLong size) g p sound h = refused headed LongResponse g p (late_size headed) sound h
stream_owned method sel v headed (Message m) g p sound h = answered (Stream method) sel (Some v) headed m g p tt sound h

tokens_owned : (headed : Bool) (audience : List (List ℕ)) (ws : List Wanted) (g : client.Stage) (p : Phase) → headed ≡ false → SoundPhase p → OnlyOn (At (mark_if headed) g) p → Owned g (token_answer call_stream headed audience ws p)
tokens_owned headed audience [] g p none sound h = refused headed NoIdentity g p (late_id headed) sound h
tokens_owned headed audience (w ∷ ws) g p none sound h = record { mark = mark_if headed; sound = sound; phase = h; kept = (refl, rw none refl) }

owned_if : (g : client.Stage) (b : Bool) (x y : Turned) → Owned g x → Owned g y → Owned g (cond b x y)
owned_if g true x y h k = h
owned_if g false x y h k = k

check_owned : (headed : Bool) (state : ℕ) (g : client.Stage) (p : Phase) → SoundPhase p → OnlyOn (At (mark_if headed) g) p → Owned g (check_answer call_stream headed state p)
check_owned headed state g p sound h = owned_if g (state == 3) _ _ (refused headed UnknownService g p (late_unknown headed) sound h) (ends_well headed (spell_state state) g p sound h)

answer_owned : (kind : CallKind) (sel : List (List ℕ)) (headed : Bool) (v : ViewModel) (g : client.Stage) (p : Phase) → HeadFits kind headed → SoundPhase p → OnlyOn (At (mark_if headed) g) p → Owned g (call_answer call_stream kind sel headed v p)
unfolding call_answer
answer_owned (Stream method) sel headed v g p fits sound h = stream_owned method sel v headed (answer_of method v) g p sound h
answer_owned (Tokens audience id) sel headed v g p fits sound h = tokens_owned headed audience (asks_of id v) g p fits sound h
answer_owned (Check service) sel headed v g p fits sound h = check_owned headed (health_of service v) g p sound h
answer_owned (Watch service) sel headed v g p fits sound h = answered (Watch service) sel (Some v) headed (spell_state (health_of service v)) g p tt sound h

marked : (m k : Mark) (g : client.Stage) (p : Phase) → m ≡ k → OnlyOn (At m g) p → OnlyOn (At k g) p
marked m k g p same h = subst (λ (x : Mark). OnlyOn (At x g) p) same h

stage_owned : (x : Publication) (m : Mark) (s : Stage) (g : client.Stage) (p : Phase) → StageAt m s → SoundPhase p → OnlyOn (At m g) p → Owned g (stage_turn x call_stream s p)
stage_owned x m (Unnamed kind) g p fits sound h = stays m (Unnamed kind) g p fits sound h
stage_owned x m (Ready kind sel seen headed) g p fits sound h =
    owned_if g (was_seen seen (view_in x sel)) _ _ (stays m (Ready kind sel seen headed) g p fits sound h) (answer_owned kind sel headed (view_in x sel) g p fits.1 sound (marked m (mark_if headed) g p fits.0 h))
stage_owned x m (Asking first rest got) g p fits sound h = stays m (Asking first rest got) g p fits sound h

named_owned : (m : Mark) (kind : CallKind) (sel : Option (List (List ℕ))) (g : client.Stage) (p : Phase) → m ≡ Bare → SoundPhase p → OnlyOn (At m g) p → Owned g (name_call call_stream kind sel p)
named_owned m kind (Some sel) g p bare sound h = stays m (Ready kind sel None false) g p (bare, no_head kind) sound h
  where
    no_head : (k : CallKind) → HeadFits k false
    no_head (Stream method) = tt
    no_head (Tokens audience id) = refl
    no_head (Check service) = tt
    no_head (Watch service) = tt
named_owned m kind None g p bare sound h = refused false Unattested g p tt sound (marked m Bare g p bare h)

name_owned : (sel : Option (List (List ℕ))) (m : Mark) (s : Stage) (g : client.Stage) (p : Phase) → StageAt m s → SoundPhase p → OnlyOn (At m g) p → Owned g (name_stage sel call_stream s p)
name_owned sel m (Unnamed kind) g p fits sound h = named_owned m kind sel g p fits sound h
name_owned sel m (Ready kind own seen headed) g p fits sound h = stays m (Ready kind own seen headed) g p fits sound h
name_owned sel m (Asking first rest got) g p fits sound h = stays m (Asking first rest got) g p fits sound h

next_owned : (audience : List (List ℕ)) (ws : List Wanted) (got : List JwtItem) (g : client.Stage) (p : Phase) → SoundPhase p → OnlyOn (At Bare g) p → Owned g (next_ask call_stream audience ws got p)
next_owned audience [] got g p sound h =
    let m = spell_jwt (record { svids = got }) in
    owned_if g (nat_lt 4194304 (capped (length m))) (has_ended (with_refusal call_stream false LongResponse p)) (has_ended (with_last_message call_stream false m p)) (refused false LongResponse g p tt sound h) (ends_well false m g p sound h)
next_owned audience (w ∷ ws) got g p sound h = record { mark = Bare; sound = sound; phase = h; kept = (refl, refl) }

given_owned : (first : JwtAsk) (rest : List Wanted) (got : List JwtItem) (o : JwtOutcome) (g : client.Stage) (p : Phase) → SoundPhase p → OnlyOn (At Bare g) p → Owned g (give_call call_stream first rest got o p)
unfolding give_call
given_owned first rest got (outcomes.Token t) g p sound h = next_owned first.audience rest (got ++ item_for first t ∷ []) g p sound h
given_owned first rest got outcomes.Failed g p sound h = refused false Unsigned g p tt sound h
given_owned first rest got (outcomes.Unfit u) g p sound h = refused false Unsigned g p tt sound h

give_owned : (o : JwtOutcome) (m : Mark) (s : Stage) (g : client.Stage) (p : Phase) → StageAt m s → SoundPhase p → OnlyOn (At m g) p → Owned g (give_stage o call_stream s p)
give_owned o m (Unnamed kind) g p fits sound h = stays m (Unnamed kind) g p fits sound h
give_owned o m (Ready kind own seen headed) g p fits sound h = stays m (Ready kind own seen headed) g p fits sound h
give_owned o m (Asking first rest got) g p fits sound h = given_owned first rest got o g p sound (marked m Bare g p fits h)

-- ---- all calls

-- what is done for each call, by its stage
abbrev Serves : client.Stage → (ℕ → Stage → Phase → Turned) → Type 0
Serves g serve = (m : Mark) (s : Stage) (p : Phase) → StageAt m s → SoundPhase p → OnlyOn (At m g) p → Owned g (serve call_stream s p)

on_call : (g : client.Stage) (serve : ℕ → Stage → Phase → Turned) → Serves g serve → (m : Mark) (c : ServedCall) (p : Phase) → (c.stream ≡ call_stream) × StageAt m c.stage → SoundPhase p → OnlyOn (At m g) p → Owned g (serve c.stream c.stage p)
on_call g serve go m c p fits sound h = subst (λ (n : ℕ). Owned g (serve n c.stage p)) (sym fits.0) (go m c.stage p fits.1 sound h)

-- nothing after it
last_owned : (g : client.Stage) (x : Turned) → Owned g x → Owned g (turn_before x (λ q. record { phase = q; kept = [] }))
last_owned g x h = record { mark = h.mark; sound = h.sound; phase = h.phase; kept = rw (append-nil x.kept) h.kept }

abbrev pub Before : client.Stage → List ServedCall → Phase → Type 0
Before g cs p = Owned g (record { phase = p; kept = cs })

pub turns_owned : (x : Publication) (cs : List ServedCall) (g : client.Stage) (p : Phase) → Before g cs p → Owned g (calls_turn x cs p)
unfolding calls_turn call_turn
turns_owned x [] g p h = h
turns_owned x (c ∷ []) g p h = last_owned g (stage_turn x c.stream c.stage p) (on_call g (stage_turn x) (λ m s q. stage_owned x m s g q) h.mark c p h.kept h.sound h.phase)
turns_owned x (c ∷ d ∷ cs) g p h = absurd h.kept

first_owned : (test : ServedCall → Bool) (serve : ℕ → Stage → Phase → Turned) (cs : List ServedCall) (g : client.Stage) (p : Phase) → Serves g serve → Before g cs p → Owned g (change_first test (λ c q. serve c.stream c.stage q) cs p)
first_owned test serve [] g p go h = rw (first_of_none test (λ c q. serve c.stream c.stage q) p) h
first_owned test serve (c ∷ []) g p go h =
    elim (cases_Bool (test c)) [
      | inl here ↦ rw (first_here test (λ d q. serve d.stream d.stage q) c [] p here) (last_owned g (serve c.stream c.stage p) (on_call g serve go h.mark c p h.kept h.sound h.phase))
      | inr later ↦ rw (first_later test (λ d q. serve d.stream d.stage q) c [] p later, first_of_none test (λ d q. serve d.stream d.stage q) p) h
    ]
first_owned test serve (c ∷ d ∷ cs) g p go h = absurd h.kept

pub names_owned : (sel : Option (List (List ℕ))) (cs : List ServedCall) (g : client.Stage) (p : Phase) → Before g cs p → Owned g (name_first sel cs p)
unfolding name_first
names_owned sel cs g p h = first_owned is_unnamed (name_stage sel) cs g p (λ m s q. name_owned sel m s g q) h

pub gives_owned : (o : JwtOutcome) (cs : List ServedCall) (g : client.Stage) (p : Phase) → Before g cs p → Owned g (give_first o cs p)
unfolding give_first
gives_owned o cs g p h = first_owned is_asking (give_stage o) cs g p (λ m s q. give_owned o m s g q) h
