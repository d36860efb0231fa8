-- The last block of a call is that of its status.
use Rattle.std.proofs.Common.{◌≡◌, ◌⊎◌, inl, inr, ℕ, ◌==◌, length, Bool, true, false, not, nat_lt, if◌then◌else◌, List, [], ◌∷◌, ◌++◌, find, Option, Some, None, refl, sym, ap, subst, eq-eqb, eqb-true, ne_eqb}
use Rattle.std.specs.Prelude.{bytes_eq}
use Rattle.std.proofs.lemmas.Bool.{cases_Bool}
use Rattle.list_laws.proofs.Equality.{bytes_are}
use Rattle.wl_responses.proofs.Common.{block_bytes, with_offer, Phase, Open, Failed, OutOfMemory, withdraws, SoundPhase, framed, trailer_fields, refused_fields, Refusal, NoIdentity, LongResponse, UnknownService, Unsigned, Unattested, MAX_RESPONSE_LEN, JwtItem, spell_jwt, capped, spell_state, Publication, ViewModel, view_in, answer_of, asks_of, Answer, Denied, Wait, TooLong, Message, Method3, Wanted, JwtAsk, JwtOutcome, CallKind, Stream, Tokens, Check, Watch, Stage, Unnamed, Ready, Asking, ServedCall, was_seen, Turned, goes_on, has_ended, with_head, with_refusal, with_message, with_last_message, stream_answer, health_of, token_answer, call_answer, stage_turn, call_turn, calls_turn, change_first, is_unnamed, name_call, name_stage, name_on, name_first, is_asking, item_for, next_ask, give_call, give_on, give_first, Talking, talk_after, stage_on, On, OnPhase, IsUnfinished, withdrawal_stands, answer_stands, first_here, first_later}
use Rattle.h2_flow.specs.declared.stream.Stream as flow
use Rattle.h2_conn.specs.Holding.{IsHeld}
use Rattle.wl_snapshot.proofs.Equalities.{view_model_is}
use Rattle.wl_session.specs.declared.asks.JwtOutcome.TheVariants as outcomes
use Rattle.wl_session.specs.Refusing.{stream_refusal, token_refusal, refusal_on, NoIdentityExactly, UnknownServiceExactly}
use Rattle.wl_session.specs.Tokens.{stream_of}
use Rattle.wl_responses.specs.Statuses.{Ending, GoesOn, IsRefused, IsAnswered, HasEnding, unrefused, refused_or, ending_on, ending_at, is_headed, ending_named, ending_after, ending_given, NoStatusBefore, TurnsGiveStatuses, DeniedWhereNothingIsSeen, UnknownWhereAsked, NamesGiveStatuses, TokensGiveStatuses}
use Rattle.wl_responses.proofs.OutboxStreams.{differ, withdrawn_on, message_here, withdrawn_here, trailers_here}
use Rattle.wl_session.proofs.Streams.{first_stands}
use Rattle.wl_responses.proofs.Asides.{NoneOn, Aside, over, on, turn_aside, calls_aside, name_aside, give_aside}
use Rattle.wl_responses.proofs.WaitingAnswers.{OneOn, head_here, answer_unfinished}
use Rattle.wl_responses.proofs.OngoingCalls.{IsKept, StageGoes, CallGoes, AllGo, all_go}
use Rattle.wl_responses.proofs.StreamReplies.{steps_go}

-- ---- the last block

abbrev Any : flow.Stream → Type 0
Any s = Unit {0}

any_on : (n : ℕ) (ss : List flow.Stream) → On n Any ss
any_on n [] = tt
any_on n (s ∷ ss) = ((λ e. tt), any_on n ss)

anything : (n : ℕ) (p : Phase) → OnPhase n Any p
anything n (Open q) = any_on n q.outbox.streams
anything n (Failed fault left totals) = tt
anything n (OutOfMemory totals) = tt

-- what holds on the stream of a call
pub record Stood (n : ℕ) (p : Phase) : Type 0 where
  pub sound : SoundPhase p
  pub unfinished : OnPhase n IsUnfinished p

pub refusal_ends : (n : ℕ) (headed : Bool) (r : Refusal) (p : Phase) → Stood n p → OnPhase n (HasEnding headed (IsRefused r)) (with_refusal n headed r p)
unfolding with_refusal
refusal_ends n headed r p h =
    trailers_here n (block_bytes (refused_fields r (not headed))) (λ s. s.waiting ≡ None) (HasEnding headed (IsRefused r)) (λ s none. ((refl, refl), none)) (withdraws n p) ((withdrawal_stands n p).sound h.sound)
    (withdrawn_on n n IsUnfinished (λ s u. u) p h.unfinished)
    (withdrawn_here n Any (λ s. s.waiting ≡ None) (λ s a. refl) p h.sound h.unfinished (anything n p))

abbrev Holding : List ℕ → flow.Stream → Type 0
Holding m s = IsHeld m s.waiting s.last

offer_holds : (m : List ℕ) (s : flow.Stream) → Holding m (with_offer m s)
offer_holds m s = go (bytes_eq m s.last) refl
  where
    go : (b : Bool) → bytes_eq m s.last ≡ b → IsHeld m (if b then None else Some m) s.last
    go true same = inr (refl, sym (bytes_are m s.last same))
    go false other = inl refl

message_held : (n : ℕ) (headed : Bool) (m : List ℕ) (p : Phase) → Stood n p → OnPhase n (Holding (framed m)) (with_message n headed m p)
unfolding with_message
message_held n headed m p h =
    message_here n (framed m) Any (Holding (framed m)) (λ s a. offer_holds (framed m) s) (with_head n headed p) ((first_stands n headed p).sound h.sound)
    (head_here n headed IsUnfinished p (λ s b f. f) h.unfinished) (anything n (with_head n headed p))

message_ends : (n : ℕ) (headed : Bool) (m : List ℕ) (p : Phase) → Stood n p → OnPhase n (HasEnding headed (IsAnswered m)) (with_last_message n headed m p)
unfolding with_last_message
message_ends n headed m p h =
    trailers_here n (block_bytes (trailer_fields 0 [] false)) (Holding (framed m)) (HasEnding headed (IsAnswered m)) (λ s held. ((refl, refl), held)) (with_message n headed m p) ((answer_stands n headed m p).sound h.sound)
    (answer_unfinished n headed m p h.unfinished) (message_held n headed m p h)

-- ---- one call at a turn

abbrev Ends : ℕ → Bool → Ending → Phase → Type 0
Ends n headed e p = OnPhase n (HasEnding headed e) p

stream_ends : (n : ℕ) (method : Method3) (sel : List (List ℕ)) (v : ViewModel) (headed : Bool) (a : Answer) (p : Phase) → Stood n p → Ends n headed (refused_or (stream_refusal a) GoesOn) (stream_answer n method sel v headed a p).phase
stream_ends n method sel v headed Denied p h = refusal_ends n headed NoIdentity p h
stream_ends n method sel v headed Wait p h = withdrawn_on n n IsUnfinished (λ s u. u) p h.unfinished
stream_ends n method sel v headed (TooLong size) p h = refusal_ends n headed LongResponse p h
stream_ends n method sel v headed (Message m) p h = answer_unfinished n headed m p h.unfinished

token_ends : (n : ℕ) (headed : Bool) (audience : List (List ℕ)) (ws : List Wanted) (p : Phase) → Stood n p → Ends n headed (refused_or (token_refusal ws) GoesOn) (token_answer n headed audience ws p).phase
token_ends n headed audience [] p h = refusal_ends n headed NoIdentity p h
token_ends n headed audience (w ∷ ws) p h = h.unfinished

check_ends : (n : ℕ) (headed : Bool) (state : ℕ) (p : Phase) (b : Bool) → Stood n p
    → Ends n headed (refused_or (if b then Some UnknownService else None) (IsAnswered (spell_state state))) (if b then has_ended (with_refusal n headed UnknownService p) else has_ended (with_last_message n headed (spell_state state) p)).phase
check_ends n headed state p true h = refusal_ends n headed UnknownService p h
check_ends n headed state p false h = message_ends n headed (spell_state state) p h

answer_ends : (n : ℕ) (kind : CallKind) (sel : List (List ℕ)) (headed : Bool) (v : ViewModel) (p : Phase) → Stood n p → Ends n headed (ending_on kind v) (call_answer n kind sel headed v p).phase
unfolding call_answer
answer_ends n (Stream method) sel headed v p h = stream_ends n method sel v headed (answer_of method v) p h
answer_ends n (Tokens audience id) sel headed v p h = token_ends n headed audience (asks_of id v) p h
answer_ends n (Check service) sel headed v p h = check_ends n headed (health_of service v) p (health_of service v == 3) h
answer_ends n (Watch service) sel headed v p h = answer_unfinished n headed (spell_state (health_of service v)) p h.unfinished

-- a call on an equal view goes on
new_ends : (n : ℕ) (kind : CallKind) (sel : List (List ℕ)) (seen : Option ViewModel) (headed : Bool) (v : ViewModel) (p : Phase) (b : Bool) → was_seen seen v ≡ b → IsKept kind seen → Stood n p
    → Ends n headed (ending_on kind v) (if b then goes_on n (Ready kind sel seen headed) p else call_answer n kind sel headed v p).phase
new_ends n kind sel None headed v p true is kept h = absurd (cc is)
new_ends n kind sel (Some old) headed v p true is kept h =
    let goes : ending_on kind v ≡ GoesOn = subst (λ (u : ViewModel). ending_on kind u ≡ GoesOn) (view_model_is old v is) kept in
    subst (λ (e : Ending). Ends n headed e p) (sym goes) h.unfinished
new_ends n kind sel seen headed v p false is kept h = answer_ends n kind sel headed v p h

stage_ends : (x : Publication) (n : ℕ) (s : Stage) (p : Phase) → StageGoes s → Stood n p → Ends n (is_headed s) (ending_at x s) (stage_turn x n s p).phase
stage_ends x n (Unnamed kind) p kept h = h.unfinished
stage_ends x n (Ready kind sel seen headed) p kept h = new_ends n kind sel seen headed (view_in x sel) p (was_seen seen (view_in x sel)) refl kept h
stage_ends x n (Asking first rest got) p kept h = h.unfinished

call_ends : (x : Publication) (n : ℕ) (c : ServedCall) (p : Phase) → c.stream ≡ n → CallGoes c → Stood n p → Ends n (is_headed c.stage) (ending_at x c.stage) (call_turn x c p).phase
unfolding call_turn
call_ends x n c p same kept h =
    subst (λ (k : ℕ). Ends n (is_headed c.stage) (ending_at x c.stage) (stage_turn x k c.stage p).phase) (sym same) (stage_ends x n c.stage p kept h)

-- ---- all calls

-- what is done for a call on another stream
aside_stands : (k n : ℕ) (p : Phase) (r : Turned) → (k ≡ n → ⊥) → Aside k p r → Stood n p → Stood n r.phase
aside_stands k n p _ other (over q stands apart) h = record { sound = stands.sound h.sound; unfinished = apart n other IsUnfinished h.unfinished }
aside_stands k n p _ other (on stage q stands apart) h = record { sound = stands.sound h.sound; unfinished = apart n other IsUnfinished h.unfinished }

pub some_is : (a b : Stage) → Some a ≡ Some b → a ≡ b
some_is a b e = cc e

turn_ends : (x : Publication) (n : ℕ) (cs : List ServedCall) (s : Stage) (p : Phase) → stage_on n cs ≡ Some s → OneOn n cs → AllGo cs → Stood n p → Ends n (is_headed s) (ending_at x s) (calls_turn x cs p).phase
unfolding calls_turn
turn_ends x n [] s p is one go h = absurd (cc is)
turn_ends x n (c ∷ cs) s p is one go h =
    elim (cases_Bool (c.stream == n)) [
      | inl here ↦
          let same : c.stream ≡ n = eqb-true c.stream n here in
          let mine : c.stage ≡ s = some_is c.stage s (rw here at is) in
          let ends : Ends n (is_headed s) (ending_at x s) (call_turn x c p).phase = subst (λ (u : Stage). Ends n (is_headed u) (ending_at x u) (call_turn x c p).phase) mine (call_ends x n c p same go.0 h) in
          (calls_aside x cs (call_turn x c p).phase).leaves n (one.0 same) (HasEnding (is_headed s) (ending_at x s)) ends
      | inr there ↦
          let other : c.stream ≡ n → ⊥ = λ e. differ (eq-eqb c.stream n e) there in
          turn_ends x n cs s (call_turn x c p).phase (rw there at is) one.1 go.1 (aside_stands c.stream n p (call_turn x c p) other (turn_aside x c p) h)
    ]

-- ---- the first of a kind

pub call_is : (a b : ServedCall) → Some a ≡ Some b → a ≡ b
call_is a b e = cc e

-- the first such call ends so, and the others leave its stream
first_ends : (test : ServedCall → Bool) (change : ServedCall → Phase → Turned) (c : ServedCall) (cs : List ServedCall) (p : Phase) → find test cs ≡ Some c → OneOn c.stream cs → ((d : ServedCall) (q : Phase) → Aside d.stream q (change d q))
    → (P : flow.Stream → Type 0) → OnPhase c.stream P (change c p).phase → OnPhase c.stream P (change_first test change cs p).phase
first_ends test change c [] p is one go P h = absurd (cc is)
first_ends test change c (d ∷ cs) p is one go P h =
    elim (cases_Bool (test d)) [
      | inl here ↦
          let same : d ≡ c = call_is d c (rw here at is) in
          rw (first_here test change d cs p here) (subst (λ (e : ServedCall). OnPhase c.stream P (change e p).phase) (sym same) h)
      | inr later ↦ rw (first_later test change d cs p later) (first_ends test change c cs p (rw later at is) one.1 go P h)
    ]

-- ---- names

name_ends : (n : ℕ) (kind : CallKind) (caller : Option (List (List ℕ))) (p : Phase) → Stood n p → Ends n false (ending_named caller) (name_call n kind caller p).phase
name_ends n kind None p h = refusal_ends n false Unattested p h
name_ends n kind (Some sel) p h = h.unfinished

named_ends : (caller : Option (List (List ℕ))) (n : ℕ) (s : Stage) (p : Phase) → is_unnamed (record { stream = n; stage = s }) ≡ true → Stood n p → Ends n false (ending_named caller) (name_stage caller n s p).phase
named_ends caller n (Unnamed kind) p is h = name_ends n kind caller p h
named_ends caller n (Ready kind sel seen headed) p is h = absurd (cc is)
named_ends caller n (Asking first rest got) p is h = absurd (cc is)

-- ---- tokens

tokens_end : (n : ℕ) (m : List ℕ) (p : Phase) (b : Bool) → Stood n p
    → Ends n false (if b then IsRefused LongResponse else IsAnswered m) (if b then has_ended (with_refusal n false LongResponse p) else has_ended (with_last_message n false m p)).phase
tokens_end n m p true h = refusal_ends n false LongResponse p h
tokens_end n m p false h = message_ends n false m p h

next_ends : (n : ℕ) (audience : List (List ℕ)) (ws : List Wanted) (items : List JwtItem) (p : Phase) → Stood n p → Ends n false (ending_after ws items) (next_ask n audience ws items p).phase
next_ends n audience [] items p h = let m = spell_jwt (record { svids = items }) in tokens_end n m p (nat_lt MAX_RESPONSE_LEN (capped (length m))) h
next_ends n audience (w ∷ ws) items p h = h.unfinished

given_ends : (n : ℕ) (first : JwtAsk) (rest : List Wanted) (got : List JwtItem) (o : JwtOutcome) (p : Phase) → Stood n p → Ends n false (ending_given o first rest got) (give_call n first rest got o p).phase
unfolding give_call
given_ends n first rest got (outcomes.Token t) p h = next_ends n first.audience rest (got ++ item_for first t ∷ []) p h
given_ends n first rest got outcomes.Failed p h = refusal_ends n false Unsigned p h
given_ends n first rest got (outcomes.Unfit u) p h = refusal_ends n false Unsigned p h

-- ---- the calls of a talk

-- a call is there, so its stream was not given its last block
there_is : (n : ℕ) (cs : List ServedCall) (s : Stage) → stage_on n cs ≡ Some s → NoneOn n cs → ⊥
there_is n [] s is none = absurd (cc is)
there_is n (c ∷ cs) s is none = there_is n cs s (rw (ne_eqb c.stream n (λ e. none.0 e)) at is) none.1

pub found_is : (test : ServedCall → Bool) (c : ServedCall) (cs : List ServedCall) → find test cs ≡ Some c → NoneOn c.stream cs → ⊥
found_is test c [] is none = absurd (cc is)
found_is test c (d ∷ cs) is none =
    elim (cases_Bool (test d)) [
      | inl here ↦ none.0 (ap (λ (e : ServedCall). e.stream) (call_is d c (rw here at is)))
      | inr later ↦ found_is test c cs (rw later at is) none.1
    ]

stood : (n : ℕ) (p : Phase) (cs : List ServedCall) → SoundPhase p → (NoneOn n cs → ⊥) → NoneOn n cs ⊎ OnPhase n IsUnfinished p → Stood n p
stood n p cs sound there (inl none) = absurd (there none)
stood n p cs sound there (inr u) = record { sound = sound; unfinished = u }

-- the first call of a kind has that kind
pub found_has : (test : ServedCall → Bool) (cs : List ServedCall) (c : ServedCall) → find test cs ≡ Some c → test c ≡ true
found_has test [] c is = absurd (cc is)
found_has test (d ∷ cs) c is =
    elim (cases_Bool (test d)) [
      | inl here ↦ subst (λ (e : ServedCall). test e ≡ true) (call_is d c (rw here at is)) here
      | inr later ↦ found_has test cs c (rw later at is)
    ]

-- ---- the status at a turn

refused_so : (kind : CallKind) (v : ViewModel) (r : Refusal) (o : Option Refusal) → refused_or o (unrefused kind v) ≡ IsRefused r → o ≡ Some r
refused_so kind v r (Some why) is = let same : why ≡ r = cc is in ap (λ (w : Refusal). Some w) same
refused_so (Stream method) v r None is = absurd (cc is)
refused_so (Tokens audience id) v r None is = absurd (cc is)
refused_so (Check service) v r None is = absurd (cc is)
refused_so (Watch service) v r None is = absurd (cc is)

ended_so : (kind : CallKind) (v : ViewModel) (r : Refusal) → refusal_on kind v ≡ Some r → ending_on kind v ≡ IsRefused r
ended_so kind v r is = ap (λ (o : Option Refusal). refused_or o (unrefused kind v)) is

goes_so : {P : Type 0} (r : Refusal) → GoesOn ≡ IsRefused r → P
goes_so r is = absurd (cc is)

pub denied_where : NoIdentityExactly → DeniedWhereNothingIsSeen
denied_where law x (Unnamed kind) = (λ is. goes_so NoIdentity is, λ none. absurd none)
denied_where law x (Ready kind sel seen headed) =
    let v = view_in x sel in
    (λ is. (law kind v).0 (refused_so kind v NoIdentity (refusal_on kind v) is), λ sees. ended_so kind v NoIdentity ((law kind v).1 sees))
denied_where law x (Asking first rest got) = (λ is. goes_so NoIdentity is, λ none. absurd none)

pub unknown_where : UnknownServiceExactly → UnknownWhereAsked
unknown_where law x (Unnamed kind) = (λ is. goes_so UnknownService is, λ none. absurd none)
unknown_where law x (Ready kind sel seen headed) =
    let v = view_in x sel in
    (λ is. (law kind v).0 (refused_so kind v UnknownService (refusal_on kind v) is), λ asks. ended_so kind v UnknownService ((law kind v).1 asks))
unknown_where law x (Asking first rest got) = (λ is. goes_so UnknownService is, λ none. absurd none)

-- ---- laws

pub none_before : NoStatusBefore
none_before steps fit n s is =
    let t = talk_after steps in
    let known = (steps_go n steps fit).speaks.serves in
    (stood n t.phase t.served known.sound (there_is n t.served s is) known.unfinished).unfinished

pub turns_give : TurnsGiveStatuses
turns_give x steps fit n s is =
    let t = talk_after steps in
    let known = (steps_go n steps fit).speaks.serves in
    turn_ends x n t.served s t.phase is known.one (all_go steps) (stood n t.phase t.served known.sound (there_is n t.served s is) known.unfinished)

named_on : (caller : Option (List (List ℕ))) (t : Talking) (n : ℕ) (o : Option ServedCall) → find is_unnamed t.served ≡ o → stream_of o ≡ Some n → OneOn n t.served → ((NoneOn n t.served → ⊥) → Stood n t.phase)
    → Ends n false (ending_named caller) (name_first caller t.served t.phase).phase
unfolding name_first
named_on caller t n None is on_it one known = absurd (cc on_it)
named_on caller t n (Some c) is on_it one known =
    let same : c.stream ≡ n = cc on_it in
    let mine : OneOn c.stream t.served = subst (λ (k : ℕ). OneOn k t.served) (sym same) one in
    let there : NoneOn n t.served → ⊥ = λ none. found_is is_unnamed c t.served is (subst (λ (k : ℕ). NoneOn k t.served) (sym same) none) in
    let here : Stood c.stream t.phase = subst (λ (k : ℕ). Stood k t.phase) (sym same) (known there) in
    subst (λ (k : ℕ). Ends k false (ending_named caller) (change_first is_unnamed (name_on caller) t.served t.phase).phase) same
    (first_ends is_unnamed (name_on caller) c t.served t.phase is mine (name_aside caller) (HasEnding false (ending_named caller)) (named_ends caller c.stream c.stage t.phase (found_has is_unnamed t.served c is) here))

pub names_give : NamesGiveStatuses
names_give caller steps fit n is =
    let t = talk_after steps in
    let known = (steps_go n steps fit).speaks.serves in
    named_on caller t n (find is_unnamed t.served) refl is known.one (λ there. stood n t.phase t.served known.sound there known.unfinished)

given_on : (o : JwtOutcome) (t : Talking) (n : ℕ) (first : JwtAsk) (rest : List Wanted) (got : List JwtItem) → find is_asking t.served ≡ Some (record { stream = n; stage = Asking first rest got }) → OneOn n t.served → Stood n t.phase
    → Ends n false (ending_given o first rest got) (give_first o t.served t.phase).phase
unfolding give_first
given_on o t n first rest got is one here =
    first_ends is_asking (give_on o) (record { stream = n; stage = Asking first rest got }) t.served t.phase is one (give_aside o) (HasEnding false (ending_given o first rest got)) (given_ends n first rest got o t.phase here)

pub tokens_give : TokensGiveStatuses
tokens_give o steps fit n first rest got is =
    let t = talk_after steps in
    let known = (steps_go n steps fit).speaks.serves in
    let call : ServedCall = record { stream = n; stage = Asking first rest got } in
    given_on o t n first rest got is known.one (stood n t.phase t.served known.sound (found_is is_asking call t.served is) known.unfinished)
