-- Each ready streaming call has its answer on its stream, and a turn answers all.
use Rattle.std.proofs.Common.{◌≡◌, ℕ, ◌==◌, length, Bool, true, false, nat_lt, if◌then◌else◌, List, [], ◌∷◌, ◌++◌, Option, Some, None, refl, sym, ◌∙◌, subst, inl, inr}
use Rattle.std.specs.List.{AllByRecursion}
use Rattle.std.proofs.lemmas.Bool.{cases_Bool}
use Rattle.wl_session.proofs.Common.{ConnFault, Phase, withdraws, flush_of, SoundPhase, framed, Refusal, NoIdentity, LongResponse, UnknownService, Unsigned, Unattested, standing_at, JwtItem, spell_jwt, capped, spell_state, Publication, ViewModel, view_in, answer_of, asks_of, Answer, Denied, Wait, TooLong, Message, Method3, Wanted, JwtAsk, JwtOutcome, CallKind, Stream, Tokens, Check, Watch, Stage, Unnamed, Ready, Asking, ServedCall, was_seen, Turned, goes_on, has_ended, with_refusal, with_message, with_last_message, stream_answer, health_of, token_answer, call_answer, stage_turn, call_turn, turn_before, calls_turn, change_first, is_unnamed, name_call, name_stage, name_on, name_first, is_asking, item_for, next_ask, give_call, give_stage, give_on, give_first, Talking, written, with_turned, turn_said, name_said, given_said, CameOn}
use Rattle.h2_conn.specs.Holding.{IsHeld, IsSilent}
use Rattle.h2_conn.proofs.OfferedMessages.{held_lasts, silent_lasts, withdrawn_here}
use Rattle.wl_session.specs.declared.asks.JwtOutcome.TheVariants as outcomes
use Rattle.wl_session.specs.Tokens.{token_message}
use Rattle.wl_session.specs.Completing.{HasAnswer, HasAnswerOn, HasLastAnswer, ShowsStage, Shows, AreApart, IsComplete}
use Rattle.wl_session.proofs.Streams.{Keeps, keeps_itself, keeps_both, Stands, stands_itself, stands_both, flush_stands, flush_keeps, withdrawal_stands, withdrawal_keeps, refusal_stands, refusal_keeps, answer_stands, answer_keeps, answer_held, last_answer_stands, last_answer_keeps}
use Rattle.wl_session.proofs.Attestations.{first_here, first_later}

-- ---- what a stream has, where nothing is done on it

has_kept : (n : ℕ) (a : Answer) (p r : Phase) → Keeps n p r → HasAnswer n a p → HasAnswer n a r
has_kept n Denied p r k h = tt
has_kept n Wait p r k h = k.claims IsSilent silent_lasts h
has_kept n (TooLong size) p r k h = tt
has_kept n (Message m) p r k h = k.claims (IsHeld (framed m)) (held_lasts (framed m)) h

on_kept : (n : ℕ) (kind : CallKind) (v : ViewModel) (p r : Phase) → Keeps n p r → HasAnswerOn n kind v p → HasAnswerOn n kind v r
on_kept n (Stream method) v p r k h = has_kept n (answer_of method v) p r k h
on_kept n (Tokens audience id) v p r k h = tt
on_kept n (Check service) v p r k h = tt
on_kept n (Watch service) v p r k h = k.claims (IsHeld (framed (spell_state (health_of service v)))) (held_lasts (framed (spell_state (health_of service v)))) h

last_kept : (n : ℕ) (kind : CallKind) (seen : Option ViewModel) (p r : Phase) → Keeps n p r → HasLastAnswer n kind seen p → HasLastAnswer n kind seen r
last_kept n kind None p r k h = tt
last_kept n kind (Some v) p r k h = on_kept n kind v p r k h

stage_kept : (n : ℕ) (s : Stage) (p r : Phase) → Keeps n p r → ShowsStage n s p → ShowsStage n s r
stage_kept n (Unnamed kind) p r k h = tt
stage_kept n (Ready kind sel seen headed) p r k h = last_kept n kind seen p r k h
stage_kept n (Asking first rest got) p r k h = tt

pub shows_kept : (c : ServedCall) (p r : Phase) → Keeps c.stream p r → Shows p c → Shows r c
shows_kept c p r k h = (k.came h.0, stage_kept c.stream c.stage p r k h.1)

abbrev Differs : ℕ → ServedCall → Type 0
Differs n c = c.stream ≡ n → ⊥

pub all_kept : (P : ServedCall → Type 0) (p r : Phase) → ((c : ServedCall) → P c → Keeps c.stream p r) → (cs : List ServedCall) → AllByRecursion P cs → AllByRecursion (Shows p) cs → AllByRecursion (Shows r) cs
all_kept P p r keeps [] apart h = tt
all_kept P p r keeps (c ∷ cs) apart h = (shows_kept c p r (keeps c apart.0) h.0, all_kept P p r keeps cs apart.1 h.1)

abbrev pub Any : ServedCall → Type 0
Any c = Unit {0}

pub any_all : (cs : List ServedCall) → AllByRecursion Any cs
any_all [] = tt
any_all (c ∷ cs) = (tt, any_all cs)

-- ---- what becomes of one call

-- it has ended, or goes on with its answer; and the others have theirs
data Done (n : ℕ) (p : Phase) : Turned → Type 1 where
  over : (q : Phase) → Stands p q → ((m : ℕ) → (n ≡ m → ⊥) → Keeps m p q) → Done n p (has_ended q)
  on : (stage : Stage) (q : Phase) → Stands p q → ((m : ℕ) → (n ≡ m → ⊥) → Keeps m p q) → ShowsStage n stage q → Done n p (goes_on n stage q)

stays_on : (n : ℕ) (stage : Stage) (p : Phase) → ShowsStage n stage p → Done n p (goes_on n stage p)
stays_on n stage p h = on stage p (stands_itself p) (λ m other. keeps_itself m p) h

refuses : (n : ℕ) (headed : Bool) (r : Refusal) (p : Phase) → Done n p (has_ended (with_refusal n headed r p))
refuses n headed r p = over (with_refusal n headed r p) (refusal_stands n headed r p) (λ m other. refusal_keeps m n headed r p other)

ends_well : (n : ℕ) (headed : Bool) (m : List ℕ) (p : Phase) → Done n p (has_ended (with_last_message n headed m p))
ends_well n headed m p = over (with_last_message n headed m p) (last_answer_stands n headed m p) (λ k other. last_answer_keeps k n headed m p other)

stream_done : (n : ℕ) (method : Method3) (sel : List (List ℕ)) (v : ViewModel) (headed : Bool) (a : Answer) (p : Phase) → SoundPhase p → answer_of method v ≡ a → Done n p (stream_answer n method sel v headed a p)
stream_done n method sel v headed Denied p sound is = refuses n headed NoIdentity p
stream_done n method sel v headed Wait p sound is =
    on (Ready (Stream method) sel (Some v) headed) (withdraws n p) (withdrawal_stands n p) (λ m other. withdrawal_keeps m n p other)
    (subst (λ (a : Answer). HasAnswer n a (withdraws n p)) (sym is) (withdrawn_here n p sound))
stream_done n method sel v headed (TooLong size) p sound is = refuses n headed LongResponse p
stream_done n method sel v headed (Message m) p sound is =
    on (Ready (Stream method) sel (Some v) true) (with_message n headed m p) (answer_stands n headed m p) (λ k other. answer_keeps k n headed m p other)
    (subst (λ (a : Answer). HasAnswer n a (with_message n headed m p)) (sym is) (answer_held n headed m p sound))

token_done : (n : ℕ) (headed : Bool) (audience : List (List ℕ)) (ws : List Wanted) (p : Phase) → Done n p (token_answer n headed audience ws p)
token_done n headed audience [] p = refuses n headed NoIdentity p
token_done n headed audience (w ∷ ws) p = stays_on n _ p tt

check_done : (n : ℕ) (headed : Bool) (state : ℕ) (p : Phase) (b : Bool) → Done n p (if b then has_ended (with_refusal n headed UnknownService p) else has_ended (with_last_message n headed (spell_state state) p))
check_done n headed state p true = refuses n headed UnknownService p
check_done n headed state p false = ends_well n headed (spell_state state) p

answer_done : (n : ℕ) (kind : CallKind) (sel : List (List ℕ)) (headed : Bool) (v : ViewModel) (p : Phase) → SoundPhase p → Done n p (call_answer n kind sel headed v p)
unfolding call_answer
answer_done n (Stream method) sel headed v p sound = stream_done n method sel v headed (answer_of method v) p sound refl
answer_done n (Tokens audience id) sel headed v p sound = token_done n headed audience (asks_of id v) p
answer_done n (Check service) sel headed v p sound = check_done n headed (health_of service v) p (health_of service v == 3)
answer_done n (Watch service) sel headed v p sound =
    on (Ready (Watch service) sel (Some v) true) (with_message n headed (spell_state (health_of service v)) p) (answer_stands n headed (spell_state (health_of service v)) p) (λ k other. answer_keeps k n headed (spell_state (health_of service v)) p other)
    (answer_held n headed (spell_state (health_of service v)) p sound)

new_done : (n : ℕ) (kind : CallKind) (sel : List (List ℕ)) (seen : Option ViewModel) (headed : Bool) (v : ViewModel) (p : Phase) (b : Bool) → SoundPhase p → HasLastAnswer n kind seen p → Done n p (if b then goes_on n (Ready kind sel seen headed) p else call_answer n kind sel headed v p)
new_done n kind sel seen headed v p true sound h = stays_on n (Ready kind sel seen headed) p h
new_done n kind sel seen headed v p false sound h = answer_done n kind sel headed v p sound

stage_done : (x : Publication) (n : ℕ) (s : Stage) (p : Phase) → SoundPhase p → ShowsStage n s p → Done n p (stage_turn x n s p)
stage_done x n (Unnamed kind) p sound h = stays_on n (Unnamed kind) p h
stage_done x n (Ready kind sel seen headed) p sound h = new_done n kind sel seen headed (view_in x sel) p (was_seen seen (view_in x sel)) sound h
stage_done x n (Asking first rest got) p sound h = stays_on n (Asking first rest got) p h

call_done : (x : Publication) (c : ServedCall) (p : Phase) → SoundPhase p → Shows p c → Done c.stream p (call_turn x c p)
unfolding call_turn
call_done x c p sound h = stage_done x c.stream c.stage p sound h.1

-- ---- names and tokens

name_call_done : (n : ℕ) (kind : CallKind) (sel : Option (List (List ℕ))) (p : Phase) → Done n p (name_call n kind sel p)
name_call_done n kind (Some sel) p = stays_on n (Ready kind sel None false) p tt
name_call_done n kind None p = refuses n false Unattested p

name_done : (sel : Option (List (List ℕ))) (n : ℕ) (s : Stage) (p : Phase) → ShowsStage n s p → Done n p (name_stage sel n s p)
name_done sel n (Unnamed kind) p h = name_call_done n kind sel p
name_done sel n (Ready kind own seen headed) p h = stays_on n (Ready kind own seen headed) p h
name_done sel n (Asking first rest got) p h = stays_on n (Asking first rest got) p h

message_done : (n : ℕ) (m : List ℕ) (p : Phase) → Done n p (token_message n m p)
message_done n m p = go (nat_lt 4194304 (capped (length m)))
  where
    go : (b : Bool) → Done n p (if b then has_ended (with_refusal n false LongResponse p) else has_ended (with_last_message n false m p))
    go true = refuses n false LongResponse p
    go false = ends_well n false m p

next_done : (n : ℕ) (audience : List (List ℕ)) (ws : List Wanted) (got : List JwtItem) (p : Phase) → Done n p (next_ask n audience ws got p)
next_done n audience [] got p = message_done n (spell_jwt (record { svids = got })) p
next_done n audience (w ∷ ws) got p = stays_on n _ p tt

give_call_done : (n : ℕ) (first : JwtAsk) (rest : List Wanted) (got : List JwtItem) (o : JwtOutcome) (p : Phase) → Done n p (give_call n first rest got o p)
unfolding give_call
give_call_done n first rest got (outcomes.Token t) p = next_done n first.audience rest (got ++ item_for first t ∷ []) p
give_call_done n first rest got outcomes.Failed p = refuses n false Unsigned p
give_call_done n first rest got (outcomes.Unfit u) p = refuses n false Unsigned p

give_done : (o : JwtOutcome) (n : ℕ) (s : Stage) (p : Phase) → ShowsStage n s p → Done n p (give_stage o n s p)
give_done o n (Unnamed kind) p h = stays_on n (Unnamed kind) p h
give_done o n (Ready kind sel seen headed) p h = stays_on n (Ready kind sel seen headed) p h
give_done o n (Asking first rest got) p h = give_call_done n first rest got o p

-- ---- all calls

record AllDone (cs : List ServedCall) (p : Phase) (r : Turned) : Type 1 where
  stands : Stands p r.phase
  shows : AllByRecursion (Shows r.phase) r.kept
  apart : AreApart r.kept
  streams : (P : ℕ → Type 0) → AllByRecursion (λ c. P c.stream) cs → AllByRecursion (λ c. P c.stream) r.kept
  others : (n : ℕ) → AllByRecursion (λ c. c.stream ≡ n → ⊥) cs → Keeps n p r.phase

none_done : (p : Phase) → AllDone [] p (has_ended p)
none_done p = record { stands = stands_itself p; shows = tt; apart = tt; streams = λ P h. tt; others = λ n h. keeps_itself n p }

pub flip : (n : ℕ) (m : ℕ) → (m ≡ n → ⊥) → n ≡ m → ⊥
flip n m other e = other (sym e)

-- the others keep what they have where one call is done
rest_shows : (n : ℕ) (p q : Phase) (cs : List ServedCall) → ((m : ℕ) → (n ≡ m → ⊥) → Keeps m p q) → AllByRecursion (λ d. d.stream ≡ n → ⊥) cs → AllByRecursion (Shows p) cs → AllByRecursion (Shows q) cs
rest_shows n p q cs keeps apart h = all_kept (λ d. d.stream ≡ n → ⊥) p q (λ c other. keeps c.stream (flip n c.stream other)) cs apart h

-- one call, and then those after it
before_done : (n : ℕ) (c : ServedCall) (cs : List ServedCall) (p : Phase) (first : Turned) (go_on : Phase → Turned) → n ≡ c.stream → Done n p first → CameOn n p → AllByRecursion (λ d. d.stream ≡ n → ⊥) cs
    → AllDone cs first.phase (go_on first.phase) → AllDone (c ∷ cs) p (turn_before first go_on)
before_done n c cs p _ go_on same (over q stands keeps) came apart rest = record {
  stands = stands_both p q _ stands rest.stands;
  shows = rest.shows;
  apart = rest.apart;
  streams = λ P h. rest.streams P h.1;
  others = λ m h. keeps_both m p q _ (keeps m (λ e. h.0 (sym same ∙ e))) (rest.others m h.1);
}
before_done n c cs p _ go_on same (on stage q stands keeps shows) came apart rest = record {
  stands = stands_both p q _ stands rest.stands;
  shows = (shows_kept (record { stream = n; stage = stage }) q _ (rest.others n apart) (stands.came n came, shows), rest.shows);
  apart = (rest.streams (λ m. m ≡ n → ⊥) apart, rest.apart);
  streams = λ P h. (subst P (sym same) h.0, rest.streams P h.1);
  others = λ m h. keeps_both m p q _ (keeps m (λ e. h.0 (sym same ∙ e))) (rest.others m h.1);
}

done_stands : (n : ℕ) (p : Phase) (r : Turned) → Done n p r → Stands p r.phase
done_stands n p _ (over q stands keeps) = stands
done_stands n p _ (on stage q stands keeps shows) = stands

done_keeps : (n : ℕ) (p : Phase) (r : Turned) → Done n p r → (m : ℕ) → (n ≡ m → ⊥) → Keeps m p r.phase
done_keeps n p _ (over q stands keeps) = keeps
done_keeps n p _ (on stage q stands keeps shows) = keeps

calls_done : (x : Publication) (cs : List ServedCall) (p : Phase) → SoundPhase p → AreApart cs → AllByRecursion (Shows p) cs → AllDone cs p (calls_turn x cs p)
unfolding calls_turn
calls_done x [] p sound apart h = none_done p
calls_done x (c ∷ cs) p sound apart h =
    let first = call_turn x c p in
    let done = call_done x c p sound h.0 in
    before_done c.stream c cs p first (calls_turn x cs) refl done h.0.0 apart.0
    (calls_done x cs first.phase ((done_stands c.stream p first done).sound sound) apart.1 (rest_shows c.stream p first.phase cs (done_keeps c.stream p first done) apart.0 h.1))

-- ---- the first of a kind

-- the others stay as they are
rest_done : (cs : List ServedCall) (q : Phase) → AreApart cs → AllByRecursion (Shows q) cs → AllDone cs q (record { phase = q; kept = cs })
rest_done cs q apart h = record { stands = stands_itself q; shows = h; apart = apart; streams = λ P k. k; others = λ n k. keeps_itself n q }

first_none_done : (test : ServedCall → Bool) (change : ServedCall → Phase → Turned) (p : Phase) → change_first test change [] p ≡ has_ended p
unfolding change_first
first_none_done test change p = refl

first_done : (test : ServedCall → Bool) (change : ServedCall → Phase → Turned) → ((c : ServedCall) (p : Phase) → Shows p c → Done c.stream p (change c p))
    → (cs : List ServedCall) (p : Phase) → AreApart cs → AllByRecursion (Shows p) cs → AllDone cs p (change_first test change cs p)
first_done test change go [] p apart h = rw (first_none_done test change p) (none_done p)
first_done test change go (c ∷ cs) p apart h =
    elim (cases_Bool (test c)) [
      | inl here ↦
          let done = go c p h.0 in
          rw (first_here test change c cs p here)
          (before_done c.stream c cs p (change c p) (λ q. record { phase = q; kept = cs }) refl done h.0.0 apart.0
          (rest_done cs (change c p).phase apart.1 (rest_shows c.stream p (change c p).phase cs (done_keeps c.stream p (change c p) done) apart.0 h.1)))
      | inr later ↦
          let rest = first_done test change go cs p apart.1 h.1 in
          rw (first_later test change c cs p later)
          (before_done c.stream c cs p (goes_on c.stream c.stage p) (λ q. change_first test change cs q) refl (stays_on c.stream c.stage p h.0.1) h.0.0 apart.0 rest)
    ]

-- ---- talks

with_done : (t : Talking) (r : Turned) → IsComplete t → AllDone t.served t.phase r → IsComplete (with_turned t r)
with_done t r h done = record {
  sound = done.stands.sound h.sound;
  apart = done.apart;
  decided = done.streams (λ n. standing_at n t.calls ≡ None) h.decided;
  shows = done.shows;
}

pub written_complete : (fault : Option ConnFault) (t : Talking) → IsComplete t → IsComplete (written fault t).after
unfolding written
written_complete fault t h = record {
  sound = (flush_stands t.phase).sound h.sound;
  apart = h.apart;
  decided = h.decided;
  shows = all_kept Any t.phase (flush_of t.phase).after (λ c any. flush_keeps c.stream t.phase) t.served (any_all t.served) h.shows;
}

pub turn_complete : (x : Publication) (t : Talking) → IsComplete t → IsComplete (turn_said x t).after
unfolding turn_said
turn_complete x t h = written_complete None (with_turned t (calls_turn x t.served t.phase)) (with_done t (calls_turn x t.served t.phase) h (calls_done x t.served t.phase h.sound h.apart h.shows))

name_complete : (sel : Option (List (List ℕ))) (t : Talking) → IsComplete t → IsComplete (with_turned t (name_first sel t.served t.phase))
unfolding name_first
name_complete sel t h = with_done t _ h (first_done is_unnamed (name_on sel) (λ c p s. name_done sel c.stream c.stage p s.1) t.served t.phase h.apart h.shows)

pub named_complete : (sel : Option (List (List ℕ))) (t : Talking) → IsComplete t → IsComplete (name_said sel t).after
unfolding name_said
named_complete (Some sel) t h = name_complete (Some sel) t h
named_complete None t h = written_complete None (with_turned t (name_first None t.served t.phase)) (name_complete None t h)

pub given_complete : (o : JwtOutcome) (t : Talking) → IsComplete t → IsComplete (given_said o t).after
unfolding given_said give_first
given_complete o t h = written_complete None (with_turned t (give_first o t.served t.phase)) (with_done t _ h (first_done is_asking (give_on o) (λ c p s. give_done o c.stream c.stage p s.1) t.served t.phase h.apart h.shows))
