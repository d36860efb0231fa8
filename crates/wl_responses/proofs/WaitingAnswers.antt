-- What a turn, a name and a token do for the call on a stream: what waits there is the answer on the turn's publication.
use Rattle.std.proofs.Common.{◌≡◌, ◌⊎◌, ℕ, ◌==◌, length, Bool, true, false, not, if◌then◌else◌, List, [], ◌∷◌, ◌++◌, Option, Some, None, refl, sym, ap, subst, ◌∙◌, arith}
use Rattle.std.specs.List.{AllByRecursion}
use Rattle.wl_responses.proofs.Common.{block_bytes, Phase, withdraws, SoundPhase, framed, trailer_fields, refused_fields, Refusal, NoIdentity, LongResponse, UnknownService, Unattested, JwtItem, JwtToken, spell_state, Publication, ViewModel, view_in, answer_of, asks_of, Answer, Denied, Wait, TooLong, Message, Method3, Wanted, JwtAsk, CallKind, Stream, Tokens, Check, Watch, Stage, Unnamed, Ready, Asking, ServedCall, was_seen, Turned, goes_on, has_ended, with_head, with_refusal, with_message, with_last_message, stream_answer, health_of, token_answer, call_answer, stage_turn, call_turn, name_call, name_stage, AnsweringTurn, Replies, answering, IsMessageOn, IsMessageOf, withdrawal_stands, refusal_stands, answer_stands, OnPhase, IsUnfinished}
use Rattle.h2_flow.specs.declared.stream.Stream as flow
use Rattle.grpc_wire.specs.Answers.{response_fields}
use Rattle.wl_snapshot.proofs.Equalities.{view_model_is}
use Rattle.wl_responses.specs.Responses.{token_item, token_items}
use Rattle.wl_session.proofs.Streams.{last_answer_stands, first_stands}
use Rattle.wl_responses.proofs.OutboxStreams.{phase_weaker, head_on, trailers_on, message_on, withdrawn_on, message_here, withdrawn_here}
use Rattle.wl_responses.proofs.StreamFlushes.{IfWaits, Matches, offered, silenced}
use Rattle.wl_responses.proofs.Asides.{NoneOn}

-- ---- what is known of a call by its stage

-- one that has many answers, each when its view is another
abbrev pub IsStreaming : CallKind → Type 0
IsStreaming (Stream method) = Unit {0}
IsStreaming (Tokens audience id) = ⊥
IsStreaming (Check service) = ⊥
IsStreaming (Watch service) = Unit {0}

-- the last turn answered it on this view
abbrev pub HasTurn : Option AnsweringTurn → CallKind → List (List ℕ) → ViewModel → Type 0
HasTurn turn kind sel v = (x : Publication) × (turn ≡ Some (record { publication = x; kind = kind; selectors = sel; tokens = [] })) × (view_in x sel ≡ v)

abbrev pub SeenFits : Option AnsweringTurn → CallKind → List (List ℕ) → Option ViewModel → Type 0
SeenFits turn kind sel None = turn ≡ None
SeenFits turn kind sel (Some v) = IsStreaming kind × HasTurn turn kind sel v

abbrev pub wanted_by : JwtAsk → Wanted
wanted_by a = record { ask = a.ask; hint = a.hint }

-- the asks of the turn's view are those whose tokens came, the first one, and the rest
pub record AsksOf (turn : Option AnsweringTurn) (first : JwtAsk) (rest : List Wanted) (got : List JwtItem) : Type 0 where
  pub publication : Publication
  pub selectors : List (List ℕ)
  pub audience : List (List ℕ)
  pub id : Option (List ℕ)
  pub done : List Wanted
  pub tokens : List JwtToken
  pub is : turn ≡ Some (record { publication = publication; kind = Tokens audience id; selectors = selectors; tokens = tokens })
  pub asks : asks_of id (view_in publication selectors) ≡ done ++ wanted_by first ∷ rest
  pub count : length tokens ≡ length done
  pub items : got ≡ token_items done tokens

abbrev pub StageFits : Option AnsweringTurn → Stage → Type 0
StageFits turn (Unnamed kind) = turn ≡ None
StageFits turn (Ready kind sel seen headed) = SeenFits turn kind sel seen
StageFits turn (Asking first rest got) = AsksOf turn first rest got

-- ---- what is known of the calls

abbrev pub OneOn : ℕ → List ServedCall → Type 0
OneOn n [] = Unit {0}
OneOn n (c ∷ cs) = (c.stream ≡ n → NoneOn n cs) × OneOn n cs

-- of the calls and the connection, by the latest turn that answered the stream and what was written on it
pub record Serves (n : ℕ) (turn : Option AnsweringTurn) (r : Replies) (cs : List ServedCall) (p : Phase) : Type 0 where
  pub sound : SoundPhase p
  pub one : OneOn n cs
  pub fits : AllByRecursion (λ c. c.stream ≡ n → StageFits turn c.stage) cs
  pub unfinished : NoneOn n cs ⊎ OnPhase n IsUnfinished p
  pub there : OnPhase n (Matches turn r) p

pub none_one : (n : ℕ) (cs : List ServedCall) → NoneOn n cs → OneOn n cs
none_one n [] h = tt
none_one n (c ∷ cs) h = ((λ e. absurd (h.0 e)), none_one n cs h.1)

pub none_fits : (n : ℕ) (turn : Option AnsweringTurn) (cs : List ServedCall) → NoneOn n cs → AllByRecursion (λ c. c.stream ≡ n → StageFits turn c.stage) cs
none_fits n turn [] h = tt
none_fits n turn (c ∷ cs) h = ((λ e. absurd (h.0 e)), none_fits n turn cs h.1)

-- ---- on the stream of the call

pub not_waiting : (turn : Option AnsweringTurn) (r : Replies) (n : ℕ) (p : Phase) → ((m : List ℕ) → IsMessageOf turn m → ⊥) → (new : Option AnsweringTurn) → OnPhase n (Matches turn r) p → OnPhase n (Matches new r) p
not_waiting turn r n p none new h = phase_weaker n (Matches turn r) (Matches new r) (λ s m. (m.0, m.1, go s.last s.waiting m.2)) p h
  where
    go : (last : List ℕ) (w : Option (List ℕ)) → IfWaits turn last w → IfWaits new last w
    go last None i = tt
    go last (Some m) i = absurd (none m i.0)

no_turn : (turn : Option AnsweringTurn) → turn ≡ None → (m : List ℕ) → IsMessageOf turn m → ⊥
no_turn turn e m is = subst (λ (t : Option AnsweringTurn). IsMessageOf t m) e is

pub refusal_here : (n : ℕ) (headed : Bool) (why : Refusal) (old new : Option AnsweringTurn) (r : Replies) (p : Phase) → SoundPhase p → OnPhase n IsUnfinished p → OnPhase n (Matches old r) p → OnPhase n (Matches new r) (with_refusal n headed why p)
unfolding with_refusal
refusal_here n headed why old new r p sound u h =
    trailers_on n n (block_bytes (refused_fields why (not headed))) (Matches new r) (λ s m. m) (withdraws n p) (withdrawn_here n (Matches old r) (Matches new r) (silenced old new r) p sound u h)

pub head_here : (n : ℕ) (headed : Bool) (P : flow.Stream → Type 0) (p : Phase) → ((s : flow.Stream) (b : List ℕ) → P s → P (record s { head = Some b })) → OnPhase n P p → OnPhase n P (with_head n headed p)
unfolding with_head
head_here n true P p go h = h
head_here n false P p go h = head_on n n (block_bytes response_fields) P (λ s m. go s (block_bytes response_fields) m) p h

answer_here : (n : ℕ) (headed : Bool) (m : List ℕ) (old new : Option AnsweringTurn) (r : Replies) (p : Phase) → IsMessageOf new (framed m) → SoundPhase p → OnPhase n IsUnfinished p → OnPhase n (Matches old r) p → OnPhase n (Matches new r) (with_message n headed m p)
unfolding with_message
answer_here n headed m old new r p is sound u h =
    message_here n (framed m) (Matches old r) (Matches new r) (offered old new r (framed m) is) (with_head n headed p) ((first_stands n headed p).sound sound)
    (head_here n headed IsUnfinished p (λ s b f. f) u) (head_here n headed (Matches old r) p (λ s b k. k) h)

pub answer_unfinished : (n : ℕ) (headed : Bool) (m : List ℕ) (p : Phase) → OnPhase n IsUnfinished p → OnPhase n IsUnfinished (with_message n headed m p)
unfolding with_message
answer_unfinished n headed m p u = message_on n n (framed m) IsUnfinished (λ s f. f) (with_head n headed p) (head_here n headed IsUnfinished p (λ s b f. f) u)

last_here : (n : ℕ) (headed : Bool) (m : List ℕ) (old new : Option AnsweringTurn) (r : Replies) (p : Phase) → IsMessageOf new (framed m) → SoundPhase p → OnPhase n IsUnfinished p → OnPhase n (Matches old r) p → OnPhase n (Matches new r) (with_last_message n headed m p)
unfolding with_last_message
last_here n headed m old new r p is sound u h = trailers_on n n (block_bytes (trailer_fields 0 [] false)) (Matches new r) (λ s k. k) (with_message n headed m p) (answer_here n headed m old new r p is sound u h)

-- ---- one call

-- it has ended, or goes on as it fits the latest turn
pub data Own (n : ℕ) (turn : Option AnsweringTurn) (r : Replies) : Turned → Type 0 where
  over : (q : Phase) → SoundPhase q → OnPhase n (Matches turn r) q → Own n turn r (has_ended q)
  on : (stage : Stage) (q : Phase) → SoundPhase q → OnPhase n IsUnfinished q → StageFits turn stage → OnPhase n (Matches turn r) q → Own n turn r (goes_on n stage q)

-- what holds on the stream of a call
pub record Holds (n : ℕ) (turn : Option AnsweringTurn) (r : Replies) (p : Phase) : Type 0 where
  pub sound : SoundPhase p
  pub unfinished : OnPhase n IsUnfinished p
  pub there : OnPhase n (Matches turn r) p

pub refused : (n : ℕ) (headed : Bool) (why : Refusal) (old new : Option AnsweringTurn) (r : Replies) (p : Phase) → Holds n old r p → Own n new r (has_ended (with_refusal n headed why p))
refused n headed why old new r p h = over (with_refusal n headed why p) ((refusal_stands n headed why p).sound h.sound) (refusal_here n headed why old new r p h.sound h.unfinished h.there)

pub ends_well : (n : ℕ) (headed : Bool) (m : List ℕ) (old new : Option AnsweringTurn) (r : Replies) (p : Phase) → IsMessageOf new (framed m) → Holds n old r p → Own n new r (has_ended (with_last_message n headed m p))
ends_well n headed m old new r p is h = over (with_last_message n headed m p) ((last_answer_stands n headed m p).sound h.sound) (last_here n headed m old new r p is h.sound h.unfinished h.there)

abbrev turn_of : Publication → CallKind → List (List ℕ) → Option AnsweringTurn
turn_of x kind sel = Some (record { publication = x; kind = kind; selectors = sel; tokens = [] })

answered : (x : Publication) (n : ℕ) (kind : CallKind) (sel : List (List ℕ)) (headed : Bool) (m : List ℕ) (old : Option AnsweringTurn) (r : Replies) (p : Phase) → IsStreaming kind → IsMessageOf (turn_of x kind sel) (framed m) → Holds n old r p
    → Own n (turn_of x kind sel) r (goes_on n (Ready kind sel (Some (view_in x sel)) true) (with_message n headed m p))
answered x n kind sel headed m old r p streaming is h =
    on (Ready kind sel (Some (view_in x sel)) true) (with_message n headed m p) ((answer_stands n headed m p).sound h.sound) (answer_unfinished n headed m p h.unfinished)
    (streaming, (x, refl, refl)) (answer_here n headed m old (turn_of x kind sel) r p is h.sound h.unfinished h.there)

stream_own : (x : Publication) (n : ℕ) (method : Method3) (sel : List (List ℕ)) (headed : Bool) (a : Answer) (old : Option AnsweringTurn) (r : Replies) (p : Phase) → answer_of method (view_in x sel) ≡ a → Holds n old r p
    → Own n (turn_of x (Stream method) sel) r (stream_answer n method sel (view_in x sel) headed a p)
stream_own x n method sel headed Denied old r p is h = refused n headed NoIdentity old _ r p h
stream_own x n method sel headed Wait old r p is h =
    on (Ready (Stream method) sel (Some (view_in x sel)) headed) (withdraws n p) ((withdrawal_stands n p).sound h.sound) (withdrawn_on n n IsUnfinished (λ s f. f) p h.unfinished) (tt, (x, refl, refl))
    (withdrawn_here n (Matches old r) (Matches (turn_of x (Stream method) sel) r) (silenced old (turn_of x (Stream method) sel) r) p h.sound h.unfinished h.there)
stream_own x n method sel headed (TooLong size) old r p is h = refused n headed LongResponse old _ r p h
stream_own x n method sel headed (Message m) old r p is h = answered x n (Stream method) sel headed m old r p tt (m, is, refl) h

token_own : (x : Publication) (n : ℕ) (headed : Bool) (audience : List (List ℕ)) (id : Option (List ℕ)) (sel : List (List ℕ)) (ws : List Wanted) (old : Option AnsweringTurn) (r : Replies) (p : Phase) → asks_of id (view_in x sel) ≡ ws → old ≡ None → Holds n old r p
    → Own n (turn_of x (Tokens audience id) sel) r (token_answer n headed audience ws p)
token_own x n headed audience id sel [] old r p is none h = refused n headed NoIdentity old _ r p h
token_own x n headed audience id sel (w ∷ ws) old r p is none h =
    on _ p h.sound h.unfinished
    (record { publication = x; selectors = sel; audience = audience; id = id; done = []; tokens = []; is = refl; asks = is; count = refl; items = refl })
    (not_waiting old r n p (no_turn old none) (turn_of x (Tokens audience id) sel) h.there)

check_own : (x : Publication) (n : ℕ) (headed : Bool) (service : List ℕ) (sel : List (List ℕ)) (old : Option AnsweringTurn) (r : Replies) (p : Phase) (b : Bool) → (health_of service (view_in x sel) == 3) ≡ b → Holds n old r p
    → Own n (turn_of x (Check service) sel) r (if b then has_ended (with_refusal n headed UnknownService p) else has_ended (with_last_message n headed (spell_state (health_of service (view_in x sel))) p))
check_own x n headed service sel old r p true is h = refused n headed UnknownService old _ r p h
check_own x n headed service sel old r p false is h = ends_well n headed (spell_state (health_of service (view_in x sel))) old _ r p (is, refl) h

-- on a view that is another than the last one
answer_own : (x : Publication) (n : ℕ) (kind : CallKind) (sel : List (List ℕ)) (seen : Option ViewModel) (headed : Bool) (old : Option AnsweringTurn) (r : Replies) (p : Phase) → SeenFits old kind sel seen → Holds n old r p
    → Own n (turn_of x kind sel) r (call_answer n kind sel headed (view_in x sel) p)
unfolding call_answer
answer_own x n (Stream method) sel seen headed old r p fits h = stream_own x n method sel headed (answer_of method (view_in x sel)) old r p refl h
answer_own x n (Tokens audience id) sel None headed old r p fits h = token_own x n headed audience id sel (asks_of id (view_in x sel)) old r p refl fits h
answer_own x n (Tokens audience id) sel (Some v) headed old r p fits h = absurd fits.0
answer_own x n (Check service) sel seen headed old r p fits h = check_own x n headed service sel old r p (health_of service (view_in x sel) == 3) refl h
answer_own x n (Watch service) sel seen headed old r p fits h = answered x n (Watch service) sel headed (spell_state (health_of service (view_in x sel))) old r p tt refl h

-- the message that waits is the answer on an equal view
again : (x : Publication) (n : ℕ) (kind : CallKind) (sel : List (List ℕ)) (v : ViewModel) (headed : Bool) (old : Option AnsweringTurn) (r : Replies) (p : Phase) → view_in x sel ≡ v → IsStreaming kind → HasTurn old kind sel v → Holds n old r p
    → Own n (turn_of x kind sel) r (goes_on n (Ready kind sel (Some v) headed) p)
again x n kind sel v headed old r p same streaming has h =
    on (Ready kind sel (Some v) headed) p h.sound h.unfinished (streaming, (x, refl, same)) (phase_weaker n (Matches old r) (Matches (turn_of x kind sel) r) (λ s m. (m.0, m.1, go s.last s.waiting m.2)) p h.there)
  where
    go : (last : List ℕ) (w : Option (List ℕ)) → IfWaits old last w → IfWaits (turn_of x kind sel) last w
    go last None i = tt
    go last (Some m) i =
        let before : IsMessageOf (turn_of has.0 kind sel) m = subst (λ (t : Option AnsweringTurn). IsMessageOf t m) has.1 i.0 in
        (subst (λ (u : ViewModel). IsMessageOn kind u [] m) (has.2 ∙ sym same) before, i.1)

new_own : (x : Publication) (n : ℕ) (kind : CallKind) (sel : List (List ℕ)) (seen : Option ViewModel) (headed : Bool) (old : Option AnsweringTurn) (r : Replies) (p : Phase) (b : Bool) → was_seen seen (view_in x sel) ≡ b → SeenFits old kind sel seen → Holds n old r p
    → Own n (turn_of x kind sel) r (if b then goes_on n (Ready kind sel seen headed) p else call_answer n kind sel headed (view_in x sel) p)
new_own x n kind sel None headed old r p true is fits h = absurd (cc is)
new_own x n kind sel (Some v) headed old r p true is fits h = again x n kind sel v headed old r p (sym (view_model_is v (view_in x sel) is)) fits.0 fits.1 h
new_own x n kind sel seen headed old r p false is fits h = answer_own x n kind sel seen headed old r p fits h

pub stays : (n : ℕ) (stage : Stage) (turn : Option AnsweringTurn) (r : Replies) (p : Phase) → StageFits turn stage → Holds n turn r p → Own n turn r (goes_on n stage p)
stays n stage turn r p fits h = on stage p h.sound h.unfinished fits h.there

stage_own : (x : Publication) (n : ℕ) (s : Stage) (old : Option AnsweringTurn) (r : Replies) (p : Phase) → StageFits old s → Holds n old r p → Own n (answering x (Some s) old) r (stage_turn x n s p)
stage_own x n (Unnamed kind) old r p fits h = stays n (Unnamed kind) old r p fits h
stage_own x n (Ready kind sel seen headed) old r p fits h = new_own x n kind sel seen headed old r p (was_seen seen (view_in x sel)) refl fits h
stage_own x n (Asking first rest got) old r p fits h = stays n (Asking first rest got) old r p fits h

pub turn_own : (x : Publication) (c : ServedCall) (old : Option AnsweringTurn) (r : Replies) (p : Phase) → StageFits old c.stage → Holds c.stream old r p → Own c.stream (answering x (Some c.stage) old) r (call_turn x c p)
unfolding call_turn
turn_own x c old r p fits h = stage_own x c.stream c.stage old r p fits h

-- ---- names and tokens

named_own : (n : ℕ) (kind : CallKind) (sel : Option (List (List ℕ))) (turn : Option AnsweringTurn) (r : Replies) (p : Phase) → turn ≡ None → Holds n turn r p → Own n turn r (name_call n kind sel p)
named_own n kind (Some sel) turn r p none h = stays n (Ready kind sel None false) turn r p none h
named_own n kind None turn r p none h = refused n false Unattested turn turn r p h

pub name_stage_own : (sel : Option (List (List ℕ))) (n : ℕ) (s : Stage) (turn : Option AnsweringTurn) (r : Replies) (p : Phase) → StageFits turn s → Holds n turn r p → Own n turn r (name_stage sel n s p)
name_stage_own sel n (Unnamed kind) turn r p fits h = named_own n kind sel turn r p fits h
name_stage_own sel n (Ready kind own seen headed) turn r p fits h = stays n (Ready kind own seen headed) turn r p fits h
name_stage_own sel n (Asking first rest got) turn r p fits h = stays n (Asking first rest got) turn r p fits h

pub items_more : (ws : List Wanted) (ts : List JwtToken) (w : Wanted) (t : JwtToken) (more : List Wanted) → length ts ≡ length ws → token_items (ws ++ w ∷ more) (ts ++ t ∷ []) ≡ token_items ws ts ++ token_item w t ∷ []
items_more [] [] w t [] e = refl
items_more [] [] w t (v ∷ more) e = refl
items_more [] (u ∷ ts) w t more e = absurd (omega (arith, e))
items_more (v ∷ ws) [] w t more e = absurd (omega (arith, e))
items_more (v ∷ ws) (u ∷ ts) w t more e = let rest : length ts ≡ length ws = omega (arith, e) in ap (λ (items : List JwtItem). token_item v u ∷ items) (items_more ws ts w t more rest)
