-- Over all events: each session has its moves.
use Rattle.std.proofs.Common.{◌≡◌, ℕ, ◌<◌, ◌==◌, Bool, true, false, if◌then◌else◌, List, [], ◌∷◌, ◌++◌, Option, Some, None, refl, sym, ap, subst, ◌∙◌, arith, inl, inr, append-nil}
use Rattle.std.proofs.lemmas.List.{get_or-replicate}
use Rattle.wl_responses.proofs.Common.{JwtToken, Publication, JwtAsk, SessionState, Running, Fallen, Told, outcome_told, CONNS, Event, Seat, joined_seat, named_seat, told_seat, feed_seat, turn_seat, tokens_of, Beginning, Moment, moment, token_seat, seat, NeverFall, Move, Fed, TurnedOn, GivenTo, steps_of, numbers_turned}
use Rattle.wl_session.specs.Sessions.{OutOfMemory, fresh_session, asks_in}
use Rattle.wl_session.specs.Items.{Item, items_said, talk, feed_items, turn_items}
use Rattle.wl_session.proofs.SessionFacts.{settled_fresh}
use Rattle.wl_session.proofs.Traces.{Follows, FollowsOn, feed_follows, turn_follows, outcome_follows}
use Rattle.wl_core.specs.declared.events.Event.TheVariants as events
use Rattle.wl_core.specs.Seats.{seat_at}
use Rattle.wl_core.specs.Tokens.{KeptTokens, kept_token, outcome_of}
use Rattle.wl_core.specs.Moments.{answer_ask, publication}
use Rattle.wl_core.specs.Traces.{ask_items, gain, joined_trace, trace_after, trace}
use Rattle.wl_core.proofs.SessionTraces.{bytes_of_trace}
use Rattle.wl_responses.specs.Moves.{replies_in}
use Rattle.wl_responses.specs.Runs.{gain_moves, joined_moves, with_outcome_for, moves_after, moves_of, WasPublished, HasMoves, SessionsHaveMoves, BytesOfResponses, AnswersOfTurns, TurnsOfCalls, SelectorsOfCalls, TurnsOfPublications, NumbersOfResponses, ResponsesOfRunsDiffer, MessagesOfRuns}
use Rattle.wl_responses.proofs.MoveSteps.{messages_are_cut, bytes_are_responses, responses_are_answers, responses_differ, turns_were_taken, turns_have_selectors, publications_never_fall}
use Rattle.wl_responses.proofs.Runs.{seat_step, seat_next, number_after, now_published, AllRead, moves_read, turns_read, Led, Lived, Life, life_weaker, one_move}

-- ---- a session does what it is to do

told_life : (P : Publication → Type 0) (most : ℕ) (tell : Seat → Told) (more : Seat → List Item → List Item) (add : Seat → List Move → List Move)
    → ((s : Seat) (items : List Item) (moves : List Move) → Led P most s.session items moves → Led P most (tell s).after (items ++ more s items) (add s moves))
    → (o : Option Seat) (tr : Option (List Item)) (ms : Option (List Move)) → Life P most o tr ms → Life P most (told_seat tell o) (gain more o tr) (gain_moves add o ms)
told_life P most tell more add go None tr ms h = (refl, refl)
told_life P most tell more add go (Some s) tr ms h = record {
  items = h.items ++ more s h.items;
  moves = add s h.moves;
  trace = ap (gain more (Some s)) h.trace;
  are = ap (gain_moves add (Some s)) h.are;
  led = go s h.items h.moves h.led;
}

fed_led : (P : Publication → Type 0) (most : ℕ) (piece : List ℕ) (s : Seat) (items : List Item) (moves : List Move) → Led P most s.session items moves
    → Led P most (feed_seat piece s).after (items ++ feed_items piece s.caller s.session) (Fed piece s.caller ∷ moves)
fed_led P most piece s items moves h =
    one_move P most (Fed piece s.caller) s.session items (feed_items piece s.caller s.session) moves tt h.falls h.above (feed_follows piece s.caller s.session items h.follows) h

turned_led : (P : Publication → Type 0) (x : Publication) (s : Seat) (items : List Item) (moves : List Move) → P x → Led P x.number s.session items moves
    → Led P x.number (turn_seat x s).after (items ++ turn_items x s.session items) (TurnedOn x ∷ moves)
turned_led P x s items moves is h =
    one_move P x.number (TurnedOn x) s.session items (turn_items x s.session items) moves is (h.above, h.falls) (omega arith, h.above) (turn_follows x s.session items h.follows) h

outcome_on : (kept : KeptTokens) (now : ℕ) (given : Option JwtToken) (e : SessionState) (a : JwtAsk) (items : List Item) → asks_in e ≡ Some a → Follows e items
    → FollowsOn (outcome_told (outcome_of (kept_token kept a now) given now) e) items (ask_items kept now given (Some a))
outcome_on kept now given (Running e t shown) a items is follows = outcome_follows (outcome_of (kept_token kept a now) given now) e t shown items follows
outcome_on kept now given (Fallen fault begun) a items is follows = absurd (cc is)
outcome_on kept now given OutOfMemory a items is follows = absurd (cc is)

asked_led : (P : Publication → Type 0) (most : ℕ) (kept : KeptTokens) (now : ℕ) (given : Option JwtToken) (s : Seat) (o : Option JwtAsk) (items : List Item) (moves : List Move) → asks_in s.session ≡ o → Led P most s.session items moves
    → Led P most (answer_ask kept now given s o).after (items ++ ask_items kept now given o) (with_outcome_for kept now given o moves)
asked_led P most kept now given s None items moves is h = rw (append-nil items) h
asked_led P most kept now given s (Some a) items moves is h =
    one_move P most (GivenTo (outcome_of (kept_token kept a now) given now)) s.session items (ask_items kept now given (Some a)) moves tt h.falls h.above (outcome_on kept now given s.session a items is h.follows) h

-- ---- Join, Name, Close

fresh_follows : Follows fresh_session []
unfolding items_said
fresh_follows = (refl, record { settled = settled_fresh; greeted = inl (refl, refl) })

nothing_talked : [] ≡ talk []
unfolding items_said
nothing_talked = refl

join_life : (P : Publication → Type 0) (most : ℕ) (selectors : List (List ℕ)) (o : Option Seat) (tr : Option (List Item)) (ms : Option (List Move)) → Life P most o tr ms → Life P most (joined_seat selectors o) (joined_trace tr) (joined_moves ms)
join_life P most selectors None tr ms h = record {
  items = [];
  moves = [];
  trace = ap joined_trace h.0;
  are = ap joined_moves h.1;
  led = record { session = refl; follows = fresh_follows; bytes = nothing_talked; read = tt; above = tt; falls = tt };
}
join_life P most selectors (Some s) tr ms h = record { items = h.items; moves = h.moves; trace = ap joined_trace h.trace; are = ap joined_moves h.are; led = h.led }

name_life : (P : Publication → Type 0) (most : ℕ) (caller : Option (List (List ℕ))) (o : Option Seat) (tr : Option (List Item)) (ms : Option (List Move)) → Life P most o tr ms → Life P most (named_seat caller o) tr ms
name_life P most caller None tr ms h = h
name_life P most caller (Some s) tr ms h = record { items = h.items; moves = h.moves; trace = h.trace; are = h.are; led = h.led }

-- ---- an event

pick : (P : Publication → Type 0) (most : ℕ) (b : Bool) (o p : Option Seat) (tr ts : Option (List Item)) (ms ns : Option (List Move)) → Life P most o tr ms → Life P most p ts ns → Life P most (if b then o else p) (if b then tr else ts) (if b then ms else ns)
pick P most true o p tr ts ms ns h k = h
pick P most false o p tr ts ms ns h k = k

pick_seat : (P : Publication → Type 0) (most : ℕ) (b : Bool) (o p : Option Seat) (tr : Option (List Item)) (ms : Option (List Move)) → Life P most o tr ms → Life P most p tr ms → Life P most (if b then o else p) tr ms
pick_seat P most true o p tr ms h k = h
pick_seat P most false o p tr ms h k = k

life_after : (P : Publication → Type 0) (e : Event) (conn : ℕ) (m : Moment) (tr : Option (List Item)) (ms : Option (List Move)) → P m.stored.published → Life P m.stored.published.number (seat_at m.seats conn) tr ms
    → Life P m.stored.published.number (seat_step e conn m (seat_at m.seats conn)) (trace_after e conn m tr) (moves_after e conn m ms)
life_after P (events.Sync document) conn m tr ms is h = h
life_after P (events.Claim now) conn m tr ms is h = h
life_after P (events.Signed ticket signed now) conn m tr ms is h = h
life_after P (events.Failed ticket) conn m tr ms is h = h
life_after P (events.Join k selectors) conn m tr ms is h =
    let o = seat_at m.seats conn in
    pick P m.stored.published.number (k == conn) (joined_seat selectors o) o (joined_trace tr) tr (joined_moves ms) ms (join_life P m.stored.published.number selectors o tr ms h) h
life_after P (events.Name k caller) conn m tr ms is h =
    let o = seat_at m.seats conn in pick_seat P m.stored.published.number (k == conn) (named_seat caller o) o tr ms (name_life P m.stored.published.number caller o tr ms h) h
life_after P (events.Feed k piece) conn m tr ms is h =
    let o = seat_at m.seats conn in
    let more : Seat → List Item → List Item = λ s before. feed_items piece s.caller s.session in
    let add : Seat → List Move → List Move = λ s before. Fed piece s.caller ∷ before in
    pick P m.stored.published.number (k == conn) (told_seat (feed_seat piece) o) o (gain more o tr) tr (gain_moves add o ms) ms
    (told_life P m.stored.published.number (feed_seat piece) more add (λ s items moves l. fed_led P m.stored.published.number piece s items moves l) o tr ms h) h
life_after P (events.Turn k) conn m tr ms is h =
    let x = m.stored.published in
    let o = seat_at m.seats conn in
    let more : Seat → List Item → List Item = λ s before. turn_items x s.session before in
    let add : Seat → List Move → List Move = λ s before. TurnedOn x ∷ before in
    pick P x.number (k == conn) (told_seat (turn_seat x) o) o (gain more o tr) tr (gain_moves add o ms) ms
    (told_life P x.number (turn_seat x) more add (λ s items moves l. turned_led P x s items moves is l) o tr ms h) h
life_after P (events.Token k now given) conn m tr ms is h =
    let o = seat_at m.seats conn in
    let more : Seat → List Item → List Item = λ s before. ask_items (tokens_of m.stored m.history) now given (asks_in s.session) in
    let add : Seat → List Move → List Move = λ s before. with_outcome_for (tokens_of m.stored m.history) now given (asks_in s.session) before in
    pick P m.stored.published.number (k == conn) (told_seat (token_seat (tokens_of m.stored m.history) now given) o) o (gain more o tr) tr (gain_moves add o ms) ms
    (told_life P m.stored.published.number (token_seat (tokens_of m.stored m.history) now given) more add
    (λ s items moves l. asked_led P m.stored.published.number (tokens_of m.stored m.history) now given s (asks_in s.session) items moves refl l) o tr ms h) h
life_after P (events.Close k) conn m tr ms is h = pick P m.stored.published.number (k == conn) None (seat_at m.seats conn) None tr None ms (refl, refl) h

-- ---- a run

life : (d : Beginning) (past : List Event) (conn : ℕ) → conn < CONNS → Life (WasPublished d past) (publication d past).number (seat d past conn) (trace d past conn) (moves_of d past conn)
life d [] conn within = subst (λ (o : Option Seat). Life (WasPublished d []) (publication d []).number o None None) (sym (get_or-replicate CONNS conn None None within)) (refl, refl)
life d (e ∷ past) conn within =
    let now = life_after (WasPublished d past) e conn (moment d past) (trace d past conn) (moves_of d past conn) (now_published d past) (life d past conn within) in
    let more = life_weaker (WasPublished d past) (WasPublished d (e ∷ past)) (publication d past).number (publication d (e ∷ past)).number (λ x h. inr h) (number_after e (moment d past))
    (seat_step e conn (moment d past) (seat d past conn)) (trace d (e ∷ past) conn) (moves_of d (e ∷ past) conn) now in
    subst (λ (o : Option Seat). Life (WasPublished d (e ∷ past)) (publication d (e ∷ past)).number o (trace d (e ∷ past) conn) (moves_of d (e ∷ past) conn)) (sym (seat_next d e past conn within)) more

-- ---- laws

moves_by : (d : Beginning) (past : List Event) (conn : ℕ) (s : Seat) → conn < CONNS → Lived (WasPublished d past) (publication d past).number s (trace d past conn) (moves_of d past conn) → HasMoves d past conn s
moves_by d past conn s within h = record { moves = h.moves; are = h.are; session = h.led.session; bytes = bytes_of_trace d past conn h.items within h.trace ∙ sym h.led.bytes }

pub sessions_have_moves : SessionsHaveMoves
sessions_have_moves d past conn s within is =
    moves_by d past conn s within (subst (λ (o : Option Seat). Life (WasPublished d past) (publication d past).number o (trace d past conn) (moves_of d past conn)) is (life d past conn within))

-- what the turns of the moves on a connection read
record Known (d : Beginning) (past : List Event) (moves : List Move) : Type 0 where
  read : AllRead (WasPublished d past) moves
  falls : NeverFall (numbers_turned moves)

known_by : (d : Beginning) (past : List Event) (o : Option Seat) (tr : Option (List Item)) (ms : Option (List Move)) (moves : List Move) → ms ≡ Some moves → Life (WasPublished d past) (publication d past).number o tr ms → Known d past moves
known_by d past None tr ms moves is h = let none : ms ≡ None = h.1 in absurd (cc (none, is))
known_by d past (Some s) tr ms moves is h =
    let both : Some h.moves ≡ Some moves = sym h.are ∙ is in
    let same : h.moves ≡ moves = cc both in
    subst (Known d past) same (record { read = h.led.read; falls = h.led.falls })

known : (d : Beginning) (past : List Event) (conn : ℕ) (moves : List Move) → conn < CONNS → moves_of d past conn ≡ Some moves → Known d past moves
known d past conn moves within is = known_by d past (seat d past conn) (trace d past conn) (moves_of d past conn) moves is (life d past conn within)

pub bytes_of_responses : BytesOfResponses
bytes_of_responses d past conn n moves within is = bytes_are_responses n moves

pub answers_of_turns : AnswersOfTurns
answers_of_turns d past conn n moves within is = responses_are_answers n moves

pub turns_of_calls : TurnsOfCalls
turns_of_calls d past conn n moves within is = turns_were_taken n moves

pub selectors_of_calls : SelectorsOfCalls
selectors_of_calls d past conn n moves within is = turns_have_selectors n moves

pub turns_of_publications : TurnsOfPublications
turns_of_publications d past conn n moves within is =
    turns_read (WasPublished d past) n (steps_of moves) (replies_in n moves).begun (moves_read (WasPublished d past) moves (known d past conn moves within is).read) (turns_were_taken n moves)

pub numbers_of_responses : NumbersOfResponses
numbers_of_responses d past conn n moves within is = publications_never_fall n moves (known d past conn moves within is).falls

pub responses_of_runs_differ : ResponsesOfRunsDiffer
responses_of_runs_differ d past conn n moves within is = responses_differ n moves

pub messages_of_runs : MessagesOfRuns
messages_of_runs d past conn n moves within is = messages_are_cut n moves
