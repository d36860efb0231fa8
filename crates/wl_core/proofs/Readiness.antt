-- A turn may be taken after each event.
use Rattle.std.proofs.Common.{◌≡◌, ℕ, zero, suc, ◌+◌, ◌≤◌, Bool, true, false, if◌then◌else◌, List, [], ◌∷◌, ◌++◌, length, Option, Some, None, Result, Ok, Err, slice_set, refl, sym, ap, subst, ◌∙◌, arith}
use Rattle.std.proofs.lemmas.List.{length-set}
use Rattle.h2_frame.specs.Reading.{End, reading_from}
use Rattle.h2_conn.specs.declared.fault.ConnFault.{ConnFault}
use Rattle.h2_conn.specs.declared.phase.Phase.{Phase}
use Rattle.workload_proto.specs.declared.message.JwtItem.{JwtItem}
use Rattle.wl_core.proofs.Common.{DocFault, State, Signed, JwtToken, Publication, Flight, after_claim, Stored, stored_after, Managed, JwtAsk, JwtOutcome, SessionState, Running, Fallen, OutOfMemory, asks_in, Event, Seat, outcome_told, Told, seat_at, joined_seat, named_seat, told_seat, feed_seat, turn_seat, IsReady, KeptTokens, tokens_of, kept_token, outcome_of, Moment, reading_of, after_reading, signed_with, failed_with, flight_in, answer_ask, token_seat, moment_after, Holds, WorksOn}
use Rattle.wl_snapshot.specs.Views.{ViewModel, view_in}
use Rattle.wl_snapshot.specs.Answers.{answer_of, asks_of}
use Rattle.wl_snapshot.specs.declared.answers.Answer.{Answer}
use Rattle.wl_snapshot.specs.declared.answers.Answer.TheVariants.{Denied, Wait, TooLong, Message}
use Rattle.wl_snapshot.specs.declared.answers.Method3.{Method3}
use Rattle.wl_snapshot.specs.declared.token_asks.Wanted.{Wanted}
use Rattle.wl_store.specs.Stores.{Store, shows, publish, next_publication}
use Rattle.wl_session.specs.declared.asks.JwtOutcome.TheVariants as outcomes
use Rattle.wl_session.specs.declared.served.CallKind.{CallKind}
use Rattle.wl_session.specs.declared.served.CallKind.TheVariants.{Stream, Tokens, Check, Watch}
use Rattle.wl_session.specs.declared.served.Stage.{Stage}
use Rattle.wl_session.specs.declared.served.Stage.TheVariants.{Unnamed, Ready, Asking}
use Rattle.wl_session.specs.declared.served.ServedCall.{ServedCall}
use Rattle.wl_session.specs.Kinds.{was_seen}
use Rattle.wl_session.specs.Answering.{Turned, goes_on, has_ended, stream_answer, token_answer, call_answer, stage_turn, call_turn, calls_turn}
use Rattle.wl_session.specs.Tokens.{change_first, is_asking, item_for, next_ask, give_call, give_on, give_first, first_unnamed}
use Rattle.wl_session.specs.Talks.{Talking, Said, written}
use Rattle.wl_session.specs.Sessions.{feed_said, turn_said, given_said, unnamed_in}
use Rattle.wl_session.specs.Settled.{MayFollow, MayTurn}
use Rattle.wl_core.specs.declared.events.Event.TheVariants as events
use Rattle.wl_session.specs.Steps.{fed_by, feed_told, turn_told, unnamed_count, HasMemory}
use Rattle.wl_core.specs.Seats.{with_session, AreReady}
use Rattle.wl_session.proofs.Attestations.{first_here, first_later, first_of_none, left_among, none_left, left_none, names_leave_none}

-- ---- no call is left without a name

left_front : (m : ℕ) (s : Stage) (xs ys : List ServedCall) → (left_among xs ≡ 0 → left_among (xs ++ ys) ≡ 0)
    → left_among (record { stream = m; stage = s } ∷ xs) ≡ 0 → left_among (record { stream = m; stage = s } ∷ (xs ++ ys)) ≡ 0
left_front m (Unnamed kind) xs ys rest is = absurd (omega (arith, is))
left_front m (Ready kind sel seen headed) xs ys rest is = rest is
left_front m (Asking first wanted got) xs ys rest is = rest is

left_append : (xs ys : List ServedCall) → left_among xs ≡ 0 → left_among ys ≡ 0 → left_among (xs ++ ys) ≡ 0
left_append [] ys none others = others
left_append (x ∷ xs) ys none others = left_front x.stream x.stage xs ys (λ is. left_append xs ys is others) none

stream_left : (n : ℕ) (method : Method3) (sel : List (List ℕ)) (v : ViewModel) (headed : Bool) (a : Answer) (p : Phase) → left_among (stream_answer n method sel v headed a p).kept ≡ 0
stream_left n method sel v headed Denied p = refl
stream_left n method sel v headed Wait p = refl
stream_left n method sel v headed (TooLong size) p = refl
stream_left n method sel v headed (Message m) p = refl

token_left : (n : ℕ) (headed : Bool) (audience : List (List ℕ)) (ws : List Wanted) (p : Phase) → left_among (token_answer n headed audience ws p).kept ≡ 0
token_left n headed audience [] p = refl
token_left n headed audience (w ∷ ws) p = refl

ended_left : (b : Bool) (p q : Phase) → left_among (if b then has_ended p else has_ended q).kept ≡ 0
ended_left true p q = refl
ended_left false p q = refl

answer_left : (n : ℕ) (kind : CallKind) (sel : List (List ℕ)) (headed : Bool) (v : ViewModel) (p : Phase) → left_among (call_answer n kind sel headed v p).kept ≡ 0
unfolding call_answer
answer_left n (Stream method) sel headed v p = stream_left n method sel v headed (answer_of method v) p
answer_left n (Tokens audience id) sel headed v p = token_left n headed audience (asks_of id v) p
answer_left n (Check service) sel headed v p = ended_left _ _ _
answer_left n (Watch service) sel headed v p = refl

new_left : (b : Bool) (n : ℕ) (kind : CallKind) (sel : List (List ℕ)) (seen : Option ViewModel) (headed : Bool) (v : ViewModel) (p : Phase)
    → left_among (if b then goes_on n (Ready kind sel seen headed) p else call_answer n kind sel headed v p).kept ≡ 0
new_left true n kind sel seen headed v p = refl
new_left false n kind sel seen headed v p = answer_left n kind sel headed v p

stage_left : (x : Publication) (n : ℕ) (s : Stage) (cs : List ServedCall) (p : Phase) → left_among (record { stream = n; stage = s } ∷ cs) ≡ 0
    → (left_among (stage_turn x n s p).kept ≡ 0) × (left_among cs ≡ 0)
stage_left x n (Unnamed kind) cs p is = absurd (omega (arith, is))
stage_left x n (Ready kind sel seen headed) cs p is = (new_left (was_seen seen (view_in x sel)) n kind sel seen headed (view_in x sel) p, is)
stage_left x n (Asking first wanted got) cs p is = (refl, is)

turn_left : (x : Publication) (cs : List ServedCall) (p : Phase) → left_among cs ≡ 0 → left_among (calls_turn x cs p).kept ≡ 0
unfolding calls_turn call_turn
turn_left x [] p is = refl
turn_left x (c ∷ cs) p is =
    let both = stage_left x c.stream c.stage cs p is in
    left_append (stage_turn x c.stream c.stage p).kept (calls_turn x cs (stage_turn x c.stream c.stage p).phase).kept both.0 (turn_left x cs (stage_turn x c.stream c.stage p).phase both.1)

turn_leaves_none : (x : Publication) (t : Talking) → first_unnamed t.served ≡ None → first_unnamed (turn_said x t).after.served ≡ None
unfolding turn_said written
turn_leaves_none x t is = left_none (calls_turn x t.served t.phase).kept (turn_left x t.served t.phase (none_left t.served is))

next_left : (n : ℕ) (audience : List (List ℕ)) (ws : List Wanted) (got : List JwtItem) (p : Phase) → left_among (next_ask n audience ws got p).kept ≡ 0
next_left n audience [] got p = ended_left _ _ _
next_left n audience (w ∷ ws) got p = refl

give_left : (n : ℕ) (first : JwtAsk) (rest : List Wanted) (got : List JwtItem) (o : JwtOutcome) (p : Phase) → left_among (give_call n first rest got o p).kept ≡ 0
unfolding give_call
give_left n first rest got (outcomes.Token t) p = next_left n first.audience rest (got ++ item_for first t ∷ []) p
give_left n first rest got outcomes.Failed p = refl
give_left n first rest got (outcomes.Unfit u) p = refl

given_go : (o : JwtOutcome) (n : ℕ) (s : Stage) (cs : List ServedCall) (p : Phase)
    → (left_among cs ≡ 0 → left_among (change_first is_asking (give_on o) cs p).kept ≡ 0)
    → left_among (record { stream = n; stage = s } ∷ cs) ≡ 0 → left_among (change_first is_asking (give_on o) (record { stream = n; stage = s } ∷ cs) p).kept ≡ 0
given_go o n (Unnamed kind) cs p rest is = absurd (omega (arith, is))
given_go o n (Ready kind sel seen headed) cs p rest is =
    ap (λ (t : Turned). left_among t.kept) (first_later is_asking (give_on o) (record { stream = n; stage = Ready kind sel seen headed }) cs p refl) ∙ rest is
given_go o n (Asking first wanted got) cs p rest is =
    ap (λ (t : Turned). left_among t.kept) (first_here is_asking (give_on o) (record { stream = n; stage = Asking first wanted got }) cs p refl)
    ∙ left_append (give_call n first wanted got o p).kept cs (give_left n first wanted got o p) is

given_left : (o : JwtOutcome) (cs : List ServedCall) (p : Phase) → left_among cs ≡ 0 → left_among (change_first is_asking (give_on o) cs p).kept ≡ 0
given_left o [] p is = ap (λ (t : Turned). left_among t.kept) (first_of_none is_asking (give_on o) p)
given_left o (c ∷ cs) p is = given_go o c.stream c.stage cs p (given_left o cs p) is

given_leaves_none : (o : JwtOutcome) (t : Talking) → first_unnamed t.served ≡ None → first_unnamed (given_said o t).after.served ≡ None
unfolding given_said written give_first
given_leaves_none o t is = left_none (give_first o t.served t.phase).kept (given_left o t.served t.phase (none_left t.served is))

-- ---- a session

abbrev IsReadyFor : Publication → SessionState → Type 0
IsReadyFor p s = MayTurn p s × (unnamed_in s ≡ None) × HasMemory s

fed_go : (p : Publication) (e : End) (shown : Option Publication) (caller : Option (List (List ℕ))) (said : Said) (f : Option ConnFault) → MayFollow p shown
    → IsReadyFor p (fed_by f e shown caller said).after
fed_go p e shown caller said None may = (may, names_leave_none (unnamed_count said.after) caller said.after refl, tt)
fed_go p e shown caller said (Some f) may = (tt, refl, tt)

fed_ready : (p : Publication) (piece : List ℕ) (caller : Option (List (List ℕ))) (s : SessionState) → IsReadyFor p s → IsReadyFor p (feed_told piece caller s).after
unfolding feed_told
fed_ready p piece caller (Running e t shown) ready =
    let said = feed_said (reading_from e piece) t in
    fed_go p (reading_from e piece).ending shown caller said said.fault ready.0
fed_ready p piece caller (Fallen f begun) ready = (tt, refl, tt)
fed_ready p piece caller OutOfMemory ready = absurd ready.2

turned_ready : (p : Publication) (s : SessionState) → IsReadyFor p s → IsReadyFor p (turn_told p s).after
unfolding turn_told
turned_ready p (Running e t shown) ready = ((omega arith, λ same. refl), turn_leaves_none p t ready.1, tt)
turned_ready p (Fallen f begun) ready = (tt, refl, tt)
turned_ready p OutOfMemory ready = absurd ready.2

outcome_ready : (p : Publication) (o : JwtOutcome) (s : SessionState) → IsReadyFor p s → IsReadyFor p (outcome_told o s).after
unfolding outcome_told
outcome_ready p o (Running e t shown) ready = (ready.0, given_leaves_none o t ready.1, tt)
outcome_ready p o (Fallen f begun) ready = (tt, refl, tt)
outcome_ready p o OutOfMemory ready = absurd ready.2

-- ---- another publication

follow_go : (p q : Publication) (shown : Option Publication) (b : Bool) → q.number ≡ p.number + 1 → MayFollow p shown → MayFollow (if b then p else q) shown
follow_go p q shown true next may = may
follow_go p q None false next may = tt
follow_go p q (Some last) false next may = (omega (arith, may.0, next), λ same. absurd (omega (arith, may.0, next, same)))

may_next : (p : Publication) (kept : Store) (s : SessionState) → MayTurn p s → MayTurn (next_publication p kept) s
may_next p kept (Running e t shown) may = follow_go p (publish (p.number + 1) p.domain kept) shown (shows p kept) refl may
may_next p kept (Fallen f begun) may = tt
may_next p kept OutOfMemory may = tt

ready_next : (p : Publication) (kept : Store) (o : Option Seat) → IsReady p o → IsReady (next_publication p kept) o
ready_next p kept None ready = tt
ready_next p kept (Some seat) ready = (may_next p kept seat.session ready.0, ready.1, ready.2)

stored_ready : (kept : Store) (m : Stored) (seats : List (Option Seat)) → AreReady m.published seats → AreReady (stored_after kept m).published seats
stored_ready kept m seats ready conn = ready_next m.published kept (seat_at seats conn) (ready conn)

reading_ready : (r : Result State DocFault) (m : Stored) (seats : List (Option Seat)) → AreReady m.published seats → AreReady (after_reading r m).published seats
reading_ready (Ok d) m seats ready = stored_ready _ m seats ready
reading_ready (Err fault) m seats ready = ready

signed_ready : (f : Option Flight) (n : ℕ) (g : Signed) (now : ℕ) (m : Stored) (seats : List (Option Seat)) → AreReady m.published seats → AreReady (signed_with f n g now m).published seats
signed_ready None n g now m seats ready = ready
signed_ready (Some f) n g now m seats ready = stored_ready _ m seats ready

failed_ready : (f : Option Flight) (n : ℕ) (m : Stored) (seats : List (Option Seat)) → AreReady m.published seats → AreReady (failed_with f n m).published seats
failed_ready None n m seats ready = ready
failed_ready (Some f) n m seats ready = ready

-- ---- another seat

set_ready : (p : Publication) (seats : List (Option Seat)) (conn : ℕ) (o : Option Seat) → AreReady p seats → IsReady p o → AreReady p (slice_set seats conn o)
set_ready p [] conn o ready is c = ready c
set_ready p (s ∷ ss) zero o ready is zero = is
set_ready p (s ∷ ss) zero o ready is (suc c) = ready (suc c)
set_ready p (s ∷ ss) (suc conn) o ready is zero = ready zero
set_ready p (s ∷ ss) (suc conn) o ready is (suc c) = set_ready p ss conn o (λ k. ready (suc k)) is c

joined_ready : (p : Publication) (selectors : List (List ℕ)) (o : Option Seat) → IsReady p o → IsReady p (joined_seat selectors o)
joined_ready p selectors None ready = (tt, refl, tt)
joined_ready p selectors (Some seat) ready = ready

named_ready : (p : Publication) (caller : Option (List (List ℕ))) (o : Option Seat) → IsReady p o → IsReady p (named_seat caller o)
named_ready p caller None ready = tt
named_ready p caller (Some seat) ready = ready

told_ready : (p : Publication) (tell : Seat → Told) (o : Option Seat) → ((seat : Seat) → IsReady p (Some seat) → IsReady p (Some (with_session (tell seat).after seat))) → IsReady p o → IsReady p (told_seat tell o)
told_ready p tell None keeps ready = tt
told_ready p tell (Some seat) keeps ready = keeps seat ready

ask_ready : (p : Publication) (kept : KeptTokens) (now : ℕ) (given : Option JwtToken) (seat : Seat) (o : Option JwtAsk) → IsReady p (Some seat)
    → IsReady p (Some (with_session (answer_ask kept now given seat o).after seat))
ask_ready p kept now given seat None ready = ready
ask_ready p kept now given seat (Some a) ready = outcome_ready p (outcome_of (kept_token kept a now) given now) seat.session ready

-- ---- an event

pub ready_after : (e : Event) (m : Moment) → AreReady m.stored.published m.seats → AreReady (moment_after e m).stored.published (moment_after e m).seats
unfolding moment_after
ready_after (events.Sync document) m ready = reading_ready (reading_of document m.stored) m.stored m.seats ready
ready_after (events.Claim now) m ready = stored_ready (after_claim now m.stored.store) m.stored m.seats ready
ready_after (events.Signed ticket signed now) m ready = signed_ready (flight_in ticket m.stored) ticket signed now m.stored m.seats ready
ready_after (events.Failed ticket) m ready = failed_ready (flight_in ticket m.stored) ticket m.stored m.seats ready
ready_after (events.Join conn selectors) m ready =
    let p = m.stored.published in
    set_ready p m.seats conn (joined_seat selectors (seat_at m.seats conn)) ready (joined_ready p selectors (seat_at m.seats conn) (ready conn))
ready_after (events.Name conn caller) m ready =
    let p = m.stored.published in
    set_ready p m.seats conn (named_seat caller (seat_at m.seats conn)) ready (named_ready p caller (seat_at m.seats conn) (ready conn))
ready_after (events.Feed conn piece) m ready =
    let p = m.stored.published in
    let o = seat_at m.seats conn in
    set_ready p m.seats conn (told_seat (feed_seat piece) o) ready (told_ready p (feed_seat piece) o (λ seat is. fed_ready p piece seat.caller seat.session is) (ready conn))
ready_after (events.Turn conn) m ready =
    let p = m.stored.published in
    let o = seat_at m.seats conn in
    set_ready p m.seats conn (told_seat (turn_seat p) o) ready (told_ready p (turn_seat p) o (λ seat is. turned_ready p seat.session is) (ready conn))
ready_after (events.Token conn now given) m ready =
    let p = m.stored.published in
    let o = seat_at m.seats conn in
    let tell = token_seat (tokens_of m.stored m.history) now given in
    set_ready p m.seats conn (told_seat tell o) ready (told_ready p tell o (λ seat is. ask_ready p (tokens_of m.stored m.history) now given seat (asks_in seat.session) is) (ready conn))
ready_after (events.Close conn) m ready = set_ready m.stored.published m.seats conn None ready tt

pub room_after : (e : Event) (m : Moment) → length (moment_after e m).seats ≡ length m.seats
unfolding moment_after
room_after (events.Sync document) m = refl
room_after (events.Claim now) m = refl
room_after (events.Signed ticket signed now) m = refl
room_after (events.Failed ticket) m = refl
room_after (events.Join conn selectors) m = length-set m.seats conn _
room_after (events.Name conn caller) m = length-set m.seats conn _
room_after (events.Feed conn piece) m = length-set m.seats conn _
room_after (events.Turn conn) m = length-set m.seats conn _
room_after (events.Token conn now given) m = length-set m.seats conn _
room_after (events.Close conn) m = length-set m.seats conn _

-- a world that works goes on working
pub works_after : (e : Event) (managed new : Managed) (seats others : List (Option Seat)) (begun later : ℕ) → begun ≤ 18446744073709551615 → WorksOn managed seats
    → ((m : Moment) → Holds managed seats begun m → Holds new others later (moment_after e m)) → WorksOn new others
works_after e managed new seats others begun later fits works holds =
    let m : Moment = record { stored = managed.stored; history = works.tokens.0; seats = seats; begun_before = begun } in
    let h : Holds new others later (moment_after e m) = holds m (record { stored = refl; tokens = works.tokens.1; seats = refl; begun_before = omega arith }) in
    let ready : AreReady (moment_after e m).stored.published (moment_after e m).seats = ready_after e m works.ready in
    record {
      room = ap (λ (s : List (Option Seat)). length s) h.seats ∙ (room_after e m ∙ works.room);
      tokens = ((moment_after e m).history, h.tokens);
      ready = subst (λ (s : Stored). AreReady s.published others) (sym h.stored)
          (subst (λ (s : List (Option Seat)). AreReady (moment_after e m).stored.published s) (sym h.seats) ready);
    }
