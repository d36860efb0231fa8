-- Each session follows its trace, and was written the talk over it.
use Rattle.std.proofs.Common.{◌≡◌, ◌≢◌, ℕ, ◌==◌, ◌<◌, Bool, true, false, if◌then◌else◌, List, [], ◌∷◌, ◌++◌, length, Option, Some, None, slice_set, refl, sym, ap, subst, ◌∙◌, arith, inl}
use Rattle.std.proofs.lemmas.List.{append-nil, length-replicate, get_or-replicate, get_or-set_same, get_or-set_other}
use Rattle.std.proofs.lemmas.Bool.{eqb-true}
use Rattle.std.proofs.lemmas.Bool.Decides.{nat_tests}
use Rattle.wl_core.proofs.Common.{JwtToken, JwtAsk, SessionState, Running, Fallen, OutOfMemory, fresh_session, asks_in, failure_in, CONNS, Event, Line, Seat, Told, seat_at, joined_seat, named_seat, told_seat, feed_seat, turn_seat, KeptTokens, tokens_of, kept_token, outcome_of, Moment, moment_after, reading_of, flight_in, answer_ask, token_seat, with_told, after_claim, stored_after, lines_at, join_lines, told_lines, token_lines}
use Rattle.wl_session.proofs.SessionFacts.{settled_fresh}
use Rattle.wl_core.specs.declared.events.Event.TheVariants as events
use Rattle.wl_core.specs.Moments.{Beginning, moment, after_document, seat}
use Rattle.wl_store.specs.Stores.{asks_to_claim, flights_from}
use Rattle.wl_core.specs.Lines.{transcript, ask_lines}
use Rattle.wl_session.specs.Items.{Item, items_said, talk, feed_items, turn_items}
use Rattle.wl_core.specs.Traces.{ask_items, gain, joined_trace, trace_after, trace, told_from, told_to}
use Rattle.wl_core.proofs.Readiness.{room_after}
use Rattle.wl_session.proofs.Traces.{Follows, FollowsOn, stays, feed_follows, turn_follows, outcome_follows}
use Rattle.wl_core.proofs.Transcripts.{told_append, reading_tell, claim_tell, identity_tell, no_identity_tell, name_tell, close_tell, idle_tell, session_here, session_elsewhere}

-- a session, its trace, and what was written to it
abbrev pub Along : Option Seat → Option (List Item) → List ℕ → Type 0
Along None None bytes = Unit {0}
Along (Some seat) (Some items) bytes = Follows seat.session items × (bytes ≡ talk items)
Along None (Some items) bytes = ⊥
Along (Some seat) None bytes = ⊥

pub other_conn : (k conn : ℕ) → (k == conn) ≡ false → conn ≢ k
other_conn k conn is = grind (arith, nat_tests, is)

set_here : (seats : List (Option Seat)) (k conn : ℕ) (o : Option Seat) → k ≡ conn → conn < length seats → seat_at (slice_set seats k o) conn ≡ o
set_here seats k conn o is within = ap (λ (n : ℕ). seat_at (slice_set seats n o) conn) is ∙ get_or-set_same seats conn o None within

set_there : (seats : List (Option Seat)) (k conn : ℕ) (o : Option Seat) → (k == conn) ≡ false → seat_at (slice_set seats k o) conn ≡ seat_at seats conn
set_there seats k conn o is = get_or-set_other seats k conn o None (other_conn k conn is)

-- ---- a session does what it is to do

told_here : (conn : ℕ) (before : List ℕ) (tell : Seat → Told) (more : Seat → List Item → List Item) (say : Option Seat → List Line)
    → ((seat : Seat) → told_from conn before (say (Some seat)) ≡ before ++ (tell seat).bytes)
    → ((seat : Seat) (items : List Item) → Follows seat.session items → FollowsOn (tell seat) items (more seat items))
    → (o : Option Seat) (tr : Option (List Item)) → Along o tr before → Along (told_seat tell o) (gain more o tr) (told_from conn before (say o))
told_here conn before tell more say says follows None None along = tt
told_here conn before tell more say says follows None (Some items) along = absurd along
told_here conn before tell more say says follows (Some s) None along = absurd along
told_here conn before tell more say says follows (Some s) (Some items) along =
    let on = follows s items along.0 in
    (on.follows, says s ∙ (ap (λ (bytes : List ℕ). bytes ++ (tell s).bytes) along.1 ∙ sym on.bytes))

silent_there : (conn : ℕ) (before : List ℕ) (say : Option Seat → List Line) → (told_from conn before (say None) ≡ before) → ((seat : Seat) → told_from conn before (say (Some seat)) ≡ before)
    → (o : Option Seat) → told_from conn before (say o) ≡ before
silent_there conn before say none some None = none
silent_there conn before say none some (Some s) = some s

told_along : (conn k : ℕ) (before : List ℕ) (tell : Seat → Told) (more : Seat → List Item → List Item) (say : Option Seat → List Line) (seats : List (Option Seat)) (tr : Option (List Item)) (b : Bool)
    → (k == conn) ≡ b → conn < length seats
    → ((k == conn) ≡ true → (seat : Seat) → told_from conn before (say (Some seat)) ≡ before ++ (tell seat).bytes)
    → (told_from conn before (say None) ≡ before)
    → ((k == conn) ≡ false → (seat : Seat) → told_from conn before (say (Some seat)) ≡ before)
    → ((seat : Seat) (items : List Item) → Follows seat.session items → FollowsOn (tell seat) items (more seat items))
    → Along (seat_at seats conn) tr before
    → Along (seat_at (with_told k tell seats) conn) (if b then gain more (seat_at seats conn) tr else tr) (told_from conn before (say (seat_at seats k)))
told_along conn k before tell more say seats tr true is within here none there follows along =
    let same = eqb-true k conn is in
    let now : seat_at (with_told k tell seats) conn ≡ told_seat tell (seat_at seats conn) =
    set_here seats k conn (told_seat tell (seat_at seats k)) same within ∙ ap (λ (n : ℕ). told_seat tell (seat_at seats n)) same in
    let said : told_from conn before (say (seat_at seats k)) ≡ told_from conn before (say (seat_at seats conn)) = ap (λ (n : ℕ). told_from conn before (say (seat_at seats n))) same in
    subst (λ (o : Option Seat). Along o (gain more (seat_at seats conn) tr) (told_from conn before (say (seat_at seats k)))) (sym now)
    (subst (λ (bytes : List ℕ). Along (told_seat tell (seat_at seats conn)) (gain more (seat_at seats conn) tr) bytes) (sym said)
    (told_here conn before tell more say (here is) follows (seat_at seats conn) tr along))
told_along conn k before tell more say seats tr false is within here none there follows along =
    subst (λ (o : Option Seat). Along o tr (told_from conn before (say (seat_at seats k)))) (sym (set_there seats k conn (told_seat tell (seat_at seats k)) is))
    (subst (λ (bytes : List ℕ). Along (seat_at seats conn) tr bytes) (sym (silent_there conn before say none (there is) (seat_at seats k))) along)

-- ---- a token

ask_follows : (kept : KeptTokens) (now : ℕ) (given : Option JwtToken) (caller : Option (List (List ℕ))) (e : SessionState) (o : Option JwtAsk) (items : List Item) → asks_in e ≡ o → Follows e items
    → FollowsOn (answer_ask kept now given (record { caller = caller; session = e }) o) items (ask_items kept now given o)
ask_follows kept now given caller e None items is follows = stays e items follows
ask_follows kept now given caller (Running e t shown) (Some a) items is follows = outcome_follows (outcome_of (kept_token kept a now) given now) e t shown items follows
ask_follows kept now given caller (Fallen fault begun) (Some a) items is follows = absurd (cc is)
ask_follows kept now given caller OutOfMemory (Some a) items is follows = absurd (cc is)

ask_here : (conn : ℕ) (before : List ℕ) (k : ℕ) (kept : KeptTokens) (now : ℕ) (given : Option JwtToken) (seat : Seat) (o : Option JwtAsk) → (k == conn) ≡ true
    → told_from conn before (ask_lines k seat.session o (answer_ask kept now given seat o)) ≡ before ++ (answer_ask kept now given seat o).bytes
ask_here conn before k kept now given seat None is = idle_tell conn before k (failure_in seat.session) ∙ sym (append-nil before)
ask_here conn before k kept now given seat (Some a) is = session_here conn before k (answer_ask kept now given seat (Some a)) is

ask_there : (conn : ℕ) (before : List ℕ) (k : ℕ) (kept : KeptTokens) (now : ℕ) (given : Option JwtToken) (seat : Seat) (o : Option JwtAsk) → (k == conn) ≡ false
    → told_from conn before (ask_lines k seat.session o (answer_ask kept now given seat o)) ≡ before
ask_there conn before k kept now given seat None is = idle_tell conn before k (failure_in seat.session)
ask_there conn before k kept now given seat (Some a) is = session_elsewhere conn before k (answer_ask kept now given seat (Some a)) is

-- ---- Join, Name, Close

fresh_follows : Follows fresh_session []
unfolding items_said
fresh_follows = (refl, record { settled = settled_fresh; greeted = inl (refl, refl) })

nothing_talked : talk [] ≡ []
unfolding items_said
nothing_talked = refl

join_here : (conn k : ℕ) (before : List ℕ) (selectors : List (List ℕ)) (o : Option Seat) (tr : Option (List Item)) → (k == conn) ≡ true → Along o tr before
    → Along (joined_seat selectors o) (joined_trace tr) (told_from conn before (join_lines k o))
join_here conn k before selectors None None is along = (fresh_follows, rw is (sym nothing_talked))
join_here conn k before selectors None (Some items) is along = absurd along
join_here conn k before selectors (Some s) None is along = absurd along
join_here conn k before selectors (Some s) (Some items) is along = along

join_there : (conn k : ℕ) (before : List ℕ) (o : Option Seat) → (k == conn) ≡ false → told_from conn before (join_lines k o) ≡ before
join_there conn k before None is = rw is refl
join_there conn k before (Some s) is = refl

join_along : (conn k : ℕ) (before : List ℕ) (selectors : List (List ℕ)) (seats : List (Option Seat)) (tr : Option (List Item)) (b : Bool) → (k == conn) ≡ b → conn < length seats
    → Along (seat_at seats conn) tr before
    → Along (seat_at (slice_set seats k (joined_seat selectors (seat_at seats k))) conn) (if b then joined_trace tr else tr) (told_from conn before (join_lines k (seat_at seats k)))
join_along conn k before selectors seats tr true is within along =
    let same = eqb-true k conn is in
    let now : seat_at (slice_set seats k (joined_seat selectors (seat_at seats k))) conn ≡ joined_seat selectors (seat_at seats conn) =
    set_here seats k conn (joined_seat selectors (seat_at seats k)) same within ∙ ap (λ (n : ℕ). joined_seat selectors (seat_at seats n)) same in
    let said : told_from conn before (join_lines k (seat_at seats k)) ≡ told_from conn before (join_lines k (seat_at seats conn)) = ap (λ (n : ℕ). told_from conn before (join_lines k (seat_at seats n))) same in
    subst (λ (o : Option Seat). Along o (joined_trace tr) (told_from conn before (join_lines k (seat_at seats k)))) (sym now)
    (subst (λ (bytes : List ℕ). Along (joined_seat selectors (seat_at seats conn)) (joined_trace tr) bytes) (sym said)
    (join_here conn k before selectors (seat_at seats conn) tr is along))
join_along conn k before selectors seats tr false is within along =
    subst (λ (o : Option Seat). Along o tr (told_from conn before (join_lines k (seat_at seats k)))) (sym (set_there seats k conn (joined_seat selectors (seat_at seats k)) is))
    (subst (λ (bytes : List ℕ). Along (seat_at seats conn) tr bytes) (sym (join_there conn k before (seat_at seats k) is)) along)

named_here : (caller : Option (List (List ℕ))) (o : Option Seat) (tr : Option (List Item)) (before : List ℕ) → Along o tr before → Along (named_seat caller o) tr before
named_here caller None None before along = tt
named_here caller None (Some items) before along = along
named_here caller (Some s) None before along = along
named_here caller (Some s) (Some items) before along = along

name_along : (conn k : ℕ) (before : List ℕ) (caller : Option (List (List ℕ))) (seats : List (Option Seat)) (tr : Option (List Item)) (b : Bool) → (k == conn) ≡ b → conn < length seats
    → Along (seat_at seats conn) tr before → Along (seat_at (slice_set seats k (named_seat caller (seat_at seats k))) conn) tr before
name_along conn k before caller seats tr true is within along =
    let same = eqb-true k conn is in
    let now : seat_at (slice_set seats k (named_seat caller (seat_at seats k))) conn ≡ named_seat caller (seat_at seats conn) =
    set_here seats k conn (named_seat caller (seat_at seats k)) same within ∙ ap (λ (n : ℕ). named_seat caller (seat_at seats n)) same in
    subst (λ (o : Option Seat). Along o tr before) (sym now) (named_here caller (seat_at seats conn) tr before along)
name_along conn k before caller seats tr false is within along =
    subst (λ (o : Option Seat). Along o tr before) (sym (set_there seats k conn (named_seat caller (seat_at seats k)) is)) along

close_along : (conn k : ℕ) (before : List ℕ) (seats : List (Option Seat)) (tr : Option (List Item)) (b : Bool) → (k == conn) ≡ b → conn < length seats
    → Along (seat_at seats conn) tr before → Along (seat_at (slice_set seats k None) conn) (if b then None else tr) before
close_along conn k before seats tr true is within along =
    subst (λ (o : Option Seat). Along o None before) (sym (set_here seats k conn None (eqb-true k conn is) within)) tt
close_along conn k before seats tr false is within along =
    subst (λ (o : Option Seat). Along o tr before) (sym (set_there seats k conn None is)) along

-- ---- an event

-- what is reported doesn't depend on how it is said
telling : (o : Option Seat) (tr : Option (List Item)) (before now : List ℕ) → now ≡ before → Along o tr before → Along o tr now
telling o tr before now is along = subst (λ (bytes : List ℕ). Along o tr bytes) (sym is) along

along_after : (e : Event) (conn : ℕ) (m : Moment) (tr : Option (List Item)) (before : List ℕ) → conn < length m.seats → Along (seat_at m.seats conn) tr before
    → Along (seat_at (moment_after e m).seats conn) (trace_after e conn m tr) (told_from conn before (lines_at e m))
unfolding moment_after lines_at
along_after (events.Sync document) conn m tr before within along = telling (seat_at m.seats conn) tr before _ (reading_tell conn before (reading_of document m.stored) m.stored.published (after_document document m.stored).published) along
along_after (events.Claim now) conn m tr before within along = telling (seat_at m.seats conn) tr before _ (claim_tell conn before m.stored.published (stored_after (after_claim now m.stored.store) m.stored).published
    (flights_from m.stored.store.last_ticket (asks_to_claim now m.stored.store))) along
along_after (events.Signed ticket signed now) conn m tr before within along = telling (seat_at m.seats conn) tr before _ (identity_tell conn before (flight_in ticket m.stored) ticket signed now m.stored) along
along_after (events.Failed ticket) conn m tr before within along = telling (seat_at m.seats conn) tr before _ (no_identity_tell conn before (flight_in ticket m.stored)) along
along_after (events.Join k selectors) conn m tr before within along = join_along conn k before selectors m.seats tr (k == conn) refl within along
along_after (events.Name k caller) conn m tr before within along =
    telling (seat_at (slice_set m.seats k (named_seat caller (seat_at m.seats k))) conn) tr before _ (name_tell conn before k caller (seat_at m.seats k))
    (name_along conn k before caller m.seats tr (k == conn) refl within along)
along_after (events.Feed k piece) conn m tr before within along =
    told_along conn k before (feed_seat piece) (λ s items. feed_items piece s.caller s.session) (told_lines k (feed_seat piece)) m.seats tr (k == conn) refl within
    (λ is s. session_here conn before k (feed_seat piece s) is) refl (λ is s. session_elsewhere conn before k (feed_seat piece s) is)
    (λ s items follows. feed_follows piece s.caller s.session items follows) along
along_after (events.Turn k) conn m tr before within along =
    let p = m.stored.published in
    told_along conn k before (turn_seat p) (λ s items. turn_items p s.session items) (told_lines k (turn_seat p)) m.seats tr (k == conn) refl within
    (λ is s. session_here conn before k (turn_seat p s) is) refl (λ is s. session_elsewhere conn before k (turn_seat p s) is)
    (λ s items follows. turn_follows p s.session items follows) along
along_after (events.Token k now given) conn m tr before within along =
    let tell = token_seat (tokens_of m.stored m.history) now given in
    told_along conn k before tell (λ s items. ask_items (tokens_of m.stored m.history) now given (asks_in s.session)) (token_lines k tell) m.seats tr (k == conn) refl within
    (λ is s. ask_here conn before k (tokens_of m.stored m.history) now given s (asks_in s.session) is) refl (λ is s. ask_there conn before k (tokens_of m.stored m.history) now given s (asks_in s.session) is)
    (λ s items follows. ask_follows (tokens_of m.stored m.history) now given s.caller s.session (asks_in s.session) items refl follows) along
along_after (events.Close k) conn m tr before within along =
    telling (seat_at (slice_set m.seats k None) conn) (trace_after (events.Close k) conn m tr) before _ (close_tell conn before k (seat_at m.seats k))
    (close_along conn k before m.seats tr (k == conn) refl within along)

pub room : (d : Beginning) (past : List Event) → length (moment d past).seats ≡ CONNS
room d [] = let none : Option Seat = None in length-replicate CONNS none
room d (e ∷ past) = room_after e (moment d past) ∙ room d past

pub along : (d : Beginning) (past : List Event) (conn : ℕ) → conn < CONNS → Along (seat d past conn) (trace d past conn) (told_to conn (transcript d past))
along d [] conn within = subst (λ (o : Option Seat). Along o None []) (sym (get_or-replicate CONNS conn None None within)) tt
along d (e ∷ past) conn within =
    subst (λ (bytes : List ℕ). Along (seat d (e ∷ past) conn) (trace d (e ∷ past) conn) bytes) (sym (told_append conn [] (transcript d past) (lines_at e (moment d past))))
    (along_after e conn (moment d past) (trace d past conn) (told_to conn (transcript d past)) (subst (λ (n : ℕ). conn < n) (sym (room d past)) within) (along d past conn within))

bytes_by : (o : Option Seat) (tr : Option (List Item)) (bytes : List ℕ) (items : List Item) → Along o tr bytes → tr ≡ Some items → bytes ≡ talk items
bytes_by None None bytes items along is = absurd (cc is)
bytes_by None (Some other) bytes items along is = absurd along
bytes_by (Some seat) None bytes items along is = absurd along
bytes_by (Some seat) (Some other) bytes items along is = along.1 ∙ ap talk (option_is other items is)
  where
    option_is : (a b : List Item) → Some a ≡ Some b → a ≡ b
    option_is a b same = cc same

pub bytes_of_trace : (d : Beginning) (past : List Event) (conn : ℕ) (items : List Item) → conn < CONNS → trace d past conn ≡ Some items → told_to conn (transcript d past) ≡ talk items
bytes_of_trace d past conn items within is = bytes_by (seat d past conn) (trace d past conn) (told_to conn (transcript d past)) items (along d past conn within) is

pub equal_bytes : (d other : Beginning) (past later : List Event) (conn conn2 : ℕ) (items : List Item) → conn < CONNS → conn2 < CONNS → trace d past conn ≡ Some items → trace other later conn2 ≡ Some items
    → told_to conn (transcript d past) ≡ told_to conn2 (transcript other later)
equal_bytes d other past later conn conn2 items within within2 is is2 = bytes_of_trace d past conn items within is ∙ sym (bytes_of_trace other later conn2 items within2 is2)
