-- Sessions that are the same except for what they were shown.
use Rattle.std.proofs.Common.{◌≡◌, ℕ, ◌==◌, ◌≤◌, Bool, true, false, if◌then◌else◌, List, [], ◌∷◌, ◌++◌, Option, Some, None, refl, sym, ap, subst, ◌∙◌}
use Rattle.std.proofs.lemmas.List.{get_or_past}
use Rattle.wl_secrets.proofs.Common.{JwtToken, Publication, JwtAsk, SessionState, asks_in, outcome_told, Item, feed_items, CONNS, Event, Seat, joined_seat, named_seat, told_seat, feed_seat, turn_seat, tokens_of, kept_token, Beginning, Moment, moment, token_seat, ask_of_seat, seat, seat_step}
use Rattle.wl_session.specs.Steps.{Told}
use Rattle.wl_session.specs.Items.{OutcomeItem, turn_items}
use Rattle.wl_core.specs.declared.events.Event.TheVariants as events
use Rattle.wl_core.specs.Seats.{seat_at, with_session}
use Rattle.wl_core.specs.Tokens.{KeptTokens, outcome_of}
use Rattle.wl_core.specs.Moments.{answer_ask}
use Rattle.wl_core.specs.Traces.{ask_items, gain, joined_trace, trace_after}
use Rattle.wl_core.proofs.SessionTraces.{room}
use Rattle.wl_secrets.proofs.Calls.{Bounds, SessionOn}
use Rattle.wl_secrets.proofs.ViewDependence.{unshown, feed_unshown, fed_items_unshown, turn_unshown, turn_items_unshown, outcome_unshown, asks_unshown, unshown_twice, ShowsAlike, turn_same, turn_items_same}

-- beyond the last connection there is no session
pub vacant : (d : Beginning) (past : List Event) (conn : ℕ) → CONNS ≤ conn → seat d past conn ≡ None
vacant d past conn beyond = get_or_past (moment d past).seats conn None (subst (λ (n : ℕ). n ≤ conn) (sym (room d past)) beyond)

-- ---- except for what they were shown

abbrev pub bare_seat : Seat → Seat
bare_seat s = record { caller = s.caller; session = unshown s.session }

abbrev pub bare : Option Seat → Option Seat
bare None = None
bare (Some s) = Some (bare_seat s)

told_bare : (tell : Seat → Told) → ((s : Seat) → unshown (tell s).after ≡ unshown (tell (bare_seat s)).after) → (o : Option Seat) → bare (told_seat tell o) ≡ bare (told_seat tell (bare o))
told_bare tell is None = refl
told_bare tell is (Some s) = ap (λ (e : SessionState). Some (record { caller = s.caller; session = e })) (is s)

pub told_alike : (tell : Seat → Told) → ((s : Seat) → unshown (tell s).after ≡ unshown (tell (bare_seat s)).after) → (o p : Option Seat) → bare o ≡ bare p → bare (told_seat tell o) ≡ bare (told_seat tell p)
told_alike tell is o p same = told_bare tell is o ∙ (ap (λ (q : Option Seat). bare (told_seat tell q)) same ∙ sym (told_bare tell is p))

gain_bare : (more : Seat → List Item → List Item) → ((s : Seat) (items : List Item) → more s items ≡ more (bare_seat s) items) → (o : Option Seat) (tr : Option (List Item)) → gain more o tr ≡ gain more (bare o) tr
gain_bare more is None tr = refl
gain_bare more is (Some s) None = refl
gain_bare more is (Some s) (Some items) = ap (λ (xs : List Item). Some (items ++ xs)) (is s items)

pub gain_alike : (more : Seat → List Item → List Item) → ((s : Seat) (items : List Item) → more s items ≡ more (bare_seat s) items) → (o p : Option Seat) (tr ts : Option (List Item)) → bare o ≡ bare p → tr ≡ ts → gain more o tr ≡ gain more p ts
gain_alike more is o p tr ts same also = gain_bare more is o tr ∙ ((λ i. gain more (same i) (also i)) ∙ sym (gain_bare more is p ts))

ask_told : (h : KeptTokens) (now : ℕ) (given : Option JwtToken) (s : Seat) (o : Option JwtAsk) → unshown (answer_ask h now given s o).after ≡ unshown (answer_ask h now given (bare_seat s) o).after
ask_told h now given s None = sym (unshown_twice s.session)
ask_told h now given s (Some a) = outcome_unshown (outcome_of (kept_token h a now) given now) s.session

token_bare : (h : KeptTokens) (now : ℕ) (given : Option JwtToken) (s : Seat) → unshown (token_seat h now given s).after ≡ unshown (token_seat h now given (bare_seat s)).after
token_bare h now given s =
    ask_told h now given s (asks_in s.session) ∙ ap (λ (o : Option JwtAsk). unshown (answer_ask h now given (bare_seat s) o).after) (asks_unshown s.session)

-- the same ask waits
pub ask_alike : (o p : Option Seat) → bare o ≡ bare p → ask_of_seat o ≡ ask_of_seat p
ask_alike o p same = ask_bare o ∙ (ap ask_of_seat same ∙ sym (ask_bare p))
  where
    ask_bare : (o : Option Seat) → ask_of_seat o ≡ ask_of_seat (bare o)
    ask_bare None = refl
    ask_bare (Some s) = asks_unshown s.session

-- ---- an event on both

-- what the moments m and n make of one session is the same
pub record Near (m n : Moment) (o : Option Seat) : Type 0 where
  pub turn : bare (told_seat (turn_seat m.stored.published) o) ≡ bare (told_seat (turn_seat n.stored.published) o)
  pub turn_items : (tr : Option (List Item)) → gain (λ s before. turn_items m.stored.published s.session before) o tr ≡ gain (λ s before. turn_items n.stored.published s.session before) o tr
  pub token : (now : ℕ) (given : Option JwtToken) → bare (told_seat (token_seat (tokens_of m.stored m.history) now given) o) ≡ bare (told_seat (token_seat (tokens_of n.stored n.history) now given) o)
  pub token_items : (now : ℕ) (given : Option JwtToken) (tr : Option (List Item)) → gain (λ s before. ask_items (tokens_of m.stored m.history) now given (asks_in s.session)) o tr ≡ gain (λ s before. ask_items (tokens_of n.stored n.history) now given (asks_in s.session)) o tr

either : {X : Type 0} (b : Bool) (x y z w : X) → x ≡ y → z ≡ w → (if b then x else z) ≡ (if b then y else w)
either true x y z w one two = one
either false x y z w one two = two

pick : (b : Bool) (x y z w : Option Seat) → bare x ≡ bare y → bare z ≡ bare w → bare (if b then x else z) ≡ bare (if b then y else w)
pick true x y z w one two = one
pick false x y z w one two = two

join_bare : (selectors : List (List ℕ)) (o : Option Seat) → bare (joined_seat selectors o) ≡ joined_seat selectors (bare o)
join_bare selectors None = refl
join_bare selectors (Some s) = refl

name_bare : (caller : Option (List (List ℕ))) (o : Option Seat) → bare (named_seat caller o) ≡ named_seat caller (bare o)
name_bare caller None = refl
name_bare caller (Some s) = refl

pub step_alike : (e : Event) (conn : ℕ) (m n : Moment) (o p : Option Seat) → Near m n o → bare o ≡ bare p → bare (seat_step e conn m o) ≡ bare (seat_step e conn n p)
step_alike (events.Sync document) conn m n o p near same = same
step_alike (events.Claim now) conn m n o p near same = same
step_alike (events.Signed ticket signed now) conn m n o p near same = same
step_alike (events.Failed ticket) conn m n o p near same = same
step_alike (events.Join k selectors) conn m n o p near same =
    pick (k == conn) (joined_seat selectors o) (joined_seat selectors p) o p (join_bare selectors o ∙ (ap (joined_seat selectors) same ∙ sym (join_bare selectors p))) same
step_alike (events.Name k caller) conn m n o p near same =
    pick (k == conn) (named_seat caller o) (named_seat caller p) o p (name_bare caller o ∙ (ap (named_seat caller) same ∙ sym (name_bare caller p))) same
step_alike (events.Feed k piece) conn m n o p near same =
    pick (k == conn) (told_seat (feed_seat piece) o) (told_seat (feed_seat piece) p) o p (told_alike (feed_seat piece) (λ s. feed_unshown piece s.caller s.session) o p same) same
step_alike (events.Turn k) conn m n o p near same =
    let x = n.stored.published in
    pick (k == conn) (told_seat (turn_seat m.stored.published) o) (told_seat (turn_seat x) p) o p (near.turn ∙ told_alike (turn_seat x) (λ s. turn_unshown x s.session) o p same) same
step_alike (events.Token k now given) conn m n o p near same =
    pick (k == conn) (told_seat (token_seat (tokens_of m.stored m.history) now given) o) (told_seat (token_seat (tokens_of n.stored n.history) now given) p) o p
    (near.token now given ∙ told_alike (token_seat (tokens_of n.stored n.history) now given) (token_bare (tokens_of n.stored n.history) now given) o p same) same
step_alike (events.Close k) conn m n o p near same = pick (k == conn) None None o p refl same

pub trace_alike : (e : Event) (conn : ℕ) (m n : Moment) (tr ts : Option (List Item)) → Near m n (seat_at m.seats conn) → bare (seat_at m.seats conn) ≡ bare (seat_at n.seats conn) → tr ≡ ts → trace_after e conn m tr ≡ trace_after e conn n ts
trace_alike (events.Sync document) conn m n tr ts near same also = also
trace_alike (events.Claim now) conn m n tr ts near same also = also
trace_alike (events.Signed ticket signed now) conn m n tr ts near same also = also
trace_alike (events.Failed ticket) conn m n tr ts near same also = also
trace_alike (events.Join k selectors) conn m n tr ts near same also = either (k == conn) (joined_trace tr) (joined_trace ts) tr ts (ap joined_trace also) also
trace_alike (events.Name k caller) conn m n tr ts near same also = also
trace_alike (events.Feed k piece) conn m n tr ts near same also =
    let more : Seat → List Item → List Item = λ s before. feed_items piece s.caller s.session in
    either (k == conn) (gain more (seat_at m.seats conn) tr) (gain more (seat_at n.seats conn) ts) tr ts
    (gain_alike more (λ s items. fed_items_unshown piece s.caller s.session) (seat_at m.seats conn) (seat_at n.seats conn) tr ts same also) also
trace_alike (events.Turn k) conn m n tr ts near same also =
    let more : Seat → List Item → List Item = λ s before. turn_items n.stored.published s.session before in
    either (k == conn) (gain (λ s before. turn_items m.stored.published s.session before) (seat_at m.seats conn) tr) (gain more (seat_at n.seats conn) ts) tr ts
    (near.turn_items tr ∙ gain_alike more (λ s items. turn_items_unshown n.stored.published s.session items) (seat_at m.seats conn) (seat_at n.seats conn) tr ts same also) also
trace_alike (events.Token k now given) conn m n tr ts near same also =
    let more : Seat → List Item → List Item = λ s before. ask_items (tokens_of n.stored n.history) now given (asks_in s.session) in
    either (k == conn) (gain (λ s before. ask_items (tokens_of m.stored m.history) now given (asks_in s.session)) (seat_at m.seats conn) tr) (gain more (seat_at n.seats conn) ts) tr ts
    (near.token_items now given tr ∙ gain_alike more (λ s items. ap (ask_items (tokens_of n.stored n.history) now given) (asks_unshown s.session)) (seat_at m.seats conn) (seat_at n.seats conn) tr ts same also) also
trace_alike (events.Close k) conn m n tr ts near same also = either (k == conn) None None tr ts refl also

-- ---- sessions that are near

abbrev pub SeatIn : Bounds → Option Seat → Type 0
SeatIn on None = Unit {0}
SeatIn on (Some s) = SessionOn on s.session

pub turn_near : (on : Bounds) (x y : Publication) (o : Option Seat) → ShowsAlike on x y → SeatIn on o → bare (told_seat (turn_seat x) o) ≡ bare (told_seat (turn_seat y) o)
turn_near on x y None shows is = refl
turn_near on x y (Some s) shows is = ap (λ (e : SessionState). Some (record { caller = s.caller; session = e })) (turn_same on x y s.session shows is)

pub turn_items_near : (on : Bounds) (x y : Publication) (o : Option Seat) (tr : Option (List Item)) → ShowsAlike on x y → SeatIn on o
    → gain (λ s before. turn_items x s.session before) o tr ≡ gain (λ s before. turn_items y s.session before) o tr
turn_items_near on x y None tr shows is = refl
turn_items_near on x y (Some s) None shows is = refl
turn_items_near on x y (Some s) (Some items) shows is = ap (λ (xs : List Item). Some (items ++ xs)) (turn_items_same on x y s.session items shows is)

-- the same token is found for the ask that waits
abbrev pub FoundAlike : KeptTokens → KeptTokens → Option JwtAsk → Type 0
FoundAlike h l None = Unit {0}
FoundAlike h l (Some a) = (now : ℕ) → kept_token h a now ≡ kept_token l a now

answer_near : (h l : KeptTokens) (now : ℕ) (given : Option JwtToken) (s : Seat) (o : Option JwtAsk) → FoundAlike h l o → answer_ask h now given s o ≡ answer_ask l now given s o
answer_near h l now given s None found = refl
answer_near h l now given s (Some a) found = ap (λ (t : Option JwtToken). outcome_told (outcome_of t given now) s.session) (found now)

pub token_near : (h l : KeptTokens) (now : ℕ) (given : Option JwtToken) (o : Option Seat) → FoundAlike h l (ask_of_seat o) → bare (told_seat (token_seat h now given) o) ≡ bare (told_seat (token_seat l now given) o)
token_near h l now given None found = refl
token_near h l now given (Some s) found = ap (λ (t : Told). bare (Some (with_session t.after s))) (answer_near h l now given s (asks_in s.session) found)

items_near : (h l : KeptTokens) (now : ℕ) (given : Option JwtToken) (o : Option JwtAsk) → FoundAlike h l o → ask_items h now given o ≡ ask_items l now given o
items_near h l now given None found = refl
items_near h l now given (Some a) found = ap (λ (t : Option JwtToken). OutcomeItem (outcome_of t given now) ∷ []) (found now)

pub token_items_near : (h l : KeptTokens) (now : ℕ) (given : Option JwtToken) (o : Option Seat) (tr : Option (List Item)) → FoundAlike h l (ask_of_seat o)
    → gain (λ s before. ask_items h now given (asks_in s.session)) o tr ≡ gain (λ s before. ask_items l now given (asks_in s.session)) o tr
token_items_near h l now given None tr found = refl
token_items_near h l now given (Some s) None found = refl
token_items_near h l now given (Some s) (Some items) found = ap (λ (xs : List Item). Some (items ++ xs)) (items_near h l now given (asks_in s.session) found)
