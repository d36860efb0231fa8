-- One run: a session's calls have selectors as which it was attested, and ask for tokens of entries on its side.
use Rattle.std.proofs.Common.{◌≡◌, ℕ, ◌==◌, ◌<◌, ◌⊎◌, inl, inr, Bool, true, false, if◌then◌else◌, List, [], ◌∷◌, Option, Some, None, refl, sym, subst}
use Rattle.std.specs.List.{AllByRecursion}
use Rattle.std.proofs.lemmas.List.{get_or-replicate}
use Rattle.h2_conn.proofs.Walk.{at_cond}
use Rattle.wl_secrets.proofs.Common.{is_entitled, Entry, JwtToken, Publication, JwtAsk, asks_in, CONNS, Event, Seat, joined_seat, named_seat, told_seat, feed_seat, turn_seat, tokens_of, kept_token, Beginning, Moment, moment, token_seat, ask_of_seat, seat, Attested, joined_as, named_as, attested_after, attested, Side, seat_step}
use Rattle.wl_session.specs.Steps.{Told}
use Rattle.wl_core.specs.declared.events.Event.TheVariants as events
use Rattle.wl_core.specs.Tokens.{KeptTokens, outcome_of}
use Rattle.wl_core.specs.Moments.{answer_ask, publication}
use Rattle.wl_secrets.specs.Sides.{Covers, IsOnSide}
use Rattle.wl_secrets.proofs.Calls.{Bounds, CallerOn, SessionOn, CoversOn, feed_on, turn_on, outcome_on, AskOn, ask_on, session_looser}
use Rattle.wl_secrets.proofs.Keeps.{AskIs}
use Rattle.wl_responses.proofs.Runs.{seat_next}

-- ---- as what a session was attested

abbrev pub Among : List (List ℕ) → Attested → Type 0
Among sel [] = ⊥
Among sel (x ∷ xs) = (x ≡ sel) ⊎ Among sel xs

among_all : (P : List (List ℕ) → Type 0) (sel : List (List ℕ)) (all : Attested) → AllByRecursion P all → Among sel all → P sel
among_all P sel [] every is = absurd is
among_all P sel (x ∷ xs) every (inl same) = subst P same every.0
among_all P sel (x ∷ xs) every (inr rest) = among_all P sel xs every.1 rest

abbrev pub bounds : (List ℕ → Type 0) → Attested → Bounds
bounds ids all = record { selectors = λ sel. Among sel all; ids = ids }

-- a session and as what it was attested
abbrev pub Known : (List ℕ → Type 0) → Option Seat → Option Attested → Type 0
Known ids None None = Unit {0}
Known ids None (Some all) = ⊥
Known ids (Some s) None = ⊥
Known ids (Some s) (Some all) = CallerOn (bounds ids all) s.caller × SessionOn (bounds ids all) s.session

-- entries to which it is entitled have such ids
abbrev pub CoveredBy : (List ℕ → Type 0) → Publication → Option Attested → Type 0
CoveredBy ids x None = Unit {0}
CoveredBy ids x (Some all) = CoversOn (bounds ids all) x

-- ---- an event

join_known : (ids : List ℕ → Type 0) (selectors : List (List ℕ)) (o : Option Seat) (a : Option Attested) → Known ids o a → Known ids (joined_seat selectors o) (joined_as selectors a)
join_known ids selectors None None is = (inl refl, tt)
join_known ids selectors None (Some all) is = absurd is
join_known ids selectors (Some s) None is = absurd is
join_known ids selectors (Some s) (Some all) is = is

name_known : (ids : List ℕ → Type 0) (caller : Option (List (List ℕ))) (o : Option Seat) (a : Option Attested) → Known ids o a → Known ids (named_seat caller o) (named_as caller a)
name_known ids None None None is = tt
name_known ids (Some sel) None None is = tt
name_known ids caller None (Some all) is = absurd is
name_known ids caller (Some s) None is = absurd is
name_known ids None (Some s) (Some all) is = (tt, is.1)
name_known ids (Some sel) (Some s) (Some all) is = (inl refl, session_looser (bounds ids all) (bounds ids (sel ∷ all)) (λ x among. inr among) (λ id one. one) s.session is.1)

told_known : (ids : List ℕ → Type 0) (tell : Seat → Told) → ((on : Bounds) (s : Seat) → CallerOn on s.caller → SessionOn on s.session → SessionOn on (tell s).after)
    → (o : Option Seat) (a : Option Attested) → Known ids o a → Known ids (told_seat tell o) a
told_known ids tell keeps None None is = tt
told_known ids tell keeps None (Some all) is = absurd is
told_known ids tell keeps (Some s) None is = absurd is
told_known ids tell keeps (Some s) (Some all) is = (is.0, keeps (bounds ids all) s is.0 is.1)

turn_known : (ids : List ℕ → Type 0) (x : Publication) (o : Option Seat) (a : Option Attested) → CoveredBy ids x a → Known ids o a → Known ids (told_seat (turn_seat x) o) a
turn_known ids x None None covers is = tt
turn_known ids x None (Some all) covers is = absurd is
turn_known ids x (Some s) None covers is = absurd is
turn_known ids x (Some s) (Some all) covers is = (is.0, turn_on (bounds ids all) x s.session covers is.1)

answer_on : (on : Bounds) (h : KeptTokens) (now : ℕ) (given : Option JwtToken) (s : Seat) (o : Option JwtAsk) → SessionOn on s.session → SessionOn on (answer_ask h now given s o).after
answer_on on h now given s None is = is
answer_on on h now given s (Some a) is = outcome_on on (outcome_of (kept_token h a now) given now) s.session is

pair_of : {X Y : Type 0} (P : X → Y → Type 0) (b : Bool) (x z : X) (y w : Y) → P x y → P z w → P (if b then x else z) (if b then y else w)
pair_of P true x z y w one two = one
pair_of P false x z y w one two = two

known_step : (ids : List ℕ → Type 0) (e : Event) (conn : ℕ) (m : Moment) (o : Option Seat) (a : Option Attested) → CoveredBy ids m.stored.published a → Known ids o a
    → Known ids (seat_step e conn m o) (attested_after e conn a)
known_step ids (events.Sync document) conn m o a covers is = is
known_step ids (events.Claim now) conn m o a covers is = is
known_step ids (events.Signed ticket signed now) conn m o a covers is = is
known_step ids (events.Failed ticket) conn m o a covers is = is
known_step ids (events.Join k selectors) conn m o a covers is = pair_of (Known ids) (k == conn) (joined_seat selectors o) o (joined_as selectors a) a (join_known ids selectors o a is) is
known_step ids (events.Name k caller) conn m o a covers is = pair_of (Known ids) (k == conn) (named_seat caller o) o (named_as caller a) a (name_known ids caller o a is) is
known_step ids (events.Feed k piece) conn m o a covers is =
    at_cond (λ (q : Option Seat). Known ids q a) (k == conn) (told_seat (feed_seat piece) o) o (told_known ids (feed_seat piece) (λ on s by on_s. feed_on on piece s.caller s.session by on_s) o a is) is
known_step ids (events.Turn k) conn m o a covers is =
    at_cond (λ (q : Option Seat). Known ids q a) (k == conn) (told_seat (turn_seat m.stored.published) o) o (turn_known ids m.stored.published o a covers is) is
known_step ids (events.Token k now given) conn m o a covers is =
    at_cond (λ (q : Option Seat). Known ids q a) (k == conn) (told_seat (token_seat (tokens_of m.stored m.history) now given) o) o
    (told_known ids (token_seat (tokens_of m.stored m.history) now given) (λ on s by on_s. answer_on on (tokens_of m.stored m.history) now given s (asks_in s.session) on_s) o a is) is
known_step ids (events.Close k) conn m o a covers is = pair_of (Known ids) (k == conn) None o None a tt is

-- ---- a run

none_known : (ids : List ℕ → Type 0) (d : Beginning) (conn : ℕ) → conn < CONNS → Known ids (seat d [] conn) None
none_known ids d conn within = subst (λ (o : Option Seat). Known ids o None) (sym (get_or-replicate CONNS conn None None within)) tt

known_next : (ids : List ℕ → Type 0) (d : Beginning) (e : Event) (past : List Event) (conn : ℕ) → conn < CONNS → CoveredBy ids (publication d past) (attested past conn) → Known ids (seat d past conn) (attested past conn)
    → Known ids (seat d (e ∷ past) conn) (attested (e ∷ past) conn)
known_next ids d e past conn within covers is =
    subst (λ (o : Option Seat). Known ids o (attested (e ∷ past) conn)) (sym (seat_next d e past conn within)) (known_step ids e conn (moment d past) (seat d past conn) (attested past conn) covers is)

abbrev any_id : List ℕ → Type 0
any_id id = Unit {0}

all_any : (sel : List (List ℕ)) (entries : List Entry) → AllByRecursion (λ e. is_entitled sel e ≡ true → any_id e.id) entries
all_any sel [] = tt
all_any sel (e ∷ es) = (λ is. tt, all_any sel es)

covered_any : (x : Publication) (a : Option Attested) → CoveredBy any_id x a
covered_any x None = tt
covered_any x (Some all) = λ sel among. all_any sel x.entries

-- there is a session exactly where one was attested
known_any : (d : Beginning) (past : List Event) (conn : ℕ) → conn < CONNS → Known any_id (seat d past conn) (attested past conn)
known_any d [] conn within = none_known any_id d conn within
known_any d (e ∷ past) conn within = known_next any_id d e past conn within (covered_any (publication d past) (attested past conn)) (known_any d past conn within)

known_none : (ids : List ℕ → Type 0) (o : Option Seat) (a : Option Attested) → a ≡ None → Known any_id o a → Known ids o a
known_none ids None None is known = tt
known_none ids None (Some all) is known = absurd known
known_none ids (Some s) None is known = absurd known
known_none ids (Some s) (Some all) is known = absurd (cc is)

-- ---- sides

side_back : (ours : List ℕ → Bool) (inside : Bool) (entries : List Entry) (a : Option Attested) (before : Type 0) → IsOnSide ours inside entries a before → (a ≡ None) ⊎ before
side_back ours inside entries None before side = inl refl
side_back ours inside entries (Some all) before side = inr side.1

-- no session is on both sides
pub side_none : (ours : List ℕ → Bool) (inside : Bool) (d : Beginning) (past : List Event) (conn : ℕ) → attested past conn ≡ None → Side ours inside d past conn
side_none ours inside d [] conn is = tt
side_none ours inside d (e ∷ past) conn is = subst (λ (a : Option Attested). IsOnSide ours inside (publication d (e ∷ past)).entries a (Side ours inside d past conn)) (sym is) tt

pub side_before : (ours : List ℕ → Bool) (inside : Bool) (d : Beginning) (e : Event) (past : List Event) (conn : ℕ) → (attested (e ∷ past) conn ≡ None → attested past conn ≡ None)
    → Side ours inside d (e ∷ past) conn → Side ours inside d past conn
side_before ours inside d e past conn none side = go (side_back ours inside (publication d (e ∷ past)).entries (attested (e ∷ past) conn) (Side ours inside d past conn) side)
  where
    go : (attested (e ∷ past) conn ≡ None) ⊎ Side ours inside d past conn → Side ours inside d past conn
    go (inl is) = side_none ours inside d past conn (none is)
    go (inr before) = before

abbrev pub on_side : (List ℕ → Bool) → Bool → List ℕ → Type 0
on_side ours inside id = ours id ≡ inside

covers_go : (ours : List ℕ → Bool) (inside : Bool) (x : Publication) (a : Option Attested) (before : Type 0) → IsOnSide ours inside x.entries a before → CoveredBy (on_side ours inside) x a
covers_go ours inside x None before side = tt
covers_go ours inside x (Some all) before side = λ sel among. among_all (Covers ours inside x.entries) sel all side.0 among

pub covers_now : (ours : List ℕ → Bool) (inside : Bool) (d : Beginning) (past : List Event) (conn : ℕ) → Side ours inside d past conn → CoveredBy (on_side ours inside) (publication d past) (attested past conn)
covers_now ours inside d [] conn side = tt
covers_now ours inside d (e ∷ past) conn side = covers_go ours inside (publication d (e ∷ past)) (attested (e ∷ past) conn) (Side ours inside d past conn) side

pub sided : (ours : List ℕ → Bool) (inside : Bool) (d : Beginning) (past : List Event) (conn : ℕ) → conn < CONNS → Side ours inside d past conn → Known (on_side ours inside) (seat d past conn) (attested past conn)
sided ours inside d [] conn within side = none_known (on_side ours inside) d conn within
sided ours inside d (e ∷ past) conn within side =
    go (side_back ours inside (publication d (e ∷ past)).entries (attested (e ∷ past) conn) (Side ours inside d past conn) side) (λ before. sided ours inside d past conn within before)
  where
    go : (attested (e ∷ past) conn ≡ None) ⊎ Side ours inside d past conn → (Side ours inside d past conn → Known (on_side ours inside) (seat d past conn) (attested past conn))
        → Known (on_side ours inside) (seat d (e ∷ past) conn) (attested (e ∷ past) conn)
    go (inl is) earlier = known_none (on_side ours inside) (seat d (e ∷ past) conn) (attested (e ∷ past) conn) is (known_any d (e ∷ past) conn within)
    go (inr before) earlier = known_next (on_side ours inside) d e past conn within (covers_now ours inside d past conn before) (earlier before)

-- ---- the ask that waits

ask_go : (ours : List ℕ → Bool) (inside : Bool) (all : Attested) (o : Option JwtAsk) → AskOn (bounds (on_side ours inside) all) o → AskIs ours inside o
ask_go ours inside all None is = tt
ask_go ours inside all (Some a) is = is

known_ask : (ours : List ℕ → Bool) (inside : Bool) (o : Option Seat) (a : Option Attested) → Known (on_side ours inside) o a → AskIs ours inside (ask_of_seat o)
known_ask ours inside None a is = tt
known_ask ours inside (Some s) None is = absurd is
known_ask ours inside (Some s) (Some all) is = ask_go ours inside all (asks_in s.session) (ask_on (bounds (on_side ours inside) all) s.session is.1)

-- it is for an entry on the session's side
pub ask_sided : (ours : List ℕ → Bool) (inside : Bool) (d : Beginning) (past : List Event) (conn : ℕ) → conn < CONNS → Side ours inside d past conn → AskIs ours inside (ask_of_seat (seat d past conn))
ask_sided ours inside d past conn within side = known_ask ours inside (seat d past conn) (attested past conn) (sided ours inside d past conn within side)
