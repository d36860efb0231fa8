-- What holds after each Turn and each Token of a session of the core.
use Rattle.std.proofs.Common.{◌≡◌, ℕ, zero, suc, ◌<◌, ◌==◌, if◌then◌else◌, List, [], ◌∷◌, Option, Some, None, Ok, refl, sym, ap, subst, ◌∙◌, arith, eq-eqb}
use Rattle.std.specs.Prelude.{IsSome, Bool, true, false}
use Rattle.std.proofs.lemmas.List.{get_or-replicate}
use Rattle.wl_responses.proofs.Common.{End, reading_from, ConnFault, JwtToken, Publication, JwtAsk, JwtOutcome, Talking, SessionState, Running, Fallen, feed_said, name_said, turn_said, given_said, Told, unnamed_count, outcome_told, CONNS, Event, Seat, joined_seat, named_seat, told_seat, feed_seat, turn_seat, tokens_of, Beginning, Moment, moment, seat, token_seat, Step, FrameCame, BytesBroke, CallAttested, TurnTaken, OutcomeCame, talk_after, AllFit, session_after, steps_of}
use Rattle.h2_conn.specs.Conns.{FlushResult}
use Rattle.wl_session.specs.Tokens.{first_unnamed, first_ask}
use Rattle.wl_session.specs.Sessions.{OutOfMemory, fresh_session, state_of_fault, asks_in}
use Rattle.wl_session.specs.Steps.{names_said, fed_by, feed_told, turn_told}
use Rattle.wl_session.specs.Completing.{IsCompleteIn, AllAnswered, FeedKeepsComplete, NameKeepsComplete, TokenKeepsComplete, TurnAnswersAll}
use Rattle.wl_session.proofs.Attestations.{some_call, name_counts}
use Rattle.wl_session.proofs.Traces.{turn_settled}
use Rattle.wl_core.specs.declared.events.Event.TheVariants as events
use Rattle.wl_core.specs.Seats.{with_session}
use Rattle.wl_core.specs.Tokens.{KeptTokens, kept_token, outcome_of}
use Rattle.wl_core.specs.Moments.{publication, answer_ask}
use Rattle.wl_responses.specs.Steps.{FitsStep}
use Rattle.wl_responses.specs.Moves.{HasTalk}
use Rattle.wl_responses.specs.Statuses.{HasTurnEnding, HasTokenEnding, GivesStatus, AllGiveStatuses}
use Rattle.wl_responses.specs.Completeness.{OnTalk, IsWritten, IsKeptBack, BehindTurns, BehindTokens, EachIsAnswered, AllIsWritten, EachIsHeldBack, StepsOfRunsGiveStatuses, WaitsForAsks, AsksAreAwaited, StillWaits, AsksStay, TakesOutcome, OutcomesAreTaken, TurnsOfRunsGiveStatuses, TokensOfRunsGiveStatuses}
use Rattle.wl_responses.proofs.MoveSteps.{sessions_take_steps, steps_fit}
use Rattle.wl_responses.proofs.Runs.{seat_step, seat_next}
use Rattle.wl_responses.proofs.SessionMoves.{sessions_have_moves}
use Rattle.wl_responses.proofs.Verdicts.{verdicts_give}
use Rattle.wl_responses.proofs.Endings.{turns_give, names_give, tokens_give}
use Rattle.wl_responses.proofs.WindowWaits.{quiet_holds}
use Rattle.wl_responses.proofs.TokenAsks.{turn_awaits, turn_stays, outcome_awaits}

-- ---- a session is complete

-- what the calls of a session keep
pub record KeepComplete : Type 0 where
  pub first : IsCompleteIn fresh_session
  pub fed : FeedKeepsComplete
  pub named : NameKeepsComplete
  pub given : TokenKeepsComplete
  pub turned : TurnAnswersAll

some_there : (o : Option ℕ) (n : ℕ) → o ≡ Some n → IsSome o
some_there o n is = subst (λ (p : Option ℕ). IsSome p) (sym is) refl

names_complete : (law : KeepComplete) (n : ℕ) (caller : Option (List (List ℕ))) (e : End) (t : Talking) (shown : Option Publication) → unnamed_count t ≡ n → IsCompleteIn (Running e t shown) → IsCompleteIn (Running e (names_said n caller t).after shown)
unfolding names_said
names_complete law zero caller e t shown is h = h
names_complete law (suc n) caller e t shown is h =
    let some = some_call t.served (first_unnamed t.served) n refl is in
    let count : unnamed_count (name_said caller t).after ≡ n = omega (arith, name_counts caller t some.0 some.1, is) in
    let now : IsCompleteIn (Running e (name_said caller t).after shown) =
    law.named caller (Running e t shown) (Running e (name_said caller t).after shown) (Ok tt) [] (name_said caller t).bytes (some_there (first_unnamed t.served) some.0 some.1) (refl, refl) h in
    names_complete law n caller e (name_said caller t).after shown count now

fed_complete : (law : KeepComplete) (piece : List ℕ) (caller : Option (List (List ℕ))) (e : End) (t : Talking) (shown : Option Publication) (f : Option ConnFault) → (feed_said (reading_from e piece) t).fault ≡ f → IsCompleteIn (Running e t shown)
    → IsCompleteIn (fed_by f (reading_from e piece).ending shown caller (feed_said (reading_from e piece) t)).after
fed_complete law piece caller e t shown None is h =
    let r = reading_from e piece in
    let said = feed_said r t in
    let now : IsCompleteIn (Running r.ending said.after shown) =
    law.fed piece (Running e t shown) (Running r.ending said.after shown) (Ok tt) [] said.bytes (is, refl, sym (ap (λ (g : Option ConnFault). state_of_fault g r.ending said.after shown) is)) h in
    names_complete law (unnamed_count said.after) caller r.ending said.after shown refl now
fed_complete law piece caller e t shown (Some fault) is h = tt

feed_complete : (law : KeepComplete) (piece : List ℕ) (caller : Option (List (List ℕ))) (s : SessionState) → IsCompleteIn s → IsCompleteIn (feed_told piece caller s).after
unfolding feed_told
feed_complete law piece caller (Running e t shown) h = fed_complete law piece caller e t shown (feed_said (reading_from e piece) t).fault refl h
feed_complete law piece caller (Fallen fault begun) h = tt
feed_complete law piece caller OutOfMemory h = tt

pub turn_complete : (law : KeepComplete) (x : Publication) (s : SessionState) → IsCompleteIn s → IsCompleteIn (turn_told x s).after × AllAnswered x (turn_told x s).after
unfolding turn_told
turn_complete law x (Running e t shown) h = law.turned x (Running e t shown) (Running e (turn_said x t).after (Some x)) (Ok tt) [] (turn_said x t).bytes (refl, refl) h
turn_complete law x (Fallen fault begun) h = (tt, tt)
turn_complete law x OutOfMemory h = (tt, tt)

some_ask : (o : Option JwtAsk) (a : JwtAsk) → o ≡ Some a → IsSome o
some_ask o a is = subst (λ (p : Option JwtAsk). IsSome p) (sym is) refl

pub outcome_complete : (law : KeepComplete) (o : JwtOutcome) (a : JwtAsk) (s : SessionState) → asks_in s ≡ Some a → IsCompleteIn s → IsCompleteIn (outcome_told o s).after
unfolding outcome_told
outcome_complete law o a (Running e t shown) is h = law.given o (Running e t shown) (Running e (given_said o t).after shown) (Ok tt) [] (given_said o t).bytes (some_ask (first_ask t.served) a is) (refl, refl) h
outcome_complete law o a (Fallen fault begun) is h = tt
outcome_complete law o a OutOfMemory is h = tt

-- ---- an event

abbrev IsCompleteAt : Option Seat → Type 0
IsCompleteAt None = Unit {0}
IsCompleteAt (Some s) = IsCompleteIn s.session

told_complete : (tell : Seat → Told) (o : Option Seat) → ((s : Seat) → IsCompleteIn s.session → IsCompleteIn (tell s).after) → IsCompleteAt o → IsCompleteAt (told_seat tell o)
told_complete tell None keeps h = tt
told_complete tell (Some s) keeps h = keeps s h

joined_complete : (law : KeepComplete) (selectors : List (List ℕ)) (o : Option Seat) → IsCompleteAt o → IsCompleteAt (joined_seat selectors o)
joined_complete law selectors None h = law.first
joined_complete law selectors (Some s) h = h

named_complete : (caller : Option (List (List ℕ))) (o : Option Seat) → IsCompleteAt o → IsCompleteAt (named_seat caller o)
named_complete caller None h = tt
named_complete caller (Some s) h = h

asked_complete : (law : KeepComplete) (kept : KeptTokens) (now : ℕ) (given : Option JwtToken) (s : Seat) (o : Option JwtAsk) → asks_in s.session ≡ o → IsCompleteIn s.session → IsCompleteIn (answer_ask kept now given s o).after
asked_complete law kept now given s None is h = h
asked_complete law kept now given s (Some a) is h = outcome_complete law (outcome_of (kept_token kept a now) given now) a s.session is h

pick : (b : Bool) (o p : Option Seat) → IsCompleteAt o → IsCompleteAt p → IsCompleteAt (if b then o else p)
pick true o p h k = h
pick false o p h k = k

step_complete : (law : KeepComplete) (e : Event) (conn : ℕ) (m : Moment) (o : Option Seat) → IsCompleteAt o → IsCompleteAt (seat_step e conn m o)
step_complete law (events.Sync document) conn m o h = h
step_complete law (events.Claim now) conn m o h = h
step_complete law (events.Signed ticket signed now) conn m o h = h
step_complete law (events.Failed ticket) conn m o h = h
step_complete law (events.Join k selectors) conn m o h = pick (k == conn) (joined_seat selectors o) o (joined_complete law selectors o h) h
step_complete law (events.Name k caller) conn m o h = pick (k == conn) (named_seat caller o) o (named_complete caller o h) h
step_complete law (events.Feed k piece) conn m o h =
    pick (k == conn) (told_seat (feed_seat piece) o) o (told_complete (feed_seat piece) o (λ s is. feed_complete law piece s.caller s.session is) h) h
step_complete law (events.Turn k) conn m o h =
    let x = m.stored.published in pick (k == conn) (told_seat (turn_seat x) o) o (told_complete (turn_seat x) o (λ s is. (turn_complete law x s.session is).0) h) h
step_complete law (events.Token k now given) conn m o h =
    let tell = token_seat (tokens_of m.stored m.history) now given in
    pick (k == conn) (told_seat tell o) o (told_complete tell o (λ s is. asked_complete law (tokens_of m.stored m.history) now given s (asks_in s.session) refl is) h) h
step_complete law (events.Close k) conn m o h = pick (k == conn) None o tt h

run_complete : (law : KeepComplete) (d : Beginning) (past : List Event) (conn : ℕ) → conn < CONNS → IsCompleteAt (seat d past conn)
run_complete law d [] conn within = subst IsCompleteAt (sym (get_or-replicate CONNS conn None None within)) tt
run_complete law d (e ∷ past) conn within =
    subst IsCompleteAt (sym (seat_next d e past conn within)) (step_complete law e conn (moment d past) (seat d past conn) (run_complete law d past conn within))

-- ---- a Turn

seat_is : (a b : Seat) → Some a ≡ Some b → a ≡ b
seat_is a b e = cc e

-- the session after it
turned : (d : Beginning) (past : List Event) (conn : ℕ) (old now : Seat) → conn < CONNS → seat d past conn ≡ Some old → seat d (events.Turn conn ∷ past) conn ≡ Some now → (turn_told (publication d past) old.session).after ≡ now.session
turned d past conn old now within was is =
    let x = publication d past in
    let step : seat_step (events.Turn conn) conn (moment d past) (seat d past conn) ≡ told_seat (turn_seat x) (Some old) = rw (was, eq-eqb conn conn refl) refl in
    ap (λ (s : Seat). s.session) (seat_is (with_session (turn_told x old.session).after old) now (sym step ∙ (sym (seat_next d (events.Turn conn) past conn within) ∙ is)))

behind_turns : (P : Publication → SessionState → SessionState → Type 0) → ((d : Beginning) (past : List Event) (conn : ℕ) (s : Seat) → conn < CONNS → seat d past conn ≡ Some s → P (publication d past) s.session (turn_told (publication d past) s.session).after)
    → BehindTurns P
behind_turns P go d past conn old now within was is = subst (λ (s : SessionState). P (publication d past) old.session s) (turned d past conn old now within was is) (go d past conn old within was)

pub each_is_answered : KeepComplete → EachIsAnswered
each_is_answered law = behind_turns (λ x old now. AllAnswered x now) (λ d past conn s within is. (turn_complete law (publication d past) s.session (subst IsCompleteAt is (run_complete law d past conn within))).1)

pub session_written : (x : Publication) (s : SessionState) → OnTalk IsWritten (turn_told x s).after
unfolding turn_told
session_written x (Running e t shown) = (turn_settled x t).1
session_written x (Fallen fault begun) = tt
session_written x OutOfMemory = tt

pub all_is_written : AllIsWritten
all_is_written = behind_turns (λ x old now. OnTalk IsWritten now) (λ d past conn s within is. session_written (publication d past) s.session)

pub session_holds : (x : Publication) (s : SessionState) → OnTalk IsKeptBack (turn_told x s).after
unfolding turn_told
session_holds x (Running e t shown) = quiet_holds (turn_said x t).after.phase (ap (λ (f : FlushResult). f.bytes) (turn_settled x t).1)
session_holds x (Fallen fault begun) = tt
session_holds x OutOfMemory = tt

pub each_is_held_back : EachIsHeldBack
each_is_held_back = behind_turns (λ x old now. OnTalk IsKeptBack now) (λ d past conn s within is. session_holds (publication d past) s.session)

-- what holds of the talk after fit steps holds in a session with this talk
pub in_talk : (P : Talking → Type 0) → ((steps : List Step) → AllFit steps → P (talk_after steps)) → (steps : List Step) → AllFit steps → (s : SessionState) → HasTalk s steps → OnTalk P s
in_talk P go steps fit (Running e t shown) is = subst P (sym is) (go steps fit)
in_talk P go steps fit (Fallen fault begun) is = tt
in_talk P go steps fit OutOfMemory is = tt

-- in each session of a run
in_run : (P : Talking → Type 0) → ((steps : List Step) → AllFit steps → P (talk_after steps)) → (d : Beginning) (past : List Event) (conn : ℕ) (s : Seat) → conn < CONNS → seat d past conn ≡ Some s → OnTalk P s.session
in_run P go d past conn s within is =
    let has = sessions_have_moves d past conn s within is in
    subst (OnTalk P) (sym has.session) (in_talk P go (steps_of has.moves) (steps_fit has.moves) (session_after has.moves) (sessions_take_steps has.moves).talk)

-- how far a call is from a turn
abbrev pub Awaits : Publication → Talking → Type 0
Awaits x t = (e : End) (shown : Option Publication) → WaitsForAsks x (Running e t shown) (turn_told x (Running e t shown)).after

pub waits : (x : Publication) (steps : List Step) → AllFit steps → Awaits x (talk_after steps)
unfolding turn_told
waits x steps fit e shown n audience id sel seen headed is = turn_awaits x steps fit n audience id sel seen headed is

pub awaits_in : (x : Publication) (s : SessionState) → OnTalk (Awaits x) s → WaitsForAsks x s (turn_told x s).after
awaits_in x (Running e t shown) h = h e shown
awaits_in x (Fallen fault begun) h = λ n audience id sel seen headed is. absurd (cc is)
awaits_in x OutOfMemory h = λ n audience id sel seen headed is. absurd (cc is)

pub asks_are_awaited : AsksAreAwaited
asks_are_awaited = behind_turns WaitsForAsks (λ d past conn s within is. awaits_in (publication d past) s.session (in_run (Awaits (publication d past)) (waits (publication d past)) d past conn s within is))

pub still_waits : (x : Publication) (s : SessionState) → StillWaits s (turn_told x s).after
unfolding turn_told
still_waits x (Running e t shown) = turn_stays x t
still_waits x (Fallen fault begun) = λ n first rest got is. absurd (cc is)
still_waits x OutOfMemory = λ n first rest got is. absurd (cc is)

pub asks_stay : AsksStay
asks_stay = behind_turns (λ x old now. StillWaits old now) (λ d past conn s within is. still_waits (publication d past) s.session)

pub turns_of_runs_give : TurnsOfRunsGiveStatuses
turns_of_runs_give = behind_turns (λ x old now. OnTalk (HasTurnEnding x) old) (λ d past conn s within is. in_run (HasTurnEnding (publication d past)) (turns_give (publication d past)) d past conn s within is)

-- ---- a Token

-- the session after it
given_on : (d : Beginning) (past : List Event) (conn time : ℕ) (given : Option JwtToken) (a : JwtAsk) (old now : Seat) → conn < CONNS → seat d past conn ≡ Some old → asks_in old.session ≡ Some a → seat d (events.Token conn time given ∷ past) conn ≡ Some now
    → (outcome_told (outcome_of (kept_token (tokens_of (moment d past).stored (moment d past).history) a time) given time) old.session).after ≡ now.session
given_on d past conn time given a old now within was asks is =
    let tell = token_seat (tokens_of (moment d past).stored (moment d past).history) time given in
    let step : seat_step (events.Token conn time given) conn (moment d past) (seat d past conn) ≡ told_seat tell (Some old) = rw (was, eq-eqb conn conn refl) refl in
    let told : tell old ≡ outcome_told (outcome_of (kept_token (tokens_of (moment d past).stored (moment d past).history) a time) given time) old.session = ap (answer_ask (tokens_of (moment d past).stored (moment d past).history) time given old) asks in
    sym (ap (λ (s : Told). s.after) told) ∙ ap (λ (s : Seat). s.session) (seat_is (with_session (tell old).after old) now (sym step ∙ (sym (seat_next d (events.Token conn time given) past conn within) ∙ is)))

behind_tokens : (P : JwtOutcome → SessionState → SessionState → Type 0) → ((o : JwtOutcome) (d : Beginning) (past : List Event) (conn : ℕ) (s : Seat) → conn < CONNS → seat d past conn ≡ Some s → P o s.session (outcome_told o s.session).after)
    → BehindTokens P
behind_tokens P go d past conn time given a old now within was asks is =
    let o = outcome_of (kept_token (tokens_of (moment d past).stored (moment d past).history) a time) given time in
    subst (λ (s : SessionState). P o old.session s) (given_on d past conn time given a old now within was asks is) (go o d past conn old within was)

abbrev pub Takes : JwtOutcome → Talking → Type 0
Takes o t = (e : End) (shown : Option Publication) → TakesOutcome o (Running e t shown) (outcome_told o (Running e t shown)).after

pub takes : (o : JwtOutcome) (steps : List Step) → AllFit steps → Takes o (talk_after steps)
unfolding outcome_told
takes o steps fit e shown n first rest got call = outcome_awaits o steps fit n first rest got call

pub takes_in : (o : JwtOutcome) (s : SessionState) → OnTalk (Takes o) s → TakesOutcome o s (outcome_told o s).after
takes_in o (Running e t shown) h = h e shown
takes_in o (Fallen fault begun) h = tt
takes_in o OutOfMemory h = tt

pub outcomes_are_taken : OutcomesAreTaken
outcomes_are_taken = behind_tokens TakesOutcome (λ o d past conn s within is. takes_in o s.session (in_run (Takes o) (takes o) d past conn s within is))

pub tokens_of_runs_give : TokensOfRunsGiveStatuses
tokens_of_runs_give = behind_tokens (λ o old now. OnTalk (HasTokenEnding o) old) (λ o d past conn s within is. in_run (HasTokenEnding o) (tokens_give o) d past conn s within is)

-- ---- all steps

step_gives : (step : Step) (before : List Step) → FitsStep step → AllFit before → GivesStatus step (talk_after before)
step_gives (FrameCame f) before fits fit = verdicts_give f before fits fit
step_gives (BytesBroke why) before fits fit = tt
step_gives (CallAttested caller) before fits fit = names_give caller before fit
step_gives (TurnTaken x) before fits fit = turns_give x before fit
step_gives (OutcomeCame o) before fits fit = tokens_give o before fit

pub all_give : (steps : List Step) → AllFit steps → AllGiveStatuses steps
all_give [] fit = tt
all_give (step ∷ before) fit = (step_gives step before fit.1 fit.0, all_give before fit.0)

pub steps_of_runs_give : StepsOfRunsGiveStatuses
steps_of_runs_give d past conn moves within is = all_give (steps_of moves) (steps_fit moves)
