-- Each session of a run has its moves, and its turns read the publications of the run in their order.
use Rattle.std.proofs.Common.{◌≡◌, inl, inr, ℕ, zero, suc, ◌+◌, ◌≤◌, ◌<◌, ◌==◌, Bool, true, false, if◌then◌else◌, List, [], ◌∷◌, ◌++◌, length, Option, Some, None, Result, Ok, Err, slice_set, refl, sym, ap, subst, ◌∙◌, arith}
use Rattle.std.specs.List.{AllByRecursion}
use Rattle.std.proofs.lemmas.List.{get_or-set_same, get_or-set_other}
use Rattle.std.proofs.lemmas.Bool.{eqb-true}
use Rattle.wl_responses.proofs.Common.{Frame, End, reading_from, ConnFault, Publication, SessionState, Running, Fallen, feed_said, unnamed_count, CONNS, Event, Seat, joined_seat, named_seat, told_seat, feed_seat, turn_seat, tokens_of, Beginning, Moment, moment, token_seat, seat, Step, FrameCame, BytesBroke, CallAttested, TurnTaken, OutcomeCame, AnsweringTurn, Response, NoneAbove, NeverFall, Move, Fed, TurnedOn, GivenTo, session_after, steps_of, numbers_turned}
use Rattle.h2_frame.specs.Reading.{Opening, Rest, Fault}
use Rattle.wl_document.specs.declared.fault.DocFault.{DocFault}
use Rattle.wl_document.specs.States.{State}
use Rattle.wl_entry.specs.declared.signing.Signed.{Signed}
use Rattle.wl_store.specs.declared.tickets.Flight.{Flight}
use Rattle.wl_store.specs.Stores.{Store, shows, publish, next_publication, after_claim}
use Rattle.wl_store.specs.Steps.{Stored}
use Rattle.wl_session.specs.Sessions.{OutOfMemory}
use Rattle.wl_session.specs.Items.{Item, talk}
use Rattle.wl_session.proofs.Traces.{Follows, FollowsOn}
use Rattle.wl_core.specs.declared.events.Event.TheVariants as events
use Rattle.wl_core.specs.Seats.{seat_at}
use Rattle.wl_core.specs.Moments.{moment_after, reading_of, after_reading, signed_with, failed_with, flight_in, publication}
use Rattle.wl_core.proofs.SessionTraces.{room, other_conn}
use Rattle.wl_responses.specs.Responses.{WasTaken, IfTurn, AllTurns}
use Rattle.wl_responses.specs.Moves.{move_told, bytes_after, onto_frames, onto_ending, onto_names, onto_fed, onto_move, number_turned}
use Rattle.wl_responses.specs.Runs.{WasPublished}
use Rattle.wl_responses.proofs.PublicationOrder.{all_above}

-- ---- one connection

abbrev pub seat_step : Event → ℕ → Moment → Option Seat → Option Seat
seat_step (events.Sync document) conn m o = o
seat_step (events.Claim now) conn m o = o
seat_step (events.Signed ticket signed now) conn m o = o
seat_step (events.Failed ticket) conn m o = o
seat_step (events.Join k selectors) conn m o = if k == conn then joined_seat selectors o else o
seat_step (events.Name k caller) conn m o = if k == conn then named_seat caller o else o
seat_step (events.Feed k piece) conn m o = if k == conn then told_seat (feed_seat piece) o else o
seat_step (events.Turn k) conn m o = if k == conn then told_seat (turn_seat m.stored.published) o else o
seat_step (events.Token k now given) conn m o = if k == conn then told_seat (token_seat (tokens_of m.stored m.history) now given) o else o
seat_step (events.Close k) conn m o = if k == conn then None else o

set_go : (seats : List (Option Seat)) (k conn : ℕ) (f : Option Seat → Option Seat) (b : Bool) → (k == conn) ≡ b → conn < length seats
    → seat_at (slice_set seats k (f (seat_at seats k))) conn ≡ (if b then f (seat_at seats conn) else seat_at seats conn)
set_go seats k conn f true is within =
    ap (λ (n : ℕ). seat_at (slice_set seats n (f (seat_at seats n))) conn) (eqb-true k conn is) ∙ get_or-set_same seats conn (f (seat_at seats conn)) None within
set_go seats k conn f false is within = get_or-set_other seats k conn (f (seat_at seats k)) None (other_conn k conn is)

seat_after : (e : Event) (conn : ℕ) (m : Moment) → conn < length m.seats → seat_at (moment_after e m).seats conn ≡ seat_step e conn m (seat_at m.seats conn)
unfolding moment_after
seat_after (events.Sync document) conn m within = refl
seat_after (events.Claim now) conn m within = refl
seat_after (events.Signed ticket signed now) conn m within = refl
seat_after (events.Failed ticket) conn m within = refl
seat_after (events.Join k selectors) conn m within = set_go m.seats k conn (joined_seat selectors) (k == conn) refl within
seat_after (events.Name k caller) conn m within = set_go m.seats k conn (named_seat caller) (k == conn) refl within
seat_after (events.Feed k piece) conn m within = set_go m.seats k conn (told_seat (feed_seat piece)) (k == conn) refl within
seat_after (events.Turn k) conn m within = set_go m.seats k conn (told_seat (turn_seat m.stored.published)) (k == conn) refl within
seat_after (events.Token k now given) conn m within = set_go m.seats k conn (told_seat (token_seat (tokens_of m.stored m.history) now given)) (k == conn) refl within
seat_after (events.Close k) conn m within = set_go m.seats k conn (λ o. None) (k == conn) refl within

pub seat_next : (d : Beginning) (e : Event) (past : List Event) (conn : ℕ) → conn < CONNS → seat d (e ∷ past) conn ≡ seat_step e conn (moment d past) (seat d past conn)
seat_next d e past conn within = seat_after e conn (moment d past) (subst (λ (n : ℕ). conn < n) (sym (room d past)) within)

-- ---- publications

not_before : (p : Publication) (kept : Store) (b : Bool) → p.number ≤ (if b then p else publish (p.number + 1) p.domain kept).number
not_before p kept true = omega arith
not_before p kept false = omega arith

next_number : (p : Publication) (kept : Store) → p.number ≤ (next_publication p kept).number
next_number p kept = not_before p kept (shows p kept)

reading_number : (r : Result State DocFault) (m : Stored) → m.published.number ≤ (after_reading r m).published.number
reading_number (Ok d) m = next_number m.published _
reading_number (Err fault) m = omega arith

signed_number : (f : Option Flight) (n : ℕ) (g : Signed) (now : ℕ) (m : Stored) → m.published.number ≤ (signed_with f n g now m).published.number
signed_number None n g now m = omega arith
signed_number (Some f) n g now m = next_number m.published _

failed_number : (f : Option Flight) (n : ℕ) (m : Stored) → m.published.number ≤ (failed_with f n m).published.number
failed_number None n m = omega arith
failed_number (Some f) n m = omega arith

pub number_after : (e : Event) (m : Moment) → m.stored.published.number ≤ (moment_after e m).stored.published.number
unfolding moment_after
number_after (events.Sync document) m = reading_number (reading_of document m.stored) m.stored
number_after (events.Claim now) m = next_number m.stored.published (after_claim now m.stored.store)
number_after (events.Signed ticket signed now) m = signed_number (flight_in ticket m.stored) ticket signed now m.stored
number_after (events.Failed ticket) m = failed_number (flight_in ticket m.stored) ticket m.stored
number_after (events.Join k selectors) m = omega arith
number_after (events.Name k caller) m = omega arith
number_after (events.Feed k piece) m = omega arith
number_after (events.Turn k) m = omega arith
number_after (events.Token k now given) m = omega arith
number_after (events.Close k) m = omega arith

pub now_published : (d : Beginning) (past : List Event) → WasPublished d past (publication d past)
now_published d [] = refl
now_published d (e ∷ past) = inl refl

-- ---- what the turns of moves read

abbrev pub ReadBy : (Publication → Type 0) → Move → Type 0
ReadBy P (Fed piece caller) = Unit {0}
ReadBy P (TurnedOn x) = P x
ReadBy P (GivenTo o) = Unit {0}

abbrev pub AllRead : (Publication → Type 0) → List Move → Type 0
AllRead P moves = AllByRecursion (ReadBy P) moves

abbrev pub StepReads : (Publication → Type 0) → Step → Type 0
StepReads P (FrameCame f) = Unit {0}
StepReads P (BytesBroke why) = Unit {0}
StepReads P (CallAttested caller) = Unit {0}
StepReads P (TurnTaken x) = P x
StepReads P (OutcomeCame o) = Unit {0}

abbrev pub Reads : (Publication → Type 0) → List Step → Type 0
Reads P steps = AllByRecursion (StepReads P) steps

read_weaker : (P Q : Publication → Type 0) → ((x : Publication) → P x → Q x) → (moves : List Move) → AllRead P moves → AllRead Q moves
read_weaker P Q go [] h = tt
read_weaker P Q go (Fed piece caller ∷ moves) h = (tt, read_weaker P Q go moves h.1)
read_weaker P Q go (TurnedOn x ∷ moves) h = (go x h.0, read_weaker P Q go moves h.1)
read_weaker P Q go (GivenTo o ∷ moves) h = (tt, read_weaker P Q go moves h.1)

pub frames_read : (P : Publication → Type 0) (fs : List Frame) (before : List Step) → Reads P before → Reads P (onto_frames fs before)
frames_read P [] before h = h
frames_read P (f ∷ fs) before h = frames_read P fs (FrameCame f ∷ before) (tt, h)

pub ending_reads : (P : Publication → Type 0) (e : End) (before : List Step) → Reads P before → Reads P (onto_ending e before)
ending_reads P (Opening left) before h = h
ending_reads P (Rest rest) before h = h
ending_reads P (Fault why) before h = (tt, h)

names_read : (P : Publication → Type 0) (count : ℕ) (caller : Option (List (List ℕ))) (before : List Step) → Reads P before → Reads P (onto_names count caller before)
names_read P zero caller before h = h
names_read P (suc n) caller before h = names_read P n caller (CallAttested caller ∷ before) (tt, h)

fed_reads : (P : Publication → Type 0) (fault : Option ConnFault) (count : ℕ) (caller : Option (List (List ℕ))) (before : List Step) → Reads P before → Reads P (onto_fed fault count caller before)
fed_reads P None count caller before h = names_read P count caller before h
fed_reads P (Some fault) count caller before h = h

move_reads : (P : Publication → Type 0) (move : Move) (s : SessionState) (before : List Step) → ReadBy P move → Reads P before → Reads P (onto_move move s before)
move_reads P (Fed piece caller) (Running e t shown) before is h =
    let r = reading_from e piece in
    fed_reads P (feed_said r t).fault (unnamed_count (feed_said r t).after) caller (onto_ending r.ending (onto_frames r.frames before)) (ending_reads P r.ending (onto_frames r.frames before) (frames_read P r.frames before h))
move_reads P (TurnedOn x) (Running e t shown) before is h = (is, h)
move_reads P (GivenTo o) (Running e t shown) before is h = (tt, h)
move_reads P (Fed piece caller) (Fallen fault begun) before is h = h
move_reads P (TurnedOn x) (Fallen fault begun) before is h = h
move_reads P (GivenTo o) (Fallen fault begun) before is h = h
move_reads P (Fed piece caller) OutOfMemory before is h = h
move_reads P (TurnedOn x) OutOfMemory before is h = h
move_reads P (GivenTo o) OutOfMemory before is h = h

pub moves_read : (P : Publication → Type 0) (moves : List Move) → AllRead P moves → Reads P (steps_of moves)
moves_read P [] h = tt
moves_read P (move ∷ before) h = move_reads P move (session_after before) (steps_of before) h.0 (moves_read P before h.1)

taken_reads : (P : Publication → Type 0) (n : ℕ) (turn : AnsweringTurn) (steps : List Step) → Reads P steps → WasTaken n turn steps → P turn.publication
taken_reads P n turn [] h is = absurd is
taken_reads P n turn (FrameCame f ∷ before) h (inl is) = absurd is
taken_reads P n turn (BytesBroke why ∷ before) h (inl is) = absurd is
taken_reads P n turn (CallAttested caller ∷ before) h (inl is) = absurd is
taken_reads P n turn (TurnTaken x ∷ before) h (inl is) = subst P is.0 h.0
taken_reads P n turn (OutcomeCame o ∷ before) h (inl is) = absurd is
taken_reads P n turn (step ∷ before) h (inr is) = taken_reads P n turn before h.1 is

pub turns_read : (P : Publication → Type 0) (n : ℕ) (steps : List Step) (begun : List Response) → Reads P steps → AllTurns (λ turn. WasTaken n turn steps) begun → AllTurns (λ turn. P turn.publication) begun
turns_read P n steps [] h is = tt
turns_read P n steps (r ∷ begun) h is = (go r.turn is.0, turns_read P n steps begun h is.1)
  where
    go : (turn : Option AnsweringTurn) → IfTurn (λ turn. WasTaken n turn steps) turn → IfTurn (λ turn. P turn.publication) turn
    go None taken = tt
    go (Some turn) taken = taken_reads P n turn steps h taken

-- ---- a session and its moves

-- these moves led to this session, which has this trace; its turns read such publications, none above this number
pub record Led (P : Publication → Type 0) (most : ℕ) (s : SessionState) (items : List Item) (moves : List Move) : Type 0 where
  pub session : s ≡ session_after moves
  pub follows : Follows s items
  pub bytes : bytes_after moves ≡ talk items
  pub read : AllRead P moves
  pub above : NoneAbove most (numbers_turned moves)
  pub falls : NeverFall (numbers_turned moves)

pub record Lived (P : Publication → Type 0) (most : ℕ) (s : Seat) (tr : Option (List Item)) (ms : Option (List Move)) : Type 0 where
  pub items : List Item
  pub moves : List Move
  pub trace : tr ≡ Some items
  pub are : ms ≡ Some moves
  pub led : Led P most s.session items moves

abbrev pub Life : (Publication → Type 0) → ℕ → Option Seat → Option (List Item) → Option (List Move) → Type 0
Life P most None tr ms = (tr ≡ None) × (ms ≡ None)
Life P most (Some s) tr ms = Lived P most s tr ms

pub life_weaker : (P Q : Publication → Type 0) (most more : ℕ) → ((x : Publication) → P x → Q x) → most ≤ more → (o : Option Seat) (tr : Option (List Item)) (ms : Option (List Move)) → Life P most o tr ms → Life Q more o tr ms
life_weaker P Q most more go le None tr ms h = h
life_weaker P Q most more go le (Some s) tr ms h = record {
  items = h.items;
  moves = h.moves;
  trace = h.trace;
  are = h.are;
  led = record {
    session = h.led.session;
    follows = h.led.follows;
    bytes = h.led.bytes;
    read = read_weaker P Q go h.moves h.led.read;
    above = all_above most more (numbers_turned h.moves) le h.led.above;
    falls = h.led.falls;
  };
}

-- one move more
pub one_move : (P : Publication → Type 0) (most : ℕ) (move : Move) (s : SessionState) (items more : List Item) (moves : List Move) → ReadBy P move
    → NeverFall (number_turned move (numbers_turned moves)) → NoneAbove most (number_turned move (numbers_turned moves)) → FollowsOn (move_told move s) items more → Led P most s items moves
    → Led P most (move_told move s).after (items ++ more) (move ∷ moves)
one_move P most move s items more moves is falls above on h = record {
  session = ap (λ (u : SessionState). (move_told move u).after) h.session;
  follows = on.follows;
  bytes = ap (λ (u : SessionState). bytes_after moves ++ (move_told move u).bytes) (sym h.session) ∙ (ap (λ (xs : List ℕ). xs ++ (move_told move s).bytes) h.bytes ∙ sym on.bytes);
  read = (is, h.read);
  above = above;
  falls = falls;
}
