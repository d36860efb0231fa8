-- The frames that came to a session are those of the bytes that were fed to it.
use Rattle.std.proofs.Common.{◌≡◌, ℕ, zero, suc, List, [], ◌∷◌, ◌++◌, Option, Some, None, refl, sym, subst}
use Rattle.std.specs.List.{AllByRecursion}
use Rattle.wl_heard.proofs.Common.{Frame, Reading, ConnFault, Publication, JwtOutcome, Talking, Step, Move, steps_of, IsOfOneCall, MakesOneCall}
use Rattle.h2_frame.specs.Reading.{End, Opening, Rest, Fault, preface, after_preface, reading_from, read_on}
use Rattle.h2_frame.proofs.Cuts.{reads_on}
use Rattle.wl_session.specs.Talks.{Said}
use Rattle.wl_session.specs.Sessions.{SessionState, Running, Fallen, OutOfMemory, feed_said}
use Rattle.wl_session.specs.Steps.{unnamed_count, fed_by, feed_told, turn_told, outcome_told}
use Rattle.wl_responses.specs.Moves.{Fed, TurnedOn, GivenTo, session_after, onto_frames, onto_ending, onto_names, onto_fed, onto_reading, onto_move}
use Rattle.wl_heard.specs.Calls.{bytes_fed}

abbrev pub AllOfCall : List Frame → Type 0
AllOfCall fs = AllByRecursion IsOfOneCall fs

pub all_front : (fs gs : List Frame) → AllOfCall (fs ++ gs) → AllOfCall fs
all_front [] gs h = tt
all_front (f ∷ fs) gs h = (h.0, all_front fs gs h.1)

all_back : (fs gs : List Frame) → AllOfCall (fs ++ gs) → AllOfCall gs
all_back [] gs h = h
all_back (f ∷ fs) gs h = all_back fs gs h.1

-- ---- the steps of a piece

made_frames : (fs : List Frame) (before : List Step) → AllOfCall fs → MakesOneCall before → MakesOneCall (onto_frames fs before)
made_frames [] before all h = h
made_frames (f ∷ fs) before all h = made_frames fs _ all.1 (h, all.0)

made_ending : (e : End) (before : List Step) → MakesOneCall before → MakesOneCall (onto_ending e before)
made_ending (Opening left) before h = h
made_ending (Rest rest) before h = h
made_ending (Fault why) before h = (h, tt)

made_names : (n : ℕ) (caller : Option (List (List ℕ))) (before : List Step) → MakesOneCall before → MakesOneCall (onto_names n caller before)
made_names zero caller before h = h
made_names (suc n) caller before h = made_names n caller _ (h, tt)

made_fed : (fault : Option ConnFault) (n : ℕ) (caller : Option (List (List ℕ))) (before : List Step) → MakesOneCall before → MakesOneCall (onto_fed fault n caller before)
made_fed None n caller before h = made_names n caller before h
made_fed (Some fault) n caller before h = h

made_reading : (r : Reading) (caller : Option (List (List ℕ))) (t : Talking) (before : List Step) → AllOfCall r.frames → MakesOneCall before → MakesOneCall (onto_reading r caller t before)
made_reading r caller t before all h = made_fed (feed_said r t).fault (unnamed_count (feed_said r t).after) caller _ (made_ending r.ending _ (made_frames r.frames before all h))

-- ---- a session

unfoldable pub all_read : List ℕ → Reading
all_read bytes = reading_from (Opening preface) bytes

-- it goes on from where its bytes end
abbrev HasEnd : SessionState → List ℕ → Type 0
HasEnd (Running e t shown) bytes = e ≡ (all_read bytes).ending
HasEnd (Fallen fault begun) bytes = Unit {0}
HasEnd OutOfMemory bytes = Unit {0}

-- the frames that came are of one call
record Made (s : SessionState) (bytes : List ℕ) (came : List Step) : Type 0 where
  steps : MakesOneCall came
  ending : HasEnd s bytes

pub more_read : (a b : List ℕ) → all_read (a ++ b) ≡ read_on (all_read a) b
unfolding all_read
more_read a b = reads_on (Opening preface) a b

by_fault : (fault : Option ConnFault) (e : End) (shown : Option Publication) (caller : Option (List (List ℕ))) (said : Said) (bytes : List ℕ) → e ≡ (all_read bytes).ending → HasEnd (fed_by fault e shown caller said).after bytes
by_fault None e shown caller said bytes is = is
by_fault (Some fault) e shown caller said bytes is = tt

fed_made : (piece : List ℕ) (caller : Option (List (List ℕ))) (s : SessionState) (bytes : List ℕ) (steps : List Step) → AllOfCall (all_read (bytes ++ piece)).frames → Made s bytes steps → Made (feed_told piece caller s).after (bytes ++ piece) (onto_move (Fed piece caller) s steps)
unfolding feed_told
fed_made piece caller (Running e t shown) bytes steps all h =
    let r = reading_from e piece in
    let on : all_read (bytes ++ piece) ≡ read_on (all_read bytes) piece = more_read bytes piece in
    let new : AllOfCall (reading_from (all_read bytes).ending piece).frames = all_back (all_read bytes).frames _ (subst (λ (x : Reading). AllOfCall x.frames) on all) in
    record {
      steps = made_reading r caller t steps (subst (λ (x : End). AllOfCall (reading_from x piece).frames) (sym h.ending) new) h.steps;
      ending = by_fault (feed_said r t).fault r.ending shown caller (feed_said r t) (bytes ++ piece) (rw (on, h.ending) refl);
    }
fed_made piece caller (Fallen fault begun) bytes steps all h = record { steps = h.steps; ending = tt }
fed_made piece caller OutOfMemory bytes steps all h = record { steps = h.steps; ending = tt }

turned_made : (x : Publication) (s : SessionState) (bytes : List ℕ) (steps : List Step) → Made s bytes steps → Made (turn_told x s).after bytes (onto_move (TurnedOn x) s steps)
unfolding turn_told
turned_made x (Running e t shown) bytes steps h = record { steps = (h.steps, tt); ending = h.ending }
turned_made x (Fallen fault begun) bytes steps h = record { steps = h.steps; ending = tt }
turned_made x OutOfMemory bytes steps h = record { steps = h.steps; ending = tt }

given_made : (o : JwtOutcome) (s : SessionState) (bytes : List ℕ) (steps : List Step) → Made s bytes steps → Made (outcome_told o s).after bytes (onto_move (GivenTo o) s steps)
unfolding outcome_told
given_made o (Running e t shown) bytes steps h = record { steps = (h.steps, tt); ending = h.ending }
given_made o (Fallen fault begun) bytes steps h = record { steps = h.steps; ending = tt }
given_made o OutOfMemory bytes steps h = record { steps = h.steps; ending = tt }

fresh_ending : (all_read []).ending ≡ Opening preface
unfolding all_read reading_from after_preface
fresh_ending = refl

all_made : (moves : List Move) → AllOfCall (all_read (bytes_fed moves)).frames → Made (session_after moves) (bytes_fed moves) (steps_of moves)
all_made [] all = record { steps = tt; ending = sym fresh_ending }
all_made (Fed piece caller ∷ before) all =
    let front : AllOfCall (all_read (bytes_fed before)).frames = all_front (all_read (bytes_fed before)).frames _ (subst (λ (x : Reading). AllOfCall x.frames) (more_read (bytes_fed before) piece) all) in
    fed_made piece caller (session_after before) (bytes_fed before) (steps_of before) all (all_made before front)
all_made (TurnedOn x ∷ before) all = turned_made x (session_after before) (bytes_fed before) (steps_of before) (all_made before all)
all_made (GivenTo o ∷ before) all = given_made o (session_after before) (bytes_fed before) (steps_of before) (all_made before all)

pub moves_make : (moves : List Move) → AllOfCall (all_read (bytes_fed moves)).frames → MakesOneCall (steps_of moves)
moves_make moves all = (all_made moves all).steps
