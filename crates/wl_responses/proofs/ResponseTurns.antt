-- The turn of a response was taken, from all that holds of each turn when it is taken.
use Rattle.std.proofs.Common.{◌≡◌, inl, inr, ℕ, length, drop, nat_lt, Bool, true, false, if◌then◌else◌, List, [], ◌∷◌, ◌++◌, Option, Some, None, refl}
use Rattle.wl_responses.proofs.Common.{JwtToken, Publication, JwtOutcome, CallKind, Stage, Unnamed, Ready, Asking, Step, FrameCame, BytesBroke, CallAttested, TurnTaken, OutcomeCame, talk_after, AnsweringTurn, Response, Replies, replies_with, stage_on, answering, with_outcome, asks_first, turn_after, turn_on, replies_on}
use Rattle.wl_session.specs.declared.asks.JwtOutcome.TheVariants as outcomes
use Rattle.wl_responses.specs.Replies.{begin_with}
use Rattle.wl_responses.specs.Responses.{IsReadyAs, WasTaken, IfTurn, AllTurns, StreamsHaveTurns}

-- ---- what holds of turns

-- what is said of a turn after some steps: it stays said, whatever tokens come, and it holds of a turn that is taken
pub record Lasting (n : ℕ) (P : List Step → AnsweringTurn → Type 0) : Type 0 where
  pub later : (step : Step) (before : List Step) (turn : AnsweringTurn) → P before turn → P (step ∷ before) turn
  pub token : (steps : List Step) (turn : AnsweringTurn) (tokens : List JwtToken) → P steps turn → P steps (record turn { tokens = tokens })
  pub taken : (x : Publication) (before : List Step) (kind : CallKind) (sel : List (List ℕ)) → IsReadyAs kind sel (stage_on n (talk_after before).served) → P (TurnTaken x ∷ before) (record { publication = x; kind = kind; selectors = sel; tokens = [] })

-- so it is with the latest turn, and with those of all responses
record Have (P : AnsweringTurn → Type 0) (turn : Option AnsweringTurn) (begun : List Response) : Type 0 where
  latest : IfTurn P turn
  all : AllTurns P begun

if_weaker : (P Q : AnsweringTurn → Type 0) → ((t : AnsweringTurn) → P t → Q t) → (turn : Option AnsweringTurn) → IfTurn P turn → IfTurn Q turn
if_weaker P Q go None h = tt
if_weaker P Q go (Some t) h = go t h

all_weaker : (P Q : AnsweringTurn → Type 0) → ((t : AnsweringTurn) → P t → Q t) → (begun : List Response) → AllTurns P begun → AllTurns Q begun
all_weaker P Q go [] h = tt
all_weaker P Q go (r ∷ begun) h = (if_weaker P Q go r.turn h.0, all_weaker P Q go begun h.1)

have_weaker : (P Q : AnsweringTurn → Type 0) → ((t : AnsweringTurn) → P t → Q t) → (turn : Option AnsweringTurn) (begun : List Response) → Have P turn begun → Have Q turn begun
have_weaker P Q go turn begun h = record { latest = if_weaker P Q go turn h.latest; all = all_weaker P Q go begun h.all }

began : (P : AnsweringTurn → Type 0) (bytes : List ℕ) (turn : Option AnsweringTurn) (w : Option (List ℕ)) (r : Replies) → Have P turn r.begun → Have P turn (begin_with bytes turn w r).begun
began P bytes turn None r h = h
began P bytes turn (Some m) r h = record { latest = h.latest; all = (h.latest, h.all) }

written : (P : AnsweringTurn → Type 0) (bytes : List ℕ) (turn : Option AnsweringTurn) (w : Option (List ℕ)) (r : Replies) → Have P turn r.begun → Have P turn (replies_with bytes turn w r).begun
unfolding replies_with
written P bytes turn w r h = go (nat_lt (length r.left) (length bytes)) (began P bytes turn w r h)
  where
    go : (b : Bool) → Have P turn (begin_with bytes turn w r).begun → Have P turn (if b then begin_with bytes turn w r else record r { written = r.written ++ bytes; left = drop (length bytes) r.left }).begun
    go true begins = begins
    go false begins = h

-- ---- a step

answered : (n : ℕ) (P : List Step → AnsweringTurn → Type 0) → Lasting n P → (x : Publication) (before : List Step) (s : Option Stage) (turn : Option AnsweringTurn) → stage_on n (talk_after before).served ≡ s → IfTurn (P (TurnTaken x ∷ before)) turn
    → IfTurn (P (TurnTaken x ∷ before)) (answering x s turn)
answered n P lasting x before None turn is h = h
answered n P lasting x before (Some (Unnamed kind)) turn is h = h
answered n P lasting x before (Some (Ready kind sel seen headed)) turn is h = lasting.taken x before kind sel (rw is (refl, refl))
answered n P lasting x before (Some (Asking first rest got)) turn is h = h

outcome_had : (n : ℕ) (P : List Step → AnsweringTurn → Type 0) → Lasting n P → (steps : List Step) (o : JwtOutcome) (turn : Option AnsweringTurn) → IfTurn (P steps) turn → IfTurn (P steps) (with_outcome o turn)
outcome_had n P lasting steps (outcomes.Token t) None h = tt
outcome_had n P lasting steps (outcomes.Token t) (Some turn) h = lasting.token steps turn (turn.tokens ++ t ∷ []) h
outcome_had n P lasting steps outcomes.Failed turn h = h
outcome_had n P lasting steps (outcomes.Unfit why) turn h = h

given : (n : ℕ) (P : List Step → AnsweringTurn → Type 0) → Lasting n P → (steps : List Step) (b : Bool) (o : JwtOutcome) (turn : Option AnsweringTurn) → IfTurn (P steps) turn → IfTurn (P steps) (if b then with_outcome o turn else turn)
given n P lasting steps true o turn h = outcome_had n P lasting steps o turn h
given n P lasting steps false o turn h = h

-- ---- all steps

have : (n : ℕ) (P : List Step → AnsweringTurn → Type 0) → Lasting n P → (steps : List Step) → Have (P steps) (turn_on n steps) (replies_on n steps).begun
have n P lasting [] = record { latest = tt; all = tt }
have n P lasting (FrameCame f ∷ before) = written (P (FrameCame f ∷ before)) _ (turn_on n before) _ (replies_on n before) (have_weaker (P before) (P (FrameCame f ∷ before)) (lasting.later (FrameCame f) before) _ _ (have n P lasting before))
have n P lasting (BytesBroke why ∷ before) = written (P (BytesBroke why ∷ before)) _ (turn_on n before) _ (replies_on n before) (have_weaker (P before) (P (BytesBroke why ∷ before)) (lasting.later (BytesBroke why) before) _ _ (have n P lasting before))
have n P lasting (CallAttested caller ∷ before) = written (P (CallAttested caller ∷ before)) _ (turn_on n before) _ (replies_on n before) (have_weaker (P before) (P (CallAttested caller ∷ before)) (lasting.later (CallAttested caller) before) _ _ (have n P lasting before))
have n P lasting (TurnTaken x ∷ before) =
    let old = have_weaker (P before) (P (TurnTaken x ∷ before)) (lasting.later (TurnTaken x) before) _ _ (have n P lasting before) in
    let s = stage_on n (talk_after before).served in
    written (P (TurnTaken x ∷ before)) _ (answering x s (turn_on n before)) _ (replies_on n before) (record { latest = answered n P lasting x before s (turn_on n before) refl old.latest; all = old.all })
have n P lasting (OutcomeCame o ∷ before) =
    let steps = OutcomeCame o ∷ before in
    let old = have_weaker (P before) (P steps) (lasting.later (OutcomeCame o) before) _ _ (have n P lasting before) in
    written (P steps) _ (turn_after n (OutcomeCame o) (talk_after before) (turn_on n before)) _ (replies_on n before)
    (record { latest = given n P lasting steps (asks_first n (talk_after before).served) o (turn_on n before) old.latest; all = old.all })

pub all_have : (n : ℕ) (P : List Step → AnsweringTurn → Type 0) → Lasting n P → (steps : List Step) → AllTurns (P steps) (replies_on n steps).begun
all_have n P lasting steps = (have n P lasting steps).all

-- ---- it was taken

same_turn : (n : ℕ) (turn : AnsweringTurn) (tokens : List JwtToken) (steps : List Step) → WasTaken n turn steps → WasTaken n (record turn { tokens = tokens }) steps
same_turn n turn tokens [] h = h
same_turn n turn tokens (FrameCame f ∷ before) (inl h) = absurd h
same_turn n turn tokens (BytesBroke why ∷ before) (inl h) = absurd h
same_turn n turn tokens (CallAttested caller ∷ before) (inl h) = absurd h
same_turn n turn tokens (TurnTaken x ∷ before) (inl h) = inl h
same_turn n turn tokens (OutcomeCame o ∷ before) (inl h) = absurd h
same_turn n turn tokens (step ∷ before) (inr h) = inr (same_turn n turn tokens before h)

pub begun_taken : StreamsHaveTurns
begun_taken n steps = all_have n (λ steps turn. WasTaken n turn steps) (record { later = λ step before turn h. inr h; token = λ steps turn tokens h. same_turn n turn tokens steps h; taken = λ x before kind sel is. inl (refl, is) }) steps
