-- A call that a turn answered, and that goes on, is not refused on the view of that turn.
use Rattle.std.proofs.Common.{◌≡◌, List, [], ◌∷◌, Option, Some, None, refl, ap}
use Rattle.std.specs.List.{AllByRecursion}
use Rattle.wl_responses.proofs.Common.{Publication, ViewModel, view_in, CallKind, Stream, Tokens, Check, Watch, Stage, Unnamed, Ready, Asking, ServedCall, Refusal, Talking, break_said, Step, FrameCame, BytesBroke, CallAttested, TurnTaken, OutcomeCame, step_said, talk_after}
use Rattle.wl_session.specs.Talks.{written}
use Rattle.wl_session.proofs.CallWalk.{CallRule, IsKept as IsCallKept, IsKeptOn, StaysOpen, frame_each, name_each, turn_each, given_each}
use Rattle.wl_responses.specs.Statuses.{GoesOn, refused_or, ending_on}

-- on the view that answered it last, if one did
abbrev pub IsKept : CallKind → Option ViewModel → Type 0
IsKept kind None = Unit {0}
IsKept kind (Some v) = ending_on kind v ≡ GoesOn

abbrev pub StageGoes : Stage → Type 0
StageGoes (Unnamed kind) = Unit {0}
StageGoes (Ready kind sel seen headed) = IsKept kind seen
StageGoes (Asking first rest got) = Unit {0}

abbrev pub CallGoes : ServedCall → Type 0
CallGoes c = StageGoes c.stage

abbrev pub AllGo : List ServedCall → Type 0
AllGo cs = AllByRecursion CallGoes cs

-- ---- the walk

abbrev goes : CallRule
goes n s = StageGoes s

goes_kept : IsCallKept goes
goes_kept = record { fresh = λ n kind. tt; next = λ n first w ws got more h. tt }

open_goes : (kind : CallKind) (v : ViewModel) → StaysOpen kind v → ending_on kind v ≡ GoesOn
open_goes (Stream method) v goes = ap (λ (r : Option Refusal). refused_or r GoesOn) goes
open_goes (Tokens audience id) v goes = absurd goes
open_goes (Check service) v goes = absurd goes
open_goes (Watch service) v goes = refl

goes_kept_on : (x : Publication) → IsKeptOn goes x
goes_kept_on x = record { answered = λ n kind sel seen headed now goes h. open_goes kind (view_in x sel) goes; asked = λ n audience id sel seen headed w ws is h. tt }

-- ---- all steps

step_goes : (step : Step) (t : Talking) → AllGo t.served → AllGo (step_said step t).after.served
unfolding break_said written
step_goes (FrameCame f) t h = frame_each goes goes_kept f t h
step_goes (BytesBroke why) t h = h
step_goes (CallAttested caller) t h = name_each goes caller t (λ n kind sel is same. tt) h
step_goes (TurnTaken x) t h = turn_each goes x (goes_kept_on x) t h
step_goes (OutcomeCame o) t h = given_each goes goes_kept o t h

pub all_go : (steps : List Step) → AllGo (talk_after steps).served
all_go [] = tt
all_go (step ∷ before) = step_goes step (talk_after before) (all_go before)
