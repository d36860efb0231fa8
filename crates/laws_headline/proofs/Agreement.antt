-- Agreement on the data is agreement on the views.
use Rattle.std.proofs.Common.{List, [], ◌∷◌, Option, Some, None}
use Rattle.wl_snapshot.specs.Snapshots.{Publication}
use Rattle.wl_session.specs.declared.served.Stage.{Stage}
use Rattle.wl_session.specs.declared.served.Stage.TheVariants.{Unnamed, Ready, Asking}
use Rattle.wl_session.specs.declared.served.ServedCall.{ServedCall}
use Rattle.wl_session.specs.Agreeing.{SeesAlike, SeeAlike}
use Rattle.wl_session.specs.Sessions.{SessionState, Running, Fallen, OutOfMemory}
use Rattle.wl_responses.specs.Moves.{Move, session_after as moved}
use Rattle.wl_worker.specs.Rounds.{Round, named_session, session_after}
use Rattle.wl_served.specs.Agreeing.{SeeAlikeIn, AgreeOnTurn, AllAgree, ServedAreIsolated}
use Rattle.wl_served.specs.Owning.{Agree, MovesAgree, RunsThatAgree}
use Rattle.wl_served.specs.Owning as views
use Rattle.laws_headline.specs.Agreeing.{OwnAgrees, OwnOfAllAgrees, OwnAgreesIn, SameData, fed, turned, given, MovesHaveSameData, RunsOnSameData, SameDataAtTurn, RoundsHaveSameData, ServedOnSameData}
use Rattle.laws_headline.proofs.Views.{own_views}

stage_alike : (x y : Publication) (s : Stage) → OwnAgrees x y s → SeesAlike x y s
stage_alike x y (Unnamed kind) own = tt
stage_alike x y (Ready kind sel seen headed) own = own_views sel x y own
stage_alike x y (Asking first rest got) own = tt

calls_alike : (x y : Publication) (cs : List ServedCall) → OwnOfAllAgrees x y cs → SeeAlike x y cs
calls_alike x y [] own = tt
calls_alike x y (c ∷ cs) own = (stage_alike x y c.stage own.0, calls_alike x y cs own.1)

session_alike : (x y : Publication) (s : SessionState) → OwnAgreesIn x y s → SeeAlikeIn x y s
session_alike x y (Running e t shown) own = calls_alike x y t.served own
session_alike x y (Fallen fault begun) own = tt
session_alike x y OutOfMemory own = tt

move_agrees : (m n : Move) (s : SessionState) → SameData m n s → Agree m n s
move_agrees _ _ s (fed piece caller _) = views.fed piece caller s
move_agrees _ _ s (turned x y _ own) = views.turned x y s (session_alike x y s own)
move_agrees _ _ s (given o _) = views.given o s

moves_agree : (moves other : List Move) → MovesHaveSameData moves other → MovesAgree moves other
moves_agree [] [] same = tt
moves_agree [] (n ∷ other) same = absurd same
moves_agree (m ∷ moves) [] same = absurd same
moves_agree (m ∷ moves) (n ∷ other) same = (move_agrees m n (moved moves) same.0, moves_agree moves other same.1)

pub runs_alike : RunsThatAgree → RunsOnSameData
runs_alike law d d2 past later conn conn2 s s2 moves other few few2 is is2 are are2 same =
    law d d2 past later conn conn2 s s2 moves other few few2 is is2 are are2 (moves_agree moves other same)

turn_agrees : (p q : Option Publication) (s : SessionState) → SameDataAtTurn p q s → AgreeOnTurn p q s
turn_agrees None None s same = tt
turn_agrees None (Some y) s same = absurd same
turn_agrees (Some x) None s same = absurd same
turn_agrees (Some x) (Some y) s same = session_alike x y s same

rounds_agree : (past other : List Round) → RoundsHaveSameData past other → AllAgree past other
rounds_agree [] [] same = tt
rounds_agree [] (q ∷ other) same = absurd same
rounds_agree (r ∷ past) [] same = absurd same
rounds_agree (r ∷ past) (q ∷ other) same =
    (record { piece = same.0.piece; answers = same.0.answers; shown = turn_agrees r.shown q.shown (named_session r (session_after past)) same.0.shown; outcomes = same.0.outcomes }, rounds_agree past other same.1)

pub served_alike : ServedAreIsolated → ServedOnSameData
served_alike law past other same = law past other (rounds_agree past other same)
