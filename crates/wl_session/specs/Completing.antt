-- What the streams of ready calls have of their messages, and that a turn leaves none over.
use Rattle.std.specs.Prelude.{◌≡◌, ℕ, ◌≤◌, List, [], ◌∷◌, Option, Some, None, Result, IsSome}
use Rattle.std.specs.List.{AllByRecursion}
use Rattle.h2_conn.specs.declared.phase.Phase.{Phase}
use Rattle.h2_conn.specs.declared.phase.Phase.TheVariants as phase
use Rattle.h2_conn.specs.Sound.{SoundPhase}
use Rattle.h2_conn.specs.Holding.{ClaimOn, IsHeld, IsSilent}
use Rattle.grpc_wire.specs.Messages.{framed}
use Rattle.grpc_conn.specs.declared.standing.Call.{Call}
use Rattle.grpc_conn.specs.Calls.{standing_at}
use Rattle.wl_health.specs.Messages.{spell_state}
use Rattle.wl_snapshot.specs.Snapshots.{Publication}
use Rattle.wl_snapshot.specs.Views.{ViewModel, view_in}
use Rattle.wl_snapshot.specs.Answers.{answer_of}
use Rattle.wl_snapshot.specs.declared.answers.Answer.{Answer}
use Rattle.wl_snapshot.specs.declared.answers.Answer.TheVariants.{Denied, Wait, TooLong, Message}
use Rattle.wl_session.specs.declared.asks.JwtOutcome.{JwtOutcome}
use Rattle.wl_session.specs.declared.asks.SessionFault.{SessionFault}
use Rattle.wl_session.specs.declared.served.CallKind.{CallKind}
use Rattle.wl_session.specs.declared.served.CallKind.TheVariants.{Stream, Tokens, Check, Watch}
use Rattle.wl_session.specs.declared.served.Stage.{Stage}
use Rattle.wl_session.specs.declared.served.Stage.TheVariants.{Unnamed, Ready, Asking}
use Rattle.wl_session.specs.declared.served.ServedCall.{ServedCall}
use Rattle.wl_session.specs.Answering.{health_of}
use Rattle.wl_session.specs.Talks.{Talking}
use Rattle.wl_session.specs.Sessions.{SessionState, Running, Fallen, OutOfMemory, Feeds, Turns, Names, GivesOutcome, unnamed_in, asks_in}

-- ---- the stream of one call, where it is live

-- the message of this answer waits there, or began last and none waits; or none waits where the answer is to wait
abbrev pub HasAnswer : ℕ → Answer → Phase → Type 0
HasAnswer n Denied p = Unit {0}
HasAnswer n Wait p = ClaimOn n IsSilent p
HasAnswer n (TooLong size) p = Unit {0}
HasAnswer n (Message m) p = ClaimOn n (IsHeld (framed m)) p

-- so it is with a streaming call's answer on a view, Watch included
abbrev pub HasAnswerOn : ℕ → CallKind → ViewModel → Phase → Type 0
HasAnswerOn n (Stream method) v p = HasAnswer n (answer_of method v) p
HasAnswerOn n (Tokens audience id) v p = Unit {0}
HasAnswerOn n (Check service) v p = Unit {0}
HasAnswerOn n (Watch service) v p = ClaimOn n (IsHeld (framed (spell_state (health_of service v)))) p

-- and on the view that answered it last, if one did
abbrev pub HasLastAnswer : ℕ → CallKind → Option ViewModel → Phase → Type 0
HasLastAnswer n kind None p = Unit {0}
HasLastAnswer n kind (Some v) p = HasAnswerOn n kind v p

abbrev pub ShowsStage : ℕ → Stage → Phase → Type 0
ShowsStage n (Unnamed kind) p = Unit {0}
ShowsStage n (Ready kind sel seen headed) p = HasLastAnswer n kind seen p
ShowsStage n (Asking first rest got) p = Unit {0}

-- the stream was opened
abbrev pub CameOn : ℕ → Phase → Type 0
CameOn n (phase.Open q) = n ≤ q.last_stream_id
CameOn n (phase.Failed fault left totals) = Unit {0}
CameOn n (phase.OutOfMemory totals) = Unit {0}

abbrev pub Shows : Phase → ServedCall → Type 0
Shows p c = CameOn c.stream p × ShowsStage c.stream c.stage p

-- ---- all calls

-- no two are on one stream
abbrev pub AreApart : List ServedCall → Type 0
AreApart [] = Unit {0}
AreApart (c ∷ cs) = AllByRecursion (λ d. d.stream ≡ c.stream → ⊥) cs × AreApart cs

-- a ready call does not wait for its verdict
abbrev pub IsDecided : List Call → ServedCall → Type 0
IsDecided calls c = standing_at c.stream calls ≡ None

-- each call that a turn answered has its answer still
pub record IsComplete (t : Talking) : Type 0 where
  pub sound : SoundPhase t.phase
  pub apart : AreApart t.served
  pub decided : AllByRecursion (IsDecided t.calls) t.served
  pub shows : AllByRecursion (Shows t.phase) t.served

abbrev pub IsCompleteIn : SessionState → Type 0
IsCompleteIn (Running e t x) = IsComplete t
IsCompleteIn (Fallen f begun) = Unit {0}
IsCompleteIn OutOfMemory = Unit {0}

-- ---- a turn

-- a ready call has its answer on its view of this publication
abbrev pub IsAnsweredOn : Publication → ℕ → Stage → Phase → Type 0
IsAnsweredOn x n (Unnamed kind) p = Unit {0}
IsAnsweredOn x n (Ready kind sel seen headed) p = HasAnswerOn n kind (view_in x sel) p
IsAnsweredOn x n (Asking first rest got) p = Unit {0}

abbrev pub IsAnswered : Publication → Phase → ServedCall → Type 0
IsAnswered x p c = IsAnsweredOn x c.stream c.stage p

abbrev pub AllAnswered : Publication → SessionState → Type 0
AllAnswered x (Running e t last) = AllByRecursion (IsAnswered x t.phase) t.served
AllAnswered x (Fallen f begun) = Unit {0}
AllAnswered x OutOfMemory = Unit {0}

-- ---- laws

abbrev pub FeedKeepsComplete : Type 0
FeedKeepsComplete = (piece : List ℕ) (old new : SessionState) (r : Result (Unit {0}) SessionFault) (before after : List ℕ) → Feeds piece old r before after new → IsCompleteIn old → IsCompleteIn new

abbrev pub NameKeepsComplete : Type 0
NameKeepsComplete = (sel : Option (List (List ℕ))) (old new : SessionState) (r : Result (Unit {0}) SessionFault) (before after : List ℕ) → IsSome (unnamed_in old) → Names sel old r before after new → IsCompleteIn old → IsCompleteIn new

abbrev pub TokenKeepsComplete : Type 0
TokenKeepsComplete = (o : JwtOutcome) (old new : SessionState) (r : Result (Unit {0}) SessionFault) (before after : List ℕ) → IsSome (asks_in old) → GivesOutcome o old r before after new → IsCompleteIn old → IsCompleteIn new

-- after a turn each ready streaming call has its answer on its view of the turn's publication
abbrev pub TurnAnswersAll : Type 0
TurnAnswersAll = (x : Publication) (old new : SessionState) (r : Result (Unit {0}) SessionFault) (before after : List ℕ) → Turns x old r before after new → IsCompleteIn old → IsCompleteIn new × AllAnswered x new
