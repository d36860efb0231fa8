-- A seat while it serves (own rules).
use Rattle.std.specs.Prelude.{◌≡◌, ⊤, ℕ, ◌+◌, ◌≤◌, List, [], ◌++◌, length, Option, Some, None, IfSome, Result, Ok, Err}
use Rattle.std.specs.List.{AllByRecursion}
use mathlib.Core.List.{IsPrefix}
use Rattle.wl_entry.specs.declared.asks.Ask.{Ask}
use Rattle.wl_entry.specs.declared.tokens.JwtToken.{JwtToken}
use Rattle.wl_snapshot.specs.Snapshots.{Publication}
use Rattle.wl_edge.specs.Edge.{Rose}
use Rattle.wl_edge.specs.Links.{LinkLog}
use Rattle.wl_edge.specs.declared.origin.Origin.{Origin}
use Rattle.wl_edge.specs.declared.fault.EdgeFault.{EdgeFault}
use Rattle.wl_edge.specs.declared.fault.EdgeFault.TheVariants as edge
use Rattle.wl_edge.specs.Listeners.{ListenerLog, FinishedLink, OnlyAdds, links_given}
use Rattle.wl_edge.specs.declared.listener.AcceptKind.{AcceptKind}
use Rattle.ask_mail.specs.declared.mail.Delivery.{Delivery}
use Rattle.wl_worker.specs.Counts.{RoseBy}
use Rattle.wl_worker.specs.Owners.{items_of}
use Rattle.wl_worker.specs.Numbering.{Numbered, none_apart}
use Rattle.wl_worker.specs.Rounds.{Round}
use Rattle.wl_worker.specs.Served.{ServedState, Stands, HasSeenLast}
use Rattle.wl_worker.specs.Tended.{Known, AreJudged, IsOwn, TookPart, TookFully, SeatWorld, SeatGathers, known, HasNoEnd, HasLastEnd, AcceptsTo}
use Rattle.wl_worker.specs.declared.ended.Ended.{Ended}
use Rattle.wl_worker.specs.declared.ended.Ended.TheVariants as ended
use Rattle.wl_worker.specs.declared.seat.SeatEnd.{SeatEnd}
use Rattle.wl_worker.specs.declared.seat.SeatEnd.TheVariants as seat
use Rattle.wl_worker.specs.declared.step.Step.{Step}
use Rattle.wl_worker.specs.declared.step.Step.TheVariants as step

-- ---- what is seen

-- a link that is served, and the number of its connection
pub record Under : Type 0 where
  pub connection : ℕ
  pub link : FinishedLink
  pub served : ServedState

abbrev pub finished_link : Origin → Option LinkLog → ℕ → ℕ → ℕ → FinishedLink
finished_link origin log failed_receives failed_sends stalls = record { origin = origin; log = log; failed_receives = failed_receives; failed_sends = failed_sends; stalls = stalls }

abbrev pub under : ℕ → FinishedLink → ServedState → Under
under connection link served = record { connection = connection; link = link; served = served }

-- a seat with its pass; `next` is the number of the next connection
pub record SeatView : Type 0 where
  pub room : ℕ
  pub next : ℕ
  pub listener_faults : ℕ
  pub ready_faults : ℕ
  pub world : SeatWorld

abbrev pub seat_view : ℕ → ℕ → ℕ → ℕ → SeatWorld → SeatView
seat_view room next listener_faults ready_faults world =
    record { room = room; next = next; listener_faults = listener_faults; ready_faults = ready_faults; world = world }

abbrev pub seen_by : SeatView → List Publication
seen_by w = w.world.around.pass.seen

-- ---- what has to hold of the links that are served

-- The listener gave so many links more than it finished, or more.
abbrev pub HasOpen : Option ListenerLog → ℕ → Type 0
HasOpen told n = IfSome told (λ log. length log.finished + n ≤ links_given log.kinds)

-- The publication of each one's last turn was seen.
abbrev pub HaveSeenLast : List Publication → List Under → Type 0
HaveSeenLast seen links = AllByRecursion (λ u. HasSeenLast seen u.served.session) links

pub record Fit (w : SeatView) (links : List Under) : Type 0 where
  pub is_open : HasOpen w.world.listener (length links)
  pub seen : HaveSeenLast (seen_by w) links

-- ---- what a part of serving does

-- The listener gave these answers; of the links that were open and those that it gave so many are open now, and
-- the others were finished.
pub record Listens (before after : ListenerLog) (was_open now_open : ℕ) (kinds : List AcceptKind) : Type 0 where
  pub finished : List FinishedLink
  pub kinds_are : after.kinds ≡ before.kinds ++ kinds
  pub finished_are : after.finished ≡ before.finished ++ finished
  pub count : was_open + links_given kinds ≡ length finished + now_open

abbrev pub ListensOn : Option ListenerLog → Option ListenerLog → ℕ → ℕ → List AcceptKind → Type 0
ListensOn None new was_open now_open kinds = new ≡ None
ListensOn (Some before) new was_open now_open kinds = (after : ListenerLog) × (new ≡ Some after) × Listens before after was_open now_open kinds

-- from these links to those
pub record Goes (old new : SeatView) (links_before links_now : List Under) (kinds : List AcceptKind) : Type 0 where
  pub room : new.room ≡ old.room
  pub sockets : OnlyAdds old.world.sockets new.world.sockets
  pub listens : old.listener_faults ≤ new.listener_faults
  pub waits : old.ready_faults ≤ new.ready_faults
  pub sees : IsPrefix (seen_by old) (seen_by new)
  pub listener : ListensOn old.world.listener new.world.listener (length links_before) (length links_now) kinds
  pub keep_seen : HaveSeenLast (seen_by old) links_before → HaveSeenLast (seen_by new) links_now

-- The count of links for which memory ran out rises where a link ended so, and else stays.
abbrev pub CountsStarved : Ended → ℕ → ℕ → Type 0
CountsStarved ended.Closed before now = now ≡ before
CountsStarved (ended.Protocol f) before now = now ≡ before
CountsStarved ended.ReadFault before now = now ≡ before
CountsStarved ended.WriteFault before now = now ≡ before
CountsStarved ended.Memory before now = RoseBy 1 before now

-- which answers the listener gave by the end of a step
abbrev pub StepAccepts : Step → List AcceptKind → Type 0
StepAccepts step.On kinds = HasNoEnd kinds
StepAccepts step.Idle kinds = HasNoEnd kinds
StepAccepts step.Closed kinds = HasLastEnd kinds
StepAccepts (step.Over end) kinds = AcceptsTo end kinds

-- a fault comes only where its count rose
abbrev pub EndFits : SeatEnd → SeatView → SeatView → Type 0
EndFits seat.End old new = ⊤
EndFits seat.ListenFault old new = Rose old.listener_faults new.listener_faults
EndFits seat.WaitFault old new = Rose old.ready_faults new.ready_faults
EndFits seat.Memory old new = ⊤

abbrev pub StepFits : Step → SeatView → SeatView → Type 0
StepFits step.On old new = ⊤
StepFits step.Idle old new = ⊤
StepFits step.Closed old new = ⊤
StepFits (step.Over end) old new = EndFits end old new

-- a step
pub record Stepped (old new : SeatView) (links_before links_now : List Under) (s : Step) : Type 0 where
  pub kinds : List AcceptKind
  pub goes : Goes old new links_before links_now kinds
  pub accepts : StepAccepts s kinds
  pub fits : StepFits s old new

-- the end of a seat whose watcher had no answer
abbrev pub seat_end_of : EdgeFault → SeatEnd
seat_end_of edge.Failed = seat.WaitFault
seat_end_of edge.Memory = seat.Memory

-- the links that are left once there will be no more; at the end none is
abbrev pub RestsAt : SeatEnd → List Under → Type 0
RestsAt seat.End links = links ≡ []
RestsAt seat.ListenFault links = ⊥
RestsAt seat.WaitFault links = ⊤
RestsAt seat.Memory links = ⊤

pub record Rests (old new : SeatView) (links_before links_now : List Under) (end : SeatEnd) : Type 0 where
  pub goes : Goes old new links_before links_now []
  pub rests : RestsAt end links_now
  pub fits : EndFits end old new

-- all of them until the seat has ended, except the links that it still serves
pub record EndedBy (old new : SeatView) (links_before links_now : List Under) (end : SeatEnd) : Type 0 where
  pub kinds : List AcceptKind
  pub goes : Goes old new links_before links_now kinds
  pub accepts : AcceptsTo end kinds
  pub fits : EndFits end old new

-- ---- what holds of all links of a seat

-- It has this number, came over one of the seat's sockets, its rounds asked by its origin, and it stands between two of them.
abbrev pub Runs : Known → ℕ → Under → List Round → Type 0
Runs k n u past = (u.connection ≡ n) × IsOwn k.sockets u.link.origin past × IfSome u.link.log (λ log. Stands log u.served k.seen past × AreJudged k n past)

-- A seat while it serves: the links under way, in their order, and so many that were finished as they stood. No link has a number
-- from `next` on.
pub record Tending (vouched : Ask → List (List ℕ) → JwtToken → Type 0) (next : ℕ) (old new : SeatWorld) (broken : ℕ) (links : List Under) : Type 0 where
  pub running : List (ℕ × Under)
  pub fulls : List (ℕ × FinishedLink)
  pub lates : List (ℕ × FinishedLink)
  pub rounds : List (ℕ × Round)
  pub signed : List Delivery
  pub times : List ℕ
  pub starved : List ℕ
  pub links_are : items_of running ≡ links
  pub count : length lates ≡ broken
  pub gathers : SeatGathers old new (items_of rounds) signed times starved (items_of fulls ++ items_of lates) (length links)
  pub numbered : Numbered (Runs (known vouched new signed times starved)) (TookFully (known vouched new signed times starved)) (TookPart (known vouched new signed times starved)) none_apart running fulls lates rounds next

-- By which relation tokens are vouched for, and what the seat was at its start.
module _ (vouched : Ask → List (List ℕ) → JwtToken → Type 0) (first : SeatWorld) where
  -- it goes on
  abbrev pub TendsOn : SeatView → List Under → Type 0
  TendsOn w links = Tending vouched w.next first w.world 0 links × (length links ≤ w.room)

  -- It has ended, except these links; with those that it finished as they stood they are no more than its room.
  abbrev pub TendsRest : SeatView → List Under → Type 0
  TendsRest w links = (broken : ℕ) × Tending vouched w.next first w.world broken links × (broken + length links ≤ w.room)

  -- The same, where those links and these are so many together.
  abbrev pub TendsLast : SeatView → ℕ → List Under → Type 0
  TendsLast w n links = (broken : ℕ) × Tending vouched w.next first w.world broken links × (broken + length links ≡ n)

  -- by its end
  abbrev pub TendsBy : SeatView → List Under → SeatEnd → Type 0
  TendsBy w links seat.End = TendsOn w links × (links ≡ [])
  TendsBy w links seat.ListenFault = TendsRest w links
  TendsBy w links seat.WaitFault = TendsRest w links
  TendsBy w links seat.Memory = TendsRest w links

  -- by the end of a step
  abbrev pub TendsAfter : SeatView → List Under → Step → Type 0
  TendsAfter w links step.On = TendsOn w links
  TendsAfter w links step.Idle = TendsOn w links
  TendsAfter w links step.Closed = TendsOn w links
  TendsAfter w links (step.Over end) = TendsBy w links end

-- A part of serving, from where the seat goes on, if all its links tell their content.
pub record KeepsTending (tells : Type 0) (vouched : Ask → List (List ℕ) → JwtToken → Type 0) (old new : SeatView) (links_before links_now : List Under) (s : Step) : Type 0 where
  pub keeps : tells → (first : SeatWorld) → TendsOn vouched first old links_before → TendsAfter vouched first new links_now s

-- links are finished as they stand, and none else
pub record FinishesTending (vouched : Ask → List (List ℕ) → JwtToken → Type 0) (old new : SeatView) (links_before links_now : List Under) : Type 0 where
  pub keeps : (first : SeatWorld) (n : ℕ) → TendsLast vouched first old n links_before → TendsLast vouched first new n links_now

-- what a turn comes to
abbrev pub turn_step : Result (Unit {0}) EdgeFault → Step
turn_step (Ok done) = step.On
turn_step (Err fault) = step.Over (seat_end_of fault)
