-- A seat: what its links took, and to which of them each of its rounds belongs (own rules).
use Rattle.std.specs.Prelude.{◌≡◌, ◌⊎◌, ⊤, ℕ, ◌+◌, ◌<◌, ◌≤◌, List, [], ◌∷◌, ◌++◌, length, Option, Some, IfSome}
use Rattle.std.specs.List.{AllByRecursion}
use mathlib.Core.List.{IsPrefix}
use Rattle.h2_conn.specs.declared.fault.ConnFault.{ConnFault}
use Rattle.wl_entry.specs.declared.asks.Ask.{Ask}
use Rattle.wl_entry.specs.declared.tokens.JwtToken.{JwtToken}
use Rattle.wl_snapshot.specs.Snapshots.{Publication}
use Rattle.wl_edge.specs.Links.{LinkLog}
use Rattle.wl_edge.specs.Listeners.{ListenerLog, FinishedLink, BoundSocket, CameOver, links_given}
use Rattle.wl_edge.specs.declared.origin.Origin.{Origin}
use Rattle.wl_edge.specs.declared.listener.AcceptKind.{AcceptKind}
use Rattle.wl_edge.specs.declared.listener.AcceptKind.TheVariants as kind
use Rattle.ask_mail.specs.declared.mail.Delivery.{Delivery}
use Rattle.wl_worker.specs.Counts.{RoseBy}
use Rattle.wl_worker.specs.Outcomes.{asker, unanswered, unsigned, GainsAll, Ticked, attestor_calls, IsOutcome}
use Rattle.wl_worker.specs.Owners.{owned_by, items_of, tally}
use Rattle.wl_worker.specs.Rounds.{Round, numbers, answers, outcomes, AskedBy, AreOutcomes, IsIn}
use Rattle.wl_worker.specs.Served.{Around, Began}
use Rattle.wl_worker.specs.Connections.{CameTo}
use Rattle.wl_worker.specs.declared.ended.Ended.TheVariants as ended
use Rattle.wl_worker.specs.declared.seat.SeatEnd.{SeatEnd}
use Rattle.wl_worker.specs.declared.seat.SeatEnd.TheVariants as seat

-- ---- what a seat's listener did

-- no answer was that there will be no more links
abbrev pub HasNoEnd : List AcceptKind → Type 0
HasNoEnd [] = ⊤
HasNoEnd (kind.Link ∷ more) = HasNoEnd more
HasNoEnd (kind.Idle ∷ more) = HasNoEnd more
HasNoEnd (kind.End ∷ more) = ⊥
HasNoEnd (kind.Failed ∷ more) = HasNoEnd more

-- the last one was, and none before it
abbrev pub HasLastEnd : List AcceptKind → Type 0
HasLastEnd kinds = (before : List AcceptKind) × (kinds ≡ before ++ kind.End ∷ []) × HasNoEnd before

-- A seat ends by End exactly where its listener gave its end, unless the watching failed or memory ran out later.
abbrev pub AcceptsTo : SeatEnd → List AcceptKind → Type 0
AcceptsTo seat.End kinds = HasLastEnd kinds
AcceptsTo seat.ListenFault kinds = HasNoEnd kinds
AcceptsTo seat.WaitFault kinds = ⊤
AcceptsTo seat.Memory kinds = ⊤

-- The listener gave these answers, and as many links were finished as it gave.
pub record FinishesAll (end : SeatEnd) (before after : ListenerLog) : Type 0 where
  pub kinds : List AcceptKind
  pub finished : List FinishedLink
  pub kinds_are : after.kinds ≡ before.kinds ++ kinds
  pub finished_are : after.finished ≡ before.finished ++ finished
  pub all : links_given kinds ≡ length finished
  pub end_is : AcceptsTo end kinds

abbrev pub ListenedTo : SeatEnd → Option ListenerLog → Option ListenerLog → Type 0
ListenedTo end old new = IfSome old (λ before. (after : ListenerLog) × (new ≡ Some after) × FinishesAll end before after)

-- ---- one link

-- The link took the whole of the talk of its rounds. Closed: it gave its end, or the talk is done, and one number was read for
-- each piece. Protocol: the talk has failed, and one number fewer was read.
abbrev pub TookAll : LinkLog → List Round → Type 0
TookAll log past = CameTo ended.Closed log.gave log.took past ⊎ ((f : ConnFault) × CameTo (ended.Protocol f) log.gave log.took past)

-- What is known of all links of a seat: its listener's sockets, what the pass has seen, which tokens are vouched for, what
-- came for its asks, the times that the clock told, and the numbers of the links for which memory ran out.
pub record Known : Type 1 where
  pub sockets : Option (List BoundSocket)
  pub seen : List Publication
  pub vouched : Ask → List (List ℕ) → JwtToken → Type 0
  pub signed : List Delivery
  pub times : List ℕ
  pub starved : List ℕ

-- the outcomes of the rounds of the link of this number are as they may be
abbrev pub AreJudged : Known → ℕ → List Round → Type 0
AreJudged k n past = AreOutcomes (IsOutcome (asker n k.vouched) k.signed k.times) past

-- A link of this origin came over one of these sockets, if they are known, and in all its rounds the attestor was asked by
-- this origin.
pub record IsOwn (sockets : Option (List BoundSocket)) (origin : Origin) (past : List Round) : Type 0 where
  pub came : CameOver sockets origin
  pub asked : AskedBy origin past

-- A link that was finished, of this number, took a prefix of the talk of its rounds, in all of which the attestor was asked by
-- the link's own origin.
abbrev pub TookPart : Known → ℕ → FinishedLink → List Round → Type 0
TookPart k n link past = IsOwn k.sockets link.origin past × IfSome link.log (λ log. Began log k.seen past × AreJudged k n past)

-- It took the whole, unless a receive or a sending of it failed; so many of them did.
abbrev pub TookAllUnless : ℕ → ℕ → LinkLog → List Round → Type 0
TookAllUnless failed_receives failed_sends log past = (0 < failed_receives) ⊎ ((0 < failed_sends) ⊎ TookAll log past)

-- The same of a link with its counts, unless memory ran out for it.
abbrev pub TookFully : Known → ℕ → FinishedLink → List Round → Type 0
TookFully k n link past = IsOwn k.sockets link.origin past × IfSome link.log (λ log. Began log k.seen past × AreJudged k n past × (IsIn n k.starved ⊎ TookAllUnless link.failed_receives link.failed_sends log past))

-- ---- a seat

-- what is seen of a seat's things of the outside, its pass, and how many links memory ran out for
pub record SeatWorld : Type 0 where
  pub sockets : Option (List BoundSocket)
  pub listener : Option ListenerLog
  pub starved : ℕ
  pub around : Around

abbrev pub seat_world : Option (List BoundSocket) → Option ListenerLog → ℕ → Around → SeatWorld
seat_world sockets listener starved a = record { sockets = sockets; listener = listener; starved = starved; around = a }

-- The listener gave so many links more than it finished then, and these were finished.
pub record FinishesSome (old new : ListenerLog) (finished : List FinishedLink) (open_links : ℕ) : Type 0 where
  pub kinds : List AcceptKind
  pub kinds_are : new.kinds ≡ old.kinds ++ kinds
  pub finished_are : new.finished ≡ old.finished ++ finished
  pub count : links_given kinds ≡ length finished + open_links

abbrev pub ListenerGains : Option ListenerLog → Option ListenerLog → List FinishedLink → ℕ → Type 0
ListenerGains old new finished open_links = IfSome old (λ before. (after : ListenerLog) × (new ≡ Some after) × FinishesSome before after finished open_links)

-- What a seat's things of the outside did for these rounds, the newest first: the attestor answered, asked by the origin of each
-- round, the pass read, what came for its asks was taken and the clock told the time. No more answers and outcomes are failures
-- than the counts rose, and memory ran out for no more links than the seat counted. These links were finished, and so many of
-- those that the listener gave were not.
pub record SeatGathers (old new : SeatWorld) (rounds : List Round) (signed : List Delivery) (times starved : List ℕ) (finished : List FinishedLink) (open_links : ℕ) : Type 0 where
  pub listener : ListenerGains old.listener new.listener finished open_links
  pub attested : GainsAll old.around.attested new.around.attested (attestor_calls rounds)
  pub attestor_fails : RoseBy (unanswered (answers rounds)) old.around.attestor_faults new.around.attestor_faults
  pub mine : new.around.pass.mine ≡ old.around.pass.mine ++ numbers rounds
  pub seen : IsPrefix old.around.pass.seen new.around.pass.seen
  pub store : new.around.pass.store ≡ old.around.pass.store
  pub signs : GainsAll old.around.signed new.around.signed signed
  pub clock : Ticked old.around.times new.around.times times
  pub ask_fails : RoseBy (unsigned (outcomes rounds)) old.around.ask_faults new.around.ask_faults
  pub starves : RoseBy (length starved) old.starved new.starved

abbrev pub known : (Ask → List (List ℕ) → JwtToken → Type 0) → SeatWorld → List Delivery → List ℕ → List ℕ → Known
known vouched w signed times starved = record { sockets = w.sockets; seen = w.around.pass.seen; vouched = vouched; signed = signed; times = times; starved = starved }

-- ---- Tended

-- What a seat came to. Each finished link, whose number is its own, took a prefix of the talk of its rounds, its calls were
-- attested by its own origin, which is one of the sockets that the listener has in the new world, and its outcomes came for the asks of that number. These are all rounds of the seat, each of one
-- finished link: so no answer of the attestor, no number that was read and no outcome belongs to two, and no link gets an answer
-- that was asked for the origin of another.
-- `fulls` took the whole, unless a call of theirs failed or memory ran out for them, which the seat counted; after them come
-- `lates`, which need not have. They are no more than the seat's room, and none where its end is End.
pub record Tends (vouched : Ask → List (List ℕ) → JwtToken → Type 0) (room : ℕ) (end : SeatEnd) (old new : SeatWorld) : Type 0 where
  pub fulls : List (ℕ × FinishedLink)
  pub lates : List (ℕ × FinishedLink)
  pub rounds : List (ℕ × Round)
  pub signed : List Delivery
  pub times : List ℕ
  pub starved : List ℕ
  pub gathers : SeatGathers old new (items_of rounds) signed times starved (items_of fulls ++ items_of lates) 0
  pub once : (k : ℕ) → tally k fulls + tally k lates ≤ 1
  pub owners : (k : ℕ) → tally k fulls + tally k lates ≡ 0 → owned_by k rounds ≡ []
  pub each_full : AllByRecursion (λ f. TookFully (known vouched new signed times starved) f.0 f.1 (owned_by f.0 rounds)) fulls
  pub each_late : AllByRecursion (λ f. TookPart (known vouched new signed times starved) f.0 f.1 (owned_by f.0 rounds)) lates
  pub few : length lates ≤ room
  pub none : end ≡ seat.End → lates ≡ []
