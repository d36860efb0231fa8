-- Listeners: the kinds of their answers, and the links that were finished (own rules).
use Rattle.std.specs.Prelude.{◌≡◌, ◌⊎◌, ⊤, ℕ, ◌+◌, ◌<◌, ◌≤◌, ◌^◌, Bool, true, false, List, [], ◌∷◌, ◌++◌, length, count_by, replicate, Contains, Option, Some, None, IfSome, IsSomeAnd}
use mathlib.Core.List.{IsPrefix}
use Rattle.wl_edge.specs.Edge.{Rose}
use Rattle.wl_edge.specs.Links.{LinkLog}
use Rattle.wl_edge.specs.declared.origin.Origin.{Origin}
use Rattle.wl_edge.specs.declared.listener.AcceptKind.{AcceptKind}
use Rattle.wl_edge.specs.declared.listener.AcceptKind.TheVariants as kind
use Rattle.wl_edge.specs.declared.listener.Accepted.{Accepted}
use Rattle.wl_edge.specs.declared.listener.Accepted.TheVariants.{Link, Idle, End, Failed}

-- A finished link: where it came from, its log, where it tells one, and its counts.
pub record FinishedLink : Type 0 where
  pub origin : Origin
  pub log : Option LinkLog
  pub failed_receives : ℕ
  pub failed_sends : ℕ
  pub stalls : ℕ

-- A socket on which a listener listens: its selectors, which are fixed when it is bound, and its number.
pub record BoundSocket : Type 0 where
  pub selectors : List (List ℕ)
  pub number : ℕ

-- The origin is one of these sockets, if they are known.
abbrev pub CameOver : Option (List BoundSocket) → Origin → Type 0
CameOver sockets origin = IfSome sockets (λ known. Contains known (record { selectors = origin.selectors; number = origin.socket }))

-- The sockets of a listener only grow: those that are known stay, in their order, and more may follow (own rule).
abbrev pub OnlyAdds : Option (List BoundSocket) → Option (List BoundSocket) → Type 0
OnlyAdds None now = now ≡ None
OnlyAdds (Some known) now = IsSomeAnd now (λ all. IsPrefix known all)

-- The kinds of a listener's answers, and the links that were finished, in their order.
pub record ListenerLog : Type 0 where
  pub kinds : List AcceptKind
  pub finished : List FinishedLink

abbrev pub kind_of : {L : Type 0} → Accepted L → AcceptKind
kind_of {L} (Link link) = kind.Link
kind_of {L} Idle = kind.Idle
kind_of {L} End = kind.End
kind_of {L} Failed = kind.Failed

abbrev pub is_link : AcceptKind → Bool
is_link kind.Link = true
is_link kind.Idle = false
is_link kind.End = false
is_link kind.Failed = false

-- how many links these answers gave
abbrev pub links_given : List AcceptKind → ℕ
links_given kinds = count_by is_link kinds

-- a fact of the link, where the answer has one
abbrev pub IfLink : {L : Type 0} → Accepted L → (L → Type 0) → Type 0
IfLink {L} (Link link) P = P link
IfLink {L} Idle P = ⊤
IfLink {L} End P = ⊤
IfLink {L} Failed P = ⊤

-- a log with one more answer
abbrev pub with_kind : ListenerLog → AcceptKind → ListenerLog
with_kind log answer = record log { kinds = log.kinds ++ answer ∷ [] }

-- Each answer is recorded. A failure that comes where the count of them stands at its end need not be.
abbrev pub AcceptTells : {L : Type 0} → Option ListenerLog → Option ListenerLog → ℕ → Accepted L → Type 0
AcceptTells {L} old new before Failed = IfSome old (λ log. (new ≡ Some (with_kind log kind.Failed)) ⊎ ((2 ^ 64 ≤ before + 1) × (new ≡ Some log)))
AcceptTells {L} old new before (Link link) = IfSome old (λ log. new ≡ Some (with_kind log kind.Link))
AcceptTells {L} old new before Idle = IfSome old (λ log. new ≡ Some (with_kind log kind.Idle))
AcceptTells {L} old new before End = IfSome old (λ log. new ≡ Some (with_kind log kind.End))

-- The count of faults rises at a failure.
abbrev pub AcceptFits : {L : Type 0} → ℕ → ℕ → Accepted L → Type 0
AcceptFits {L} before now Failed = Rose before now
AcceptFits {L} before now (Link link) = ⊤
AcceptFits {L} before now Idle = ⊤
AcceptFits {L} before now End = ⊤

-- one answer, with the count of faults, which never falls
pub record Accepts {L : Type 0} (old new : Option ListenerLog) (before now : ℕ) (answer : Accepted L) : Type 0 where
  pub tells : AcceptTells old new before answer
  pub fits : AcceptFits before now answer
  pub later : before ≤ now

-- Fewer links were finished than were given.
abbrev pub HasOpenLink : Option ListenerLog → Type 0
HasOpenLink told = IfSome told (λ log. length log.finished < links_given log.kinds)

-- a link is finished
abbrev pub Finishes : Option ListenerLog → Option ListenerLog → FinishedLink → Type 0
Finishes old new link = IfSome old (λ log. new ≡ Some (record log { finished = log.finished ++ link ∷ [] }))

-- What a listener in memory tells that it answered: what it keeps, and a failure for each accept past its room.
abbrev pub kinds_in_memory : List AcceptKind → ℕ → List AcceptKind
kinds_in_memory kept past = kept ++ replicate past kind.Failed
