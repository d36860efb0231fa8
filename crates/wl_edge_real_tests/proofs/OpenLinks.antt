-- A listener that has an open link still has it after one more answer.
use Rattle.std.specs.Prelude.{◌≡◌, ◌⊎◌, ℕ, ◌+◌, ◌<◌, ◌≤◌, ◌^◌, List, [], ◌∷◌, ◌++◌, length, Option, Some, IfSome}
use Rattle.std.proofs.Common.{cond, arith, refl, sym, ap, subst, inl, inr}
use Rattle.std.proofs.lemmas.List.Sums.{sum_by-cons}
use Rattle.wl_edge.specs.Listeners.{ListenerLog, is_link, links_given, with_kind, kind_of, HasOpenLink, AcceptTells}
use Rattle.wl_edge.specs.declared.listener.AcceptKind.{AcceptKind}
use Rattle.wl_edge.specs.declared.listener.AcceptKind.TheVariants as kind
use Rattle.wl_edge.specs.declared.listener.Accepted.{Accepted}
use Rattle.wl_edge.specs.declared.listener.Accepted.TheVariants.{Link, Idle, End, Failed}
use Rattle.wl_edge.proofs.LinksGiven.{given_append}

open_with : (log : ListenerLog) (new : Option ListenerLog) (answer : AcceptKind) → new ≡ Some (with_kind log answer) → length log.finished < links_given log.kinds → HasOpenLink new
open_with log new answer is holds =
    let more : length log.finished < links_given (log.kinds ++ answer ∷ []) = omega (arith, given_append log.kinds (answer ∷ []), holds) in
    subst HasOpenLink (sym is) more

pub still_open : {L : Type 0} (log : ListenerLog) (new : Option ListenerLog) (before : ℕ) (answer : Accepted L) → AcceptTells (Some log) new before answer → length log.finished < links_given log.kinds → HasOpenLink new
still_open {L} log new before (Link link) tells holds = open_with log new kind.Link tells holds
still_open {L} log new before Idle tells holds = open_with log new kind.Idle tells holds
still_open {L} log new before End tells holds = open_with log new kind.End tells holds
still_open {L} log new before Failed (inl tells) holds = open_with log new kind.Failed tells holds
still_open {L} log new before Failed (inr same) holds = subst HasOpenLink (sym same.1) holds
