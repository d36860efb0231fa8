-- What the peers of a seat's connections are sent (own rule: the headline of the process that serves).
use Rattle.std.specs.Prelude.{ℕ, List, ◌++◌, IfSome}
use Rattle.std.specs.List.{AllByRecursion}
use Rattle.list_laws.specs.Lists.{BeginsWith}
use Rattle.wl_entry.specs.declared.asks.Ask.{Ask}
use Rattle.wl_entry.specs.declared.tokens.JwtToken.{JwtToken}
use Rattle.wl_snapshot.specs.Snapshots.{Publication}
use Rattle.wl_edge.specs.Links.{LinkLog}
use Rattle.wl_edge.specs.Listeners.{FinishedLink}
use Rattle.wl_responses.specs.Moves.{bytes_of_steps}
use Rattle.wl_responses.specs.Statuses.{AllGiveStatuses}
use Rattle.wl_responses.specs.Responses.{AreAnswers, AllTurns, WasTaken, WasAttested, NeverFall, numbers_of}
use Rattle.wl_worker.specs.Rounds.{Round, IsIn}
use Rattle.wl_worker.specs.Owners.{owned_by}
use Rattle.wl_worker.specs.Tended.{SeatWorld, Tends}
use Rattle.wl_worker.specs.declared.seat.SeatEnd.{SeatEnd}
use Rattle.wl_served.specs.Served.{served_on, steps_of_rounds}
use Rattle.wl_served.specs.Complete.{AreComplete}

-- The responses on a stream of a connection with these rounds. Each that began is the answer of a turn that was taken, on a
-- publication that the reader has seen, for selectors with which the attestor answered for that stream; none is of an older
-- publication than the one before.
pub record StreamTold (seen : List Publication) (past : List Round) (n : ℕ) : Type 0 where
  pub answers : AreAnswers (served_on n past)
  pub turns : AllTurns (λ turn. WasTaken n turn (steps_of_rounds past)) (served_on n past).begun
  pub read : AllTurns (λ turn. IsIn turn.publication seen) (served_on n past).begun
  pub selectors : AllTurns (λ turn. WasAttested n turn.selectors (steps_of_rounds past)) (served_on n past).begun
  pub numbers : NeverFall (numbers_of (served_on n past).begun)

-- What a link took is a prefix of the bytes of its steps, and so told its peer of each stream what is said above. Each of the
-- steps gives its calls their statuses, and after each round each ready call has its answer.
pub record LinkTold (seen : List Publication) (log : LinkLog) (past : List Round) : Type 0 where
  pub took : BeginsWith (bytes_of_steps (steps_of_rounds past)) log.took
  pub streams : (n : ℕ) → StreamTold seen past n
  pub statuses : AllGiveStatuses (steps_of_rounds past)
  pub complete : AreComplete past

abbrev pub IsTold : List Publication → FinishedLink → List Round → Type 0
IsTold seen link past = IfSome link.log (λ log. LinkTold seen log past)

-- What a seat came to, and what the peer of each of its links was told.
pub record Tells (vouched : Ask → List (List ℕ) → JwtToken → Type 0) (room : ℕ) (end : SeatEnd) (old new : SeatWorld) : Type 0 where
  pub tends : Tends vouched room end old new
  pub told : AllByRecursion (λ f. IsTold new.around.pass.seen f.1 (owned_by f.0 tends.rounds)) (tends.fulls ++ tends.lates)
