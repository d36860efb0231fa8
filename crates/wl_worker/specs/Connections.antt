-- A connection that is served from its start to its end (own rules).
use Rattle.std.specs.Prelude.{◌≡◌, ◌⊎◌, ◌+◌, ℕ, true, List, [], ◌∷◌, ◌++◌, length, Option, Some}
use mathlib.Core.List.{IsPrefix}
use Rattle.list_laws.specs.Lists.{BeginsWith}
use Rattle.wl_snapshot.specs.Snapshots.{Publication}
use Rattle.wl_publish.specs.Lists.{NonFallingFrom}
use Rattle.wl_edge.specs.Links.{LinkLog}
use Rattle.wl_edge.specs.declared.origin.Origin.{Origin}
use Rattle.wl_edge.specs.declared.link.Heard.{Heard}
use Rattle.wl_edge.specs.declared.link.Heard.TheVariants as heard
use Rattle.ask_mail.specs.declared.mail.Delivery.{Delivery}
use Rattle.wl_session.specs.declared.asks.SessionFault.TheVariants as faults
use Rattle.wl_session.specs.Sessions.{is_done_in, failure_in}
use Rattle.wl_session.specs.Items.{talk}
use Rattle.wl_worker.specs.declared.ended.Ended.{Ended}
use Rattle.wl_worker.specs.declared.ended.Ended.TheVariants as ended
use Rattle.wl_worker.specs.Rounds.{Round, session_after, trace, pieces, numbers, answers, outcomes, AskedBy, AreWhole, AreRounds, AreOutcomes, AreKnown, IsIn, pieces_given}
use Rattle.wl_worker.specs.Counts.{RoseBy}
use Rattle.wl_worker.specs.Outcomes.{Asker, unanswered, unsigned, GainsAll, Ticked, attestor_calls, IsOutcome}
use Rattle.wl_worker.specs.Served.{Around, LinkGains, ServedState, Stands}

-- the link gave its end
abbrev pub GaveEnd : List Heard → Type 0
GaveEnd heards = (before : List Heard) × (heards ≡ before ++ heard.End ∷ [])

-- What a connection came to. Closed, Protocol and ReadFault: the link took the whole talk over the trace of
-- whole rounds. One number was read for each piece, except the piece with which the talk failed. WriteFault
-- and Memory: the link took a prefix of the talk, and the last round may have broken off.
abbrev pub CameTo : Ended → List Heard → List ℕ → List Round → Type 0
CameTo ended.Closed heards took past =
    (took ≡ talk (trace past)) × AreWhole past × (length (numbers past) ≡ length (pieces_given heards)) × (GaveEnd heards ⊎ (is_done_in (session_after past) ≡ true))
CameTo (ended.Protocol f) heards took past =
    (took ≡ talk (trace past)) × AreWhole past × (length (numbers past) + 1 ≡ length (pieces_given heards)) × (failure_in (session_after past) ≡ Some (faults.Protocol f))
CameTo ended.ReadFault heards took past = (took ≡ talk (trace past)) × AreWhole past × (length (numbers past) ≡ length (pieces_given heards))
CameTo ended.WriteFault heards took past = BeginsWith (talk (trace past)) took × AreRounds past
CameTo ended.Memory heards took past = BeginsWith (talk (trace past)) took × AreRounds past

-- What the rounds of a connection took from the outside. The answers are the attestor's, asked by the link's origin; the
-- numbers are those by which the pass's grew; the outcomes are what came for the connection, or kept tokens; no
-- more answers and outcomes are failures than the counts rose.
pub record Gathers (vouched : Asker) (origin : Origin) (log_before log_now : Option LinkLog) (before now : Around) (heards : List Heard) (took : List ℕ) (past : List Round) (signed : List Delivery) (times : List ℕ) : Type 0 where
  pub link : LinkGains log_before log_now heards took
  pub asked : AskedBy origin past
  pub attested : GainsAll before.attested now.attested (attestor_calls past)
  pub attestor_fails : RoseBy (unanswered (answers past)) before.attestor_faults now.attestor_faults
  pub mine : now.pass.mine ≡ before.pass.mine ++ numbers past
  pub seen : IsPrefix before.pass.seen now.pass.seen
  pub signs : GainsAll before.signed now.signed signed
  pub clock : Ticked before.times now.times times
  pub outcomes_are : AreOutcomes (IsOutcome vouched signed times) past
  pub ask_fails : RoseBy (unsigned (outcomes past)) before.ask_faults now.ask_faults
  -- they do not fall, and are not below what had been seen before
  pub recent : (p : Publication) → IsIn p before.pass.seen → NonFallingFrom p.number (numbers past)

-- A served connection: its rounds, what they took, and what it came to.
pub record ConnectionTells (vouched : Asker) (origin : Origin) (log_before log_now : Option LinkLog) (before now : Around) (end : Ended) : Type 0 where
  pub heards : List Heard
  pub took : List ℕ
  pub past : List Round
  pub signed : List Delivery
  pub times : List ℕ
  pub gathers : Gathers vouched origin log_before log_now before now heards took past signed times
  pub pieces_are : pieces_given heards ≡ pieces past
  pub known : AreKnown now.pass.seen past
  pub rising : NonFallingFrom 0 (numbers past)
  pub came_to : CameTo end heards took past

-- between two rounds
pub record Serving (vouched : Asker) (origin : Origin) (served : ServedState) (log_before log_now : Option LinkLog) (before now : Around) : Type 0 where
  pub heards : List Heard
  pub took : List ℕ
  pub past : List Round
  pub signed : List Delivery
  pub times : List ℕ
  pub gathers : Gathers vouched origin log_before log_now before now heards took past signed times
  pub stands : Stands (record { gave = heards; took = took }) served now.pass.seen past
