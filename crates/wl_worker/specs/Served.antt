-- A served connection, and what one round of it does (own rules).
use Rattle.std.specs.Prelude.{◌≡◌, ◌⊎◌, ℕ, true, List, [], ◌∷◌, ◌++◌, Option, Some, None, IfSome}
use Rattle.list_laws.specs.Lists.{BeginsWith}
use Rattle.wl_entry.specs.declared.asks.Ask.{Ask}
use Rattle.wl_entry.specs.declared.signing.Signed.{Signed}
use Rattle.wl_snapshot.specs.Snapshots.{Publication}
use Rattle.wl_publish.specs.Lists.{NonFallingFrom}
use Rattle.wl_publish.specs.Listings.{Passing}
use Rattle.wl_publish.specs.Reading.{Reads}
use Rattle.wl_edge.specs.Links.{LinkLog}
use Rattle.wl_edge.specs.declared.origin.Origin.{Origin}
use Rattle.wl_edge.specs.declared.link.Heard.{Heard}
use Rattle.wl_edge.specs.declared.link.Heard.TheVariants as heard
use Rattle.wl_edge.specs.declared.attestor.AttestorCall.{AttestorCall}
use Rattle.ask_mail.specs.declared.mail.Delivery.{Delivery}
use Rattle.wl_session.specs.declared.asks.JwtAsk.{JwtAsk}
use Rattle.wl_session.specs.declared.asks.JwtOutcome.{JwtOutcome}
use Rattle.wl_session.specs.declared.asks.SessionFault.TheVariants as faults
use Rattle.wl_session.specs.Sessions.{SessionState, Running, Fallen, OutOfMemory, is_done_in, failure_in}
use Rattle.wl_session.specs.Items.{talk}
use Rattle.wl_worker.specs.declared.ended.Ended.TheVariants as ended
use Rattle.wl_worker.specs.declared.ended.RoundEnd.{RoundEnd}
use Rattle.wl_worker.specs.declared.ended.RoundEnd.TheVariants as ends
use Rattle.wl_worker.specs.Rounds.{Round, session_after, trace, pieces, numbers, answers, outcomes, AskedBy, AreWhole, AreRounds, AreKnown, GoesOn, HaveAsks, turned_session, IsIn, pieces_given}
use Rattle.wl_worker.specs.Counts.{RoseBy}
use Rattle.wl_worker.specs.Outcomes.{Asker, unanswered, unsigned, GainsAll, Ticked, attestor_calls, IsOutcome}

-- the session, and what it wrote that the link did not take yet
pub record ServedState : Type 0 where
  pub session : SessionState
  pub unsent : List ℕ

-- ---- over all rounds since the start

-- Between two rounds: the pieces that the link gave since the start are those of the rounds, and what it took
-- since then, followed by what is unsent, is the talk over their trace. Each round was whole, and the numbers
-- that were read, all of publications that were seen, do not fall.
pub record Stands (log : LinkLog) (s : ServedState) (seen : List Publication) (past : List Round) : Type 0 where
  pub pieces : pieces_given log.gave ≡ pieces past
  pub session : s.session ≡ session_after past
  pub talked : log.took ++ s.unsent ≡ talk (trace past)
  pub whole : AreWhole past
  pub known : AreKnown seen past
  pub rising : NonFallingFrom 0 (numbers past)

-- After a connection broke off: what the link took is a prefix of that talk, and the last round need not be
-- whole.
pub record Began (log : LinkLog) (seen : List Publication) (past : List Round) : Type 0 where
  pub pieces : pieces_given log.gave ≡ pieces past
  pub part : BeginsWith (talk (trace past)) log.took
  pub rounds : AreRounds past
  pub known : AreKnown seen past
  pub rising : NonFallingFrom 0 (numbers past)

-- the same by the end of a round
abbrev pub StandsAt : RoundEnd → LinkLog → ServedState → List Publication → List Round → Type 0
StandsAt ends.On log s seen past = Stands log s seen past
StandsAt ends.Later log s seen past = Stands log s seen past
StandsAt (ends.Ended ended.Closed) log s seen past = Stands log s seen past
StandsAt (ends.Ended (ended.Protocol f)) log s seen past = Stands log s seen past
StandsAt (ends.Ended ended.ReadFault) log s seen past = Stands log s seen past
StandsAt (ends.Ended ended.WriteFault) log s seen past = Began log seen past
StandsAt (ends.Ended ended.Memory) log s seen past = Began log seen past

-- ---- what a round does

-- What is seen of the outside beside the link: the attestor's calls and its count of faults, what came for asks
-- for tokens and how often one failed, and the clock's answers, each where it is recorded; and the pass.
pub record Around : Type 0 where
  pub attested : Option (List AttestorCall)
  pub attestor_faults : ℕ
  pub signed : Option (List Delivery)
  pub ask_faults : ℕ
  pub times : Option (List ℕ)
  pub pass : Passing

abbrev pub around : Option (List AttestorCall) → ℕ → Option (List Delivery) → ℕ → Option (List ℕ) → Passing → Around
around attested attestor_faults signed ask_faults times pass =
    record { attested = attested; attestor_faults = attestor_faults; signed = signed; ask_faults = ask_faults; times = times; pass = pass }

-- what a link gave and took, and then these
abbrev pub log_on : LinkLog → List Heard → List ℕ → LinkLog
log_on log heards took = record { gave = log.gave ++ heards; took = log.took ++ took }

abbrev pub LinkGains : Option LinkLog → Option LinkLog → List Heard → List ℕ → Type 0
LinkGains old new heards took = IfSome old (λ log. new ≡ Some (log_on log heards took))

-- the link gave this piece
abbrev pub IsPiece : Heard → List ℕ → Type 0
IsPiece (heard.Piece bytes) piece = bytes ≡ piece
IsPiece heard.Idle piece = piece ≡ []
IsPiece heard.End piece = ⊥
IsPiece heard.Failed piece = ⊥

-- nothing was heard, and there was no round
abbrev pub HeardNone : List Heard → List Round → Type 0
HeardNone heards added = (heards ≡ []) × (added ≡ [])

-- a piece was heard, and there was a round with it
pub record HeardOne (heards : List Heard) (added : List Round) : Type 0 where
  pub answer : Heard
  pub round : Round
  pub heards_are : heards ≡ answer ∷ []
  pub added_is : added ≡ round ∷ []
  pub piece : IsPiece answer round.piece

-- What an end says. On: a piece was heard, and where nothing is unsent the session goes on. Later: nothing
-- was heard. Closed: nothing is unsent, the talk has not failed, and the link gave its end or the session is
-- done. Protocol: nothing is unsent, and the talk has failed with that fault. ReadFault: nothing is unsent,
-- the talk has not failed, and the link failed to give; where the count of such failures stands at its end
-- that need not be told.
abbrev pub EndIs : RoundEnd → ServedState → List Heard → List Round → Type 0
EndIs ends.On s heards added = HeardOne heards added × (s.unsent ≡ [] → GoesOn s.session)
EndIs ends.Later s heards added = HeardNone heards added
EndIs (ends.Ended ended.Closed) s heards added =
    (s.unsent ≡ []) × (failure_in s.session ≡ None) × (((heards ≡ heard.End ∷ []) × (added ≡ [])) ⊎ ((is_done_in s.session ≡ true) × (HeardNone heards added ⊎ HeardOne heards added)))
EndIs (ends.Ended (ended.Protocol f)) s heards added =
    (s.unsent ≡ []) × (failure_in s.session ≡ Some (faults.Protocol f)) × (HeardNone heards added ⊎ HeardOne heards added)
EndIs (ends.Ended ended.ReadFault) s heards added =
    (s.unsent ≡ []) × (failure_in s.session ≡ None) × ((heards ≡ heard.Failed ∷ []) ⊎ (heards ≡ [])) × (added ≡ [])
EndIs (ends.Ended ended.WriteFault) s heards added = HeardNone heards added ⊎ HeardOne heards added
EndIs (ends.Ended ended.Memory) s heards added = HeardNone heards added ⊎ HeardOne heards added

-- what a pass knows, where a round read this or nothing
abbrev pub ReadIn : (Ask → Signed → Type 0) → Option Publication → Passing → Passing → Type 0
ReadIn valid None old new = new ≡ old
ReadIn valid (Some p) old new = Reads valid old p new

-- the same of no round or one
abbrev pub ReadBy : (Ask → Signed → Type 0) → List Round → Passing → Passing → Type 0
ReadBy valid [] old new = new ≡ old
ReadBy valid (r ∷ more) old new = (more ≡ []) × ReadIn valid r.shown old new

-- each outcome of no round or one is as P says for its ask
abbrev pub OutcomesBy : (JwtAsk → JwtOutcome → Type 0) → List Round → SessionState → Type 0
OutcomesBy P [] s = Unit {0}
OutcomesBy P (r ∷ more) s = HaveAsks P r.outcomes (turned_session r s)

-- What a round of a link of this origin does. The link gave and took this, and there was no round of the trace or one.
-- Its answers are the attestor's, which was asked by the link's own origin; its publication is what the pass read, and its
-- outcomes are what came for the connection's asks, or kept tokens; no more of the answers and outcomes are failures than the
-- counts rose. And whatever the rounds before it were, it goes on from there.
pub record RoundTells (valid : Ask → Signed → Type 0) (vouched : Asker) (origin : Origin) (old new : ServedState) (log_before log_now : Option LinkLog) (before now : Around) (end : RoundEnd) : Type 0 where
  pub heards : List Heard
  pub took : List ℕ
  pub added : List Round
  pub signed : List Delivery
  pub times : List ℕ
  pub link : LinkGains log_before log_now heards took
  pub end_is : EndIs end new heards added
  pub asked : AskedBy origin added
  pub attested : GainsAll before.attested now.attested (attestor_calls added)
  pub attestor_fails : RoseBy (unanswered (answers added)) before.attestor_faults now.attestor_faults
  pub read : ReadBy valid added before.pass now.pass
  pub signs : GainsAll before.signed now.signed signed
  pub clock : Ticked before.times now.times times
  pub outcomes_are : OutcomesBy (IsOutcome vouched signed times) added old.session
  pub ask_fails : RoseBy (unsigned (outcomes added)) before.ask_faults now.ask_faults
  pub goes_on : (log : LinkLog) (past : List Round) → Stands log old before.pass.seen past → StandsAt end (log_on log heards took) new now.pass.seen (added ++ past)

-- ---- on which passes a round may be taken

-- the publication of a session's last turn
abbrev pub last_shown : SessionState → Option Publication
last_shown (Running e t shown) = shown
last_shown (Fallen fault begun) = None
last_shown OutOfMemory = None

-- a publication is among those that were seen, if there is one
abbrev pub IsAmong : List Publication → Option Publication → Type 0
IsAmong seen shown = IfSome shown (λ p. IsIn p seen)

-- it is among those that were seen
abbrev pub HasSeenLast : List Publication → SessionState → Type 0
HasSeenLast seen s = IfSome (last_shown s) (λ p. IsIn p seen)
