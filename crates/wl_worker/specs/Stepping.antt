-- The steps of a round as the code takes them (own rules).
use Rattle.std.specs.Prelude.{◌≡◌, ◌⊎◌, ◌≤◌, ℕ, List, [], ◌∷◌, ◌++◌, Option, Some, None, Result, Ok, Err, IfOk, OnOk, IfSome}
use Rattle.wl_octets.specs.declared.memory.Memory.{Memory}
use Rattle.wl_entry.specs.declared.asks.Ask.{Ask}
use Rattle.wl_entry.specs.declared.signing.Signed.{Signed}
use Rattle.wl_snapshot.specs.Snapshots.{Publication}
use Rattle.wl_edge.specs.declared.origin.Origin.{Origin}
use Rattle.wl_edge.specs.declared.attestor.AttestorCall.{AttestorCall}
use Rattle.ask_mail.specs.declared.mail.Delivery.{Delivery}
use Rattle.wl_session.specs.declared.asks.JwtAsk.{JwtAsk}
use Rattle.wl_session.specs.declared.asks.JwtOutcome.{JwtOutcome}
use Rattle.wl_session.specs.Sessions.{SessionState, Names, GivesOutcome}
use Rattle.wl_session.specs.Steps.{Told, turn_told}
use Rattle.wl_worker.specs.Rounds.{Round, answers_told, outcomes_told, round_told, HaveCalls, HaveAsks, IsRound, IsWhole, turned_session}
use Rattle.wl_worker.specs.Counts.{RoseBy}
use Rattle.wl_worker.specs.Outcomes.{Asker, unanswered, unsigned, GainsAll, Ticked, calls_by, IsOutcome}
use Rattle.wl_edge.specs.Links.{LinkLog}
use Rattle.wl_edge.specs.declared.link.Heard.{Heard}
use Rattle.wl_edge.specs.declared.link.Heard.TheVariants as heard
use Rattle.wl_worker.specs.declared.ended.Ended.{Ended}
use Rattle.wl_worker.specs.declared.ended.Ended.TheVariants as ended
use Rattle.wl_worker.specs.Served.{Around, ReadIn, LinkGains, IsPiece, last_shown, HasSeenLast}

-- a session came to this, and out gained what it wrote
pub record Came (told : Told) (new : SessionState) (old_out out : List ℕ) : Type 0 where
  pub after : new ≡ told.after
  pub bytes : out ≡ old_out ++ told.bytes

-- a session still has the publication of its last turn, unless memory ran out
abbrev pub KeepsLast : SessionState → SessionState → Type 0
KeepsLast old new = (last_shown new ≡ last_shown old) ⊎ (last_shown new ≡ None)

-- one answer of the attestor, asked by this origin; out of memory its call is not recorded
abbrev pub Asks : Origin → Option (List AttestorCall) → Option (List AttestorCall) → ℕ → ℕ → Result (Option (List (List ℕ))) Memory → Type 0
Asks origin calls_before calls before now (Ok answer) = GainsAll calls_before calls (calls_by origin (answer ∷ [])) × RoseBy (unanswered (answer ∷ [])) before now
Asks origin calls_before calls before now (Err m) = (calls ≡ calls_before) × (before ≤ now)

-- the first call that was not attested took an answer
abbrev pub IsNamed : SessionState → SessionState → List ℕ → List ℕ → Type 0
IsNamed old new old_out out = (answer : Option (List (List ℕ))) × Names answer old (Ok tt) old_out out new

-- Calls that were not attested take the attestor's answers, lowest stream first.
pub record Attests (origin : Origin) (old new : SessionState) (old_out out : List ℕ) (calls_before calls : Option (List AttestorCall)) (before now : ℕ) (r : Result (Unit {0}) Memory) : Type 0 where
  pub answers : List (Option (List (List ℕ)))
  pub calls_are : GainsAll calls_before calls (calls_by origin answers)
  pub fails : RoseBy (unanswered answers) before now
  pub have : HaveCalls answers old
  pub keeps : KeepsLast old new
  pub came : OnOk r (Came (answers_told answers old) new old_out out)

-- an outcome that came, or none yet
abbrev pub as_list : {A : Type 0} → Option A → List A
as_list None = []
as_list (Some x) = x ∷ []

-- What became of one ask; none where it waits on.
pub record OutcomeTells (vouched : Asker) (ask : JwtAsk) (signed_before signed : Option (List Delivery)) (before now : ℕ) (times_before times : Option (List ℕ)) (r : Result (Option JwtOutcome) Memory) : Type 0 where
  pub signs : List Delivery
  pub ticks : List ℕ
  pub signed_is : GainsAll signed_before signed signs
  pub clock : Ticked times_before times ticks
  pub outcome : IfOk r (λ o. IfSome o (IsOutcome vouched signs ticks ask))
  pub fails : IfOk r (λ o. RoseBy (unsigned (as_list o)) before now)
  pub later : before ≤ now

-- what came for it, at this time
pub record SignedTells (vouched : Asker) (ask : JwtAsk) (time : ℕ) (signed_before signed : Option (List Delivery)) (before now : ℕ) (r : Result (Option JwtOutcome) Memory) : Type 0 where
  pub signs : List Delivery
  pub signed_is : GainsAll signed_before signed signs
  pub outcome : IfOk r (λ o. IfSome o (IsOutcome vouched signs (time ∷ []) ask))
  pub fails : IfOk r (λ o. RoseBy (unsigned (as_list o)) before now)
  pub later : before ≤ now

-- the first ask that waited got an outcome
abbrev pub IsGiven : SessionState → SessionState → List ℕ → List ℕ → Type 0
IsGiven old new old_out out = (outcome : JwtOutcome) × GivesOutcome outcome old (Ok tt) old_out out new

-- Asks that wait get their outcomes, the first one first, while one has come.
pub record Gives {A : Type 0} (vouched : Asker) (old new : SessionState) (old_out out : List ℕ) (signed_before signed : Option (List Delivery)) (before now : ℕ) (times_before times : Option (List ℕ)) (r : Result A Memory) : Type 0 where
  pub outcomes : List JwtOutcome
  pub signs : List Delivery
  pub ticks : List ℕ
  pub signed_is : GainsAll signed_before signed signs
  pub clock : Ticked times_before times ticks
  pub fails : RoseBy (unsigned outcomes) before now
  pub have : HaveAsks (IsOutcome vouched signs ticks) outcomes old
  pub keeps : KeepsLast old new
  pub came : OnOk r (Came (outcomes_told outcomes old) new old_out out)

-- A turn on the publication that was read.
pub record TurnTells (p : Publication) (old new : SessionState) (old_out out : List ℕ) (r : Result (Unit {0}) Memory) : Type 0 where
  pub shows : IfSome (last_shown new) (λ last. last ≡ p)
  pub came : OnOk r (Came (turn_told p old) new old_out out)

-- A piece was heard, and a round of the trace taken with it; it may have broken off where memory ran out.
pub record StepTells (valid : Ask → Signed → Type 0) (vouched : Asker) (origin : Origin) (piece : List ℕ) (old new : SessionState) (old_out out : List ℕ) (before now : Around) (r : Result (Unit {0}) Memory) : Type 0 where
  pub round : Round
  pub signed : List Delivery
  pub times : List ℕ
  pub piece_is : round.piece ≡ piece
  pub asked : round.origin ≡ origin
  pub attested : GainsAll before.attested now.attested (calls_by round.origin round.answers)
  pub attestor_fails : RoseBy (unanswered round.answers) before.attestor_faults now.attestor_faults
  pub read : ReadIn valid round.shown before.pass now.pass
  pub signs : GainsAll before.signed now.signed signed
  pub clock : Ticked before.times now.times times
  pub outcomes_are : HaveAsks (IsOutcome vouched signed times) round.outcomes (turned_session round old)
  pub ask_fails : RoseBy (unsigned round.outcomes) before.ask_faults now.ask_faults
  pub fits : IsRound round old
  pub seen : HasSeenLast before.pass.seen old → HasSeenLast now.pass.seen new
  pub whole : OnOk r (IsWhole round old)
  pub came : OnOk r (Came (round_told round old) new old_out out)

-- What a receive gave, and the step taken with it. At an end nothing else was done, or memory ran out in the
-- step.
abbrev pub StepBy : (Ask → Signed → Type 0) → Asker → Origin → SessionState → SessionState → List ℕ → List ℕ → Around → Around → List Heard → Result (Unit {0}) Ended → Type 0
StepBy valid vouched origin old new old_out out before now heards (Ok done) =
    (answer : Heard) × (piece : List ℕ) × (heards ≡ answer ∷ []) × IsPiece answer piece × StepTells valid vouched origin piece old new old_out out before now (Ok done)
StepBy valid vouched origin old new old_out out before now heards (Err ended.Memory) =
    (answer : Heard) × (piece : List ℕ) × (heards ≡ answer ∷ []) × IsPiece answer piece × ((m : Memory) × StepTells valid vouched origin piece old new old_out out before now (Err m))
StepBy valid vouched origin old new old_out out before now heards (Err ended.Closed) = (heards ≡ heard.End ∷ []) × (new ≡ old) × (now ≡ before)
StepBy valid vouched origin old new old_out out before now heards (Err ended.ReadFault) =
    ((heards ≡ heard.Failed ∷ []) ⊎ (heards ≡ [])) × (new ≡ old) × (now ≡ before)
StepBy valid vouched origin old new old_out out before now heards (Err (ended.Protocol f)) = ⊥
StepBy valid vouched origin old new old_out out before now heards (Err ended.WriteFault) = ⊥

pub record HearTells (valid : Ask → Signed → Type 0) (vouched : Asker) (origin : Origin) (old new : SessionState) (old_out out : List ℕ) (log_before log_now : Option LinkLog) (before now : Around) (r : Result (Unit {0}) Ended) : Type 0 where
  pub heards : List Heard
  pub link : LinkGains log_before log_now heards []
  pub step : StepBy valid vouched origin old new old_out out before now heards r
