-- What the peers of a seat's connections are sent.
use Rattle.std.specs.Prelude.{◌⊎◌, ℕ, List, [], ◌∷◌, ◌++◌, Option, Some, None, IfSome}
use Rattle.std.specs.List.{AllByRecursion}
use Rattle.std.proofs.Common.{subst}
use Rattle.list_laws.specs.Lists.{BeginsWith}
use Rattle.wl_entry.specs.declared.asks.Ask.{Ask}
use Rattle.wl_entry.specs.declared.tokens.JwtToken.{JwtToken}
use Rattle.wl_served.proofs.Common.{Publication, Round}
use Rattle.wl_edge.specs.Links.{LinkLog}
use Rattle.wl_edge.specs.Listeners.{FinishedLink}
use Rattle.wl_worker.specs.Rounds.{IsIn}
use Rattle.wl_worker.specs.Owners.{owned_by}
use Rattle.wl_worker.specs.Served.{Began}
use Rattle.wl_worker.specs.Tended.{Known, AreJudged, SeatWorld, TookAllUnless, TookPart, TookFully, Tends, known}
use Rattle.wl_worker.specs.declared.seat.SeatEnd.{SeatEnd}
use Rattle.wl_served.specs.Served.{RoundsTakeSteps, ServedAreAnswers, ServedTurnsWereTaken, ServedTurnsWereRead, ServedSelectors, ServedNumbers}
use Rattle.wl_served.specs.Complete.{ServedGiveStatuses, IsCompleteRound, AreComplete}
use Rattle.wl_served.specs.Sent.{LinkTold, IsTold, Tells}

-- the laws of served connections
pub record Laws : Type 0 where
  pub steps : RoundsTakeSteps
  pub answers : ServedAreAnswers
  pub turns : ServedTurnsWereTaken
  pub read : ServedTurnsWereRead
  pub selectors : ServedSelectors
  pub numbers : ServedNumbers
  pub statuses : ServedGiveStatuses
  pub rounds : (past : List Round) (r : Round) → IsCompleteRound past r

all_complete : Laws → (past : List Round) → AreComplete past
all_complete laws [] = tt
all_complete laws (r ∷ past) = (laws.rounds past r, all_complete laws past)

link_told : Laws → (log : LinkLog) (seen : List Publication) (past : List Round) → Began log seen past → LinkTold seen log past
link_told laws log seen past began =
    record {
      took = subst (λ (bytes : List ℕ). BeginsWith bytes log.took) (laws.steps past).bytes began.part;
      streams = λ n. record {
        answers = laws.answers n past;
        turns = laws.turns n past;
        read = laws.read n seen past began.known;
        selectors = laws.selectors n past;
        numbers = laws.numbers n past began.rising;
      };
      statuses = laws.statuses past;
      complete = all_complete laws past;
    }

part_told : Laws → (k : Known) (link : FinishedLink) (log : Option LinkLog) (past : List Round) → IfSome log (λ l. Began l k.seen past) → IfSome log (λ l. LinkTold k.seen l past)
part_told laws k link None past took = tt
part_told laws k link (Some log) past took = link_told laws log k.seen past took

began_of_part : (k : Known) (n : ℕ) (log : Option LinkLog) (past : List Round) → IfSome log (λ l. Began l k.seen past × AreJudged k n past) → IfSome log (λ l. Began l k.seen past)
began_of_part k n None past took = tt
began_of_part k n (Some log) past took = took.0

began_of_full : (k : Known) (n receives sends : ℕ) (log : Option LinkLog) (past : List Round) → IfSome log (λ l. Began l k.seen past × AreJudged k n past × (IsIn n k.starved ⊎ TookAllUnless receives sends l past)) → IfSome log (λ l. Began l k.seen past)
began_of_full k n receives sends None past took = tt
began_of_full k n receives sends (Some log) past took = took.0

all_parts : Laws → (k : Known) (rounds : List (ℕ × Round)) (links : List (ℕ × FinishedLink)) → AllByRecursion (λ f. TookPart k f.0 f.1 (owned_by f.0 rounds)) links → AllByRecursion (λ f. IsTold k.seen f.1 (owned_by f.0 rounds)) links
all_parts laws k rounds [] all = tt
all_parts laws k rounds (f ∷ more) all = (part_told laws k f.1 f.1.log (owned_by f.0 rounds) (began_of_part k f.0 f.1.log (owned_by f.0 rounds) all.0.1), all_parts laws k rounds more all.1)

all_fulls : Laws → (k : Known) (rounds : List (ℕ × Round)) (links rest : List (ℕ × FinishedLink)) → AllByRecursion (λ f. TookFully k f.0 f.1 (owned_by f.0 rounds)) links → AllByRecursion (λ f. IsTold k.seen f.1 (owned_by f.0 rounds)) rest → AllByRecursion (λ f. IsTold k.seen f.1 (owned_by f.0 rounds)) (links ++ rest)
all_fulls laws k rounds [] rest all then = then
all_fulls laws k rounds (f ∷ more) rest all then = (part_told laws k f.1 f.1.log (owned_by f.0 rounds) (began_of_full k f.0 f.1.failed_receives f.1.failed_sends f.1.log (owned_by f.0 rounds) all.0.1), all_fulls laws k rounds more rest all.1 then)

pub seat_tells : Laws → (vouched : Ask → List (List ℕ) → JwtToken → Type 0) (room : ℕ) (end : SeatEnd) (old new : SeatWorld) → Tends vouched room end old new → Tells vouched room end old new
seat_tells laws vouched room end old new t =
    record {
      tends = t;
      told = all_fulls laws (known vouched new t.signed t.times t.starved) t.rounds t.fulls t.lates t.each_full (all_parts laws (known vouched new t.signed t.times t.starved) t.rounds t.lates t.each_late);
    }
