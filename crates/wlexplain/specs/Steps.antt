-- Where a run of `wlexplain` stands between two reads, and what a step of it answers.
use Rattle.std.specs.Prelude.{◌≡◌, ◌≤◌, ◌⊎◌, ℕ, ◌+◌, take, Bool, true, false, List, [], ◌++◌, length, Option, Some, IfSome, Result, Ok, Err}
use Rattle.wl_edge.specs.Edge.{Rose, Gained, GainedPrefix}
use Rattle.wlexplain.specs.declared.run.TheConstants.{READ_LIMIT, WRITE_FAILED, OUT_OF_MEMORY}
use Rattle.wlexplain.specs.Following.{whole_lines, last_line}
use Rattle.wlexplain.specs.Endings.{Ends}

-- what a source and a sink tell, and how often each had failed
pub record Moment : Type 0 where
  pub left : Option (List ℕ)
  pub taken : Option (List ℕ)
  pub failed_reads : ℕ
  pub failed_writes : ℕ

abbrev pub moment : Option (List ℕ) → Option (List ℕ) → ℕ → ℕ → Moment
moment left taken reads writes = record { left = left; taken = taken; failed_reads = reads; failed_writes = writes }

-- Since the start these bytes were read, each of their whole lines was written, and so many more may be read.
pub record Follows (start now : Moment) (line : List ℕ) (remaining : ℕ) (read : List ℕ) : Type 0 where
  pub came : IfSome start.left (λ text. (rest : List ℕ) × (now.left ≡ Some rest) × (text ≡ read ++ rest))
  pub count : length read + remaining ≡ READ_LIMIT
  pub wrote : Gained start.taken now.taken (whole_lines [] read)
  pub pending : line ≡ last_line [] read
  pub reads : start.failed_reads ≤ now.failed_reads
  pub writes : start.failed_writes ≤ now.failed_writes

-- no byte is left, where that is reported
abbrev pub IsOver : Moment → Moment → Type 0
IsOver start now = IfSome start.left (λ text. now.left ≡ Some [])

abbrev pub EndsAt : Moment → Moment → ℕ → Type 0
EndsAt start now status = Ends start.left start.taken now.taken start.failed_reads now.failed_reads start.failed_writes now.failed_writes status

-- a step goes on, or the source is over, or the run ends
abbrev pub StepEnds : Moment → Moment → List ℕ → ℕ → Result Bool ℕ → Type 0
StepEnds start now line remaining (Ok true) = (read : List ℕ) × Follows start now line remaining read
StepEnds start now line remaining (Ok false) = (read : List ℕ) × Follows start now line remaining read × IsOver start now
StepEnds start now line remaining (Err status) = EndsAt start now status

-- a sink took this text, or a write failed after a prefix, or memory ran out before
abbrev pub WritesDue : List ℕ → Option (List ℕ) → Option (List ℕ) → ℕ → ℕ → Result (Unit {0}) ℕ → Type 0
WritesDue due old new before now (Ok done) = Gained old new due × (before ≤ now)
WritesDue due old new before now (Err status) =
    ((status ≡ OUT_OF_MEMORY) × (new ≡ old) × (now ≡ before))
    ⊎ ((status ≡ WRITE_FAILED) × Rose before now × (before ≤ now) × GainedPrefix old new due)

-- all that may be read was: the whole content, or as much as the limit
abbrev pub IsAll : Moment → List ℕ → Type 0
IsAll start read = IfSome start.left (λ text. read ≡ take READ_LIMIT text)

-- the source was read to its end, or the run ends
abbrev pub LinesEnd : Moment → Moment → List ℕ → Result (Unit {0}) ℕ → Type 0
LinesEnd start now line (Ok done) = (remaining : ℕ) × (read : List ℕ) × Follows start now line remaining read × IsAll start read
LinesEnd start now line (Err status) = EndsAt start now status
