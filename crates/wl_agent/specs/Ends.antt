-- How a run ends (own rules).
use Rattle.std.specs.Prelude.{◌≡◌, ◌⊎◌, ℕ, Bool, true, false, List, [], take, Option, Some, None, IfSome, Result, Ok, Err}
use Rattle.wl_edge.specs.Edge.{Rose, Drained, Gained, GainedPrefix}
use Rattle.wl_document.specs.declared.fault.DocFault.{DocFault}
use Rattle.wl_document.specs.States.{State}
use Rattle.wl_document.specs.Documents.{document_state}
use Rattle.wl_snapshot.specs.declared.answers.Answer.{Answer}
use Rattle.wl_snapshot.specs.declared.answers.Answer.TheVariants.{Denied, Wait, TooLong, Message}
use Rattle.wl_replay.specs.declared.fault.ScriptFault.{ScriptFault}
use Rattle.wl_replay.specs.declared.script.Script.{Script}
use Rattle.wl_replay.specs.Scripts.{script_of}
use Rattle.wl_core.specs.declared.counts.Counts.{Counts}
use Rattle.wl_replay.specs.Replays.{replayed}
use Rattle.wl_replay.specs.Simulations.{simulated}
use Rattle.wl_agent.specs.declared.command.Command.{Command}
use Rattle.wl_agent.specs.declared.command.Command.TheVariants.{Read, Simulate}
use Rattle.wl_agent.specs.declared.command.Reading.TheVariants.{Preview, Check, Replay}
use Rattle.wl_agent.specs.declared.command.Simulation.{Simulation}
use Rattle.fault_laws.specs.Lines.{fault_line, script_line}
use Rattle.wl_agent.specs.Lines.{count_line, message_line, simulation_line}
use Rattle.wl_agent.specs.Outcomes.{usage_outcome, outcome_of, counts_outcome, preview_answer}
use Rattle.wl_agent.specs.declared.outcome.Outcome.{Outcome}
use Rattle.wl_agent.specs.declared.program.TheConstants.{READ_LIMIT}
use Rattle.wl_agent.specs.declared.status.TheConstants.{DONE, USAGE, DOCUMENT_FAULT, DENIED, NO_SVID, READ_FAILED, WRITE_FAILED, OUT_OF_MEMORY, TOO_LONG}

-- These are the counts of a simulation.
abbrev pub AreCounts : Simulation → Counts → Type 0
AreCounts s counts = simulated s.seed s.entries s.callers s.steps ≡ Ok counts

-- A simulation ends with the line of its counts.
abbrev pub IsCounted : Simulation → Outcome → Type 0
IsCounted s outcome = (counts : Counts) × AreCounts s counts × (outcome ≡ counts_outcome s counts)

-- The usage where the words fit no command, and the counts of a simulation; else the outcome of what is asked of the input
-- that was read, which is what the source has, where it tells that.
abbrev pub IsOutcome : Option Command → Option (List ℕ) → Outcome → Type 0
IsOutcome None content outcome = outcome ≡ usage_outcome
IsOutcome (Some (Read r)) content outcome = (input : List ℕ) × Drained content READ_LIMIT input × (outcome ≡ outcome_of r input)
IsOutcome (Some (Simulate s)) content outcome = IsCounted s outcome

-- the words fit a command that reads the input
abbrev pub reads : Option Command → Bool
reads None = false
reads (Some (Read r)) = true
reads (Some (Simulate s)) = false

-- What a run did to its two streams: the source's content before it, what the sink took before it and after it, each
-- where it is recorded, and how often a read and a write failed before it and after it.
pub record Traffic : Type 0 where
  pub content : Option (List ℕ)
  pub before : Option (List ℕ)
  pub after : Option (List ℕ)
  pub reads_before : ℕ
  pub reads_after : ℕ
  pub writes_before : ℕ
  pub writes_after : ℕ

-- the sink took exactly this text
abbrev pub Wrote : Traffic → List ℕ → Type 0
Wrote t text = Gained t.before t.after text

-- By the command that the words fit, if any, the traffic, and the status.
pub data Ends (command : Option Command) (t : Traffic) : ℕ → Type 0 where
  -- out of memory; nothing was written
  lacks_memory : t.after ≡ t.before → Ends command t OUT_OF_MEMORY
  -- the words fit a command that reads, and a read failed; nothing was written
  fails_read : reads command ≡ true → Rose t.reads_before t.reads_after → t.after ≡ t.before → Ends command t READ_FAILED
  -- a write failed; a prefix of the output was written
  fails_write : (outcome : Outcome) → IsOutcome command t.content outcome → Rose t.writes_before t.writes_after →
      GainedPrefix t.before t.after outcome.output → Ends command t WRITE_FAILED
  -- the whole output was written
  ends_well : (outcome : Outcome) → IsOutcome command t.content outcome → Wrote t outcome.output → Ends command t outcome.status

-- ---- the rows of the table of statuses

-- the command reads a document
abbrev pub ReadsDocument : Option Command → Type 0
ReadsDocument (Some (Read (Preview selectors))) = Unit {0}
ReadsDocument (Some (Read Check)) = Unit {0}
ReadsDocument (Some (Read Replay)) = ⊥
ReadsDocument (Some (Simulate s)) = ⊥
ReadsDocument None = ⊥

-- The document has this first fault.
pub record IsFaulted (command : Option Command) (content : Option (List ℕ)) (fault : DocFault) : Type 0 where
  pub fits : ReadsDocument command
  pub document : List ℕ
  pub read : Drained content READ_LIMIT document
  pub first : document_state None document ≡ Err fault

-- The words are those of `preview`, the document has a state, and on its view the caller gets this answer.
pub record IsAnswered (command : Option Command) (content : Option (List ℕ)) (answer : Answer) : Type 0 where
  pub selectors : List (List ℕ)
  pub previews : command ≡ Some (Read (Preview selectors))
  pub document : List ℕ
  pub read : Drained content READ_LIMIT document
  pub state : State
  pub has : document_state None document ≡ Ok state
  pub answers : preview_answer selectors state ≡ answer

-- The words are those of `check`, and the document has this state.
pub record IsChecked (command : Option Command) (content : Option (List ℕ)) (state : State) : Type 0 where
  pub checks : command ≡ Some (Read Check)
  pub document : List ℕ
  pub read : Drained content READ_LIMIT document
  pub has : document_state None document ≡ Ok state

-- The words are those of `replay`, and reading the script answers this.
pub record IsScript (command : Option Command) (content : Option (List ℕ)) (script : Result Script ScriptFault) : Type 0 where
  pub replays : command ≡ Some (Read Replay)
  pub input : List ℕ
  pub read : Drained content READ_LIMIT input
  pub says : script_of input ≡ script

-- Each status with its cause and with what was written.
pub data StatusExplains (command : Option Command) (t : Traffic) : ℕ → Type 0 where
  -- `preview` wrote the message, or `check` the counts
  previewed : (m : List ℕ) → IsAnswered command t.content (Message m) → Wrote t (message_line m) → StatusExplains command t DONE
  checked : (s : State) → IsChecked command t.content s → Wrote t (count_line s) → StatusExplains command t DONE
  -- `replay` wrote the transcript of the script
  replayed_script : (s : Script) (text : List ℕ) → IsScript command t.content (Ok s) → replayed s ≡ Ok text → Wrote t text → StatusExplains command t DONE
  -- `simulate` wrote the counts
  counted : (s : Simulation) (counts : Counts) → command ≡ Some (Simulate s) → AreCounts s counts → Wrote t (simulation_line s counts) → StatusExplains command t DONE
  -- the words fit no command
  unfit : command ≡ None → Wrote t usage_outcome.output → StatusExplains command t USAGE
  -- the document's first fault
  faulted : (e : DocFault) → IsFaulted command t.content e → Wrote t (fault_line e) → StatusExplains command t DOCUMENT_FAULT
  -- the script's first fault, or that of its document
  misread : (e : ScriptFault) → IsScript command t.content (Err e) → Wrote t (script_line e) → StatusExplains command t DOCUMENT_FAULT
  misbegun : (s : Script) (e : DocFault) → IsScript command t.content (Ok s) → replayed s ≡ Err e → Wrote t (fault_line e) → StatusExplains command t DOCUMENT_FAULT
  -- the caller sees nothing, an SVID is missing, the message is too long; nothing was written
  denied : IsAnswered command t.content Denied → Wrote t [] → StatusExplains command t DENIED
  waits : IsAnswered command t.content Wait → Wrote t [] → StatusExplains command t NO_SVID
  long : (n : ℕ) → IsAnswered command t.content (TooLong n) → Wrote t [] → StatusExplains command t TOO_LONG
  -- a read failed; nothing was written
  unread : reads command ≡ true → Rose t.reads_before t.reads_after → t.after ≡ t.before → StatusExplains command t READ_FAILED
  -- a write failed; a prefix of the output was written
  unwritten : (outcome : Outcome) → IsOutcome command t.content outcome → Rose t.writes_before t.writes_after →
      GainedPrefix t.before t.after outcome.output → StatusExplains command t WRITE_FAILED
  -- out of memory; nothing was written
  memory : t.after ≡ t.before → StatusExplains command t OUT_OF_MEMORY

-- a status, or one to which it yields: a failed read, a failed write, out of memory
abbrev pub YieldsTo : ℕ → ℕ → Type 0
YieldsTo due status = (status ≡ due) ⊎ ((status ≡ READ_FAILED) ⊎ ((status ≡ WRITE_FAILED) ⊎ (status ≡ OUT_OF_MEMORY)))

-- where nothing is read
abbrev pub YieldsToWriting : ℕ → ℕ → Type 0
YieldsToWriting due status = (status ≡ due) ⊎ ((status ≡ WRITE_FAILED) ⊎ (status ≡ OUT_OF_MEMORY))

-- The status that is due is given: where the input is read, wherever the source tells its content.
abbrev pub StatusGiven : Option Command → Option (List ℕ) → ℕ → Type 0
StatusGiven None content status = YieldsToWriting USAGE status
StatusGiven (Some (Read r)) content status = IfSome content (λ bytes. YieldsTo (outcome_of r (take READ_LIMIT bytes)).status status)
StatusGiven (Some (Simulate s)) content status = YieldsToWriting DONE status
