-- What a command ends with: a status and what it writes (own rules).
use Rattle.std.specs.Prelude.{ℕ, List, [], codes, None, Result, Ok, Err}
use Rattle.wl_document.specs.declared.fault.DocFault.{DocFault}
use Rattle.wl_document.specs.States.{State}
use Rattle.wl_document.specs.Documents.{document_state}
use Rattle.wl_snapshot.specs.Views.{view_in}
use Rattle.wl_snapshot.specs.Answers.{answer_of}
use Rattle.wl_snapshot.specs.declared.answers.Answer.{Answer}
use Rattle.wl_snapshot.specs.declared.answers.Answer.TheVariants.{Denied, Wait, TooLong, Message}
use Rattle.wl_snapshot.specs.declared.answers.Method3.TheVariants.{X509Svid}
use Rattle.wl_replay.specs.declared.fault.ScriptFault.{ScriptFault}
use Rattle.wl_replay.specs.declared.script.Script.{Script}
use Rattle.wl_replay.specs.Scripts.{script_of}
use Rattle.wl_core.specs.declared.counts.Counts.{Counts}
use Rattle.wl_replay.specs.Replays.{replayed}
use Rattle.wl_agent.specs.declared.command.Reading.{Reading}
use Rattle.wl_agent.specs.declared.command.Reading.TheVariants.{Preview, Check, Replay}
use Rattle.wl_agent.specs.declared.command.Simulation.{Simulation}
use Rattle.wl_agent.specs.declared.outcome.Outcome.{Outcome}
use Rattle.wl_agent.specs.declared.status.TheConstants.{DONE, USAGE, DOCUMENT_FAULT, DENIED, NO_SVID, TOO_LONG}
use Rattle.wl_agent.specs.Kept.{publication_of}
use Rattle.fault_laws.specs.Lines.{fault_line, script_line}
use Rattle.wl_agent.specs.Lines.{count_line, message_line, simulation_line}

-- words that fit no command
abbrev pub usage_outcome : Outcome
usage_outcome = record { status = USAGE; output = codes "usage: agentd preview|check|replay|simulate|serve\n" }

abbrev pub fault_outcome : DocFault → Outcome
fault_outcome e = record { status = DOCUMENT_FAULT; output = fault_line e }

-- `preview`: the answer of a FetchX509SVID call
abbrev pub answer_outcome : Answer → Outcome
answer_outcome Denied = record { status = DENIED; output = [] }
answer_outcome Wait = record { status = NO_SVID; output = [] }
answer_outcome (TooLong n) = record { status = TOO_LONG; output = [] }
answer_outcome (Message m) = record { status = DONE; output = message_line m }

-- what the caller with these selectors is answered on the document's view
unfoldable pub preview_answer : List (List ℕ) → State → Answer
preview_answer selectors s = answer_of X509Svid (view_in (publication_of s) selectors)

abbrev pub preview_outcome : List (List ℕ) → Result State DocFault → Outcome
preview_outcome selectors (Ok s) = answer_outcome (preview_answer selectors s)
preview_outcome selectors (Err e) = fault_outcome e

-- `check`: what the document holds
abbrev pub check_outcome : Result State DocFault → Outcome
check_outcome (Ok s) = record { status = DONE; output = count_line s }
check_outcome (Err e) = fault_outcome e

-- `replay`: the transcript of the script
abbrev pub transcript_outcome : Result (List ℕ) DocFault → Outcome
transcript_outcome (Ok text) = record { status = DONE; output = text }
transcript_outcome (Err e) = fault_outcome e

abbrev pub script_outcome : Result Script ScriptFault → Outcome
script_outcome (Ok s) = transcript_outcome (replayed s)
script_outcome (Err e) = record { status = DOCUMENT_FAULT; output = script_line e }

-- `simulate`: what the simulated world did
abbrev pub counts_outcome : Simulation → Counts → Outcome
counts_outcome s counts = record { status = DONE; output = simulation_line s counts }

-- what is asked of the input that was read ends with this
unfoldable pub outcome_of : Reading → List ℕ → Outcome
outcome_of (Preview selectors) input = preview_outcome selectors (document_state None input)
outcome_of Check input = check_outcome (document_state None input)
outcome_of Replay input = script_outcome (script_of input)
