-- How `serve` ends (own rules).
use Rattle.std.specs.Prelude.{◌≡◌, ⊤, ℕ, List, [], Option, None, IfSome}
use Rattle.wl_entry.specs.declared.asks.Ask.{Ask}
use Rattle.wl_entry.specs.declared.tokens.JwtToken.{JwtToken}
use Rattle.wl_edge.specs.Edge.{Rose, Drained, GainedPrefix}
use Rattle.wl_config.specs.Configs.{configuration_of}
use Rattle.wl_serve.specs.Views.{PartsView}
use Rattle.wl_serve.specs.Serving.{ServeTells, NoneRan}
use Rattle.wl_serve.specs.declared.ending.ServeEnd.{ServeEnd}
use Rattle.wl_serve.specs.declared.ending.ServeEnd.TheVariants.{Config, Unprepared, NoDocument, Document, HostFault, Memory, Done}
use Rattle.fault_laws.specs.Lines.{fault_line, config_line}
use Rattle.wl_agent.specs.Ends.{Traffic, Wrote}
use Rattle.wl_agent.specs.declared.outcome.Outcome.{Outcome}
use Rattle.wl_agent.specs.declared.program.TheConstants.{READ_LIMIT}
use Rattle.wl_agent.specs.declared.status.TheConstants.{DONE, DOCUMENT_FAULT, READ_FAILED, WRITE_FAILED, OUT_OF_MEMORY, NO_DOCUMENT, HOST_FAILED}

abbrev pub silent : ℕ → Outcome
silent status = record { status = status; output = [] }

-- the status of an end, and what is written
unfoldable pub serve_outcome : ServeEnd → Outcome
serve_outcome (Config e) = record { status = DOCUMENT_FAULT; output = config_line e }
serve_outcome (Document e) = record { status = DOCUMENT_FAULT; output = fault_line e }
serve_outcome Unprepared = silent HOST_FAILED
serve_outcome NoDocument = silent NO_DOCUMENT
serve_outcome HostFault = silent HOST_FAILED
serve_outcome Memory = silent OUT_OF_MEMORY
serve_outcome Done = silent DONE

-- an end at a fault, of which a line is written
abbrev pub IsFault : ServeEnd → Type 0
IsFault (Config e) = ⊤
IsFault (Document e) = ⊤
IsFault Unprepared = ⊥
IsFault NoDocument = ⊥
IsFault HostFault = ⊥
IsFault Memory = ⊥
IsFault Done = ⊥

-- What a run did to its host: the count of its faults before and after, and what it prepared.
pub record Hosting : Type 0 where
  pub before : ℕ
  pub now : ℕ
  pub parts : Option PartsView

-- Serving came to this end, by the configuration that was read, which is what the source has, where it tells that.
pub record CameTo (vouched : Ask → List (List ℕ) → JwtToken → Type 0) (links tells : Type 0) (t : Traffic) (h : Hosting) (end : ServeEnd) : Type 0 where
  pub configuration : List ℕ
  pub read : Drained t.content READ_LIMIT configuration
  pub is : ServeTells vouched links tells (configuration_of configuration) h.before h.now h.parts end

-- Each status with its cause and with what was written; by which relation tokens are vouched for, whether links tell their
-- content, and whether all that is prepared does.
pub data ServeExplains (vouched : Ask → List (List ℕ) → JwtToken → Type 0) (links tells : Type 0) (t : Traffic) (h : Hosting) : ℕ → Type 0 where
  -- serving came to an end, and its text was written
  ended : (end : ServeEnd) → CameTo vouched links tells t h end → Wrote t (serve_outcome end).output → ServeExplains vouched links tells t h (serve_outcome end).status
  -- a read failed; nothing was prepared or written
  unread : Rose t.reads_before t.reads_after → t.after ≡ t.before → h.parts ≡ None → ServeExplains vouched links tells t h READ_FAILED
  -- a write failed; a prefix of the text was written
  unwritten : (end : ServeEnd) → CameTo vouched links tells t h end → Rose t.writes_before t.writes_after → GainedPrefix t.before t.after (serve_outcome end).output → ServeExplains vouched links tells t h WRITE_FAILED
  -- out of memory before any seat was served; nothing was written
  memory : t.after ≡ t.before → IfSome h.parts NoneRan → ServeExplains vouched links tells t h OUT_OF_MEMORY
