-- What is said of a script: its transcript as a text (own format).
use Rattle.std.specs.Prelude.{ℕ, List, [], None, Result, Ok}
use Rattle.std.specs.List.{flat_map}
use Rattle.list_laws.specs.Results.{◌>>=◌}
use Rattle.wl_document.specs.declared.fault.DocFault.{DocFault}
use Rattle.wl_document.specs.Documents.{document_state}
use Rattle.wl_core.specs.declared.events.Event.{Event}
use Rattle.wl_core.specs.declared.lines.Line.{Line}
use Rattle.wl_core.specs.Moments.{Beginning}
use Rattle.wl_core.specs.Lines.{transcript, onto}
use Rattle.wl_replay.specs.declared.script.Script.{Script}
use Rattle.wl_replay.specs.Lines.{line_text}

-- lines one after the other
unfoldable pub lines_text : List Line → List ℕ
lines_text lines = flat_map line_text lines

-- the transcript of a world that begins so, over these events, the first of them first
unfoldable pub said_text : Beginning → List Event → List ℕ
said_text d events = lines_text (transcript d (onto events []))

-- the transcript of a script, or the first fault of its document
unfoldable pub replayed : Script → Result (List ℕ) DocFault
replayed s = do
  state ← document_state None s.document
  Ok (said_text (record { strict = s.strict; state = state }) s.events)
