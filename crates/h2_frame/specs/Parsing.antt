-- What a parser keeps.
use Rattle.std.specs.Prelude.{◌≡◌, ℕ, ◌≤◌, false, List, [], length, drop}
use Rattle.h2_wire.specs.declared.flag.TheConstants as flag
use Rattle.h2_wire.specs.declared.frame_type.TheConstants as frame_type
use Rattle.h2_wire.specs.declared.limit.TheConstants.{HEAD_LEN, MAX_FRAME_SIZE}
use Rattle.h2_frame.specs.declared.fault.FrameFault.TheVariants as faults
use Rattle.h2_frame.specs.declared.frame.Body.TheVariants.{Bytes}
use Rattle.h2_frame.specs.declared.frame.Frame.{Frame}
use Rattle.h2_frame.specs.declared.head.Head.{Head}
use Rattle.h2_frame.specs.declared.opening.Greeting.{Greeting}
use Rattle.h2_frame.specs.declared.opening.Greeting.TheVariants.{Whole, Partly, Wrong}
use Rattle.h2_frame.specs.declared.stage.Stage.{Stage}
use Rattle.h2_frame.specs.declared.stage.Stage.TheVariants.{Preface, Frames, Failed}
use Rattle.h2_frame.specs.Heads.{head_of, has_flag}
use Rattle.h2_frame.specs.Reading.{End, Opening, Rest, Fault, Reading, preface, frames_of}

-- where the bytes so far end
abbrev pub ending_of : Stage → List ℕ → End
ending_of (Preface matched) pending = Opening (drop matched preface)
ending_of Frames pending = Rest pending
ending_of (Failed fault) pending = Fault fault

abbrev pub IsWithin : Stage → Type 0
IsWithin (Preface matched) = matched ≤ 24
IsWithin Frames = Unit {0}
IsWithin (Failed fault) = Unit {0}

-- what a piece makes of the preface, where this is due of it
abbrev pub Greets : Greeting → Reading → List ℕ → Type 0
Greets (Whole used) due piece = (due ≡ frames_of (drop used piece)) × (used ≤ length piece)
Greets (Partly matched) due piece = (due ≡ record { frames = []; ending = Opening (drop matched preface) }) × (matched ≤ 24)
Greets (Wrong at) due piece = due ≡ record { frames = []; ending = Fault (faults.BadPreface at) }

-- the bytes are the head of DATA without padding, of a length that may come (RFC 9113, sections 4.2 and 6.1)
abbrev pub IsDataHead : List ℕ → Head → Type 0
IsDataHead b h = (length b ≡ HEAD_LEN) × (h ≡ head_of b) × (h.kind ≡ frame_type.DATA) × (has_flag h.flags flag.PADDED ≡ false) × (h.length ≤ MAX_FRAME_SIZE)

-- what such a head says with all of its payload
abbrev pub data_frame_of : Head → List ℕ → Frame
data_frame_of h payload = record { stream = h.stream; body = Bytes payload h.length (has_flag h.flags flag.END_STREAM) }
