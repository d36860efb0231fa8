-- The frames that a whole stream begins with, and what follows them.
use Rattle.std.specs.Prelude.{◌≡◌, ℕ, zero, suc, ◌-◌, ◌<◌, ◌≤◌, ◌==◌, nat_lt, if◌then◌else◌, List, [], ◌∷◌, ◌++◌, length, take, drop, Option, Some, None, Result, Ok, Err}
use Rattle.h2_wire.specs.declared.limit.TheConstants.{HEAD_LEN, MAX_FRAME_SIZE}
use Rattle.h2_frame.specs.declared.fault.FrameFault.{FrameFault}
use Rattle.h2_frame.specs.declared.fault.FrameFault.TheVariants as faults
use Rattle.h2_frame.specs.declared.frame.Body.{Body}
use Rattle.h2_frame.specs.declared.frame.Frame.{Frame}
use Rattle.h2_frame.specs.declared.head.Head.{Head}
use Rattle.h2_frame.specs.Heads.{head_of, is_wrong_length}
use Rattle.h2_frame.specs.Payloads.{body_of}

-- ---- one frame

-- what stands at the front: less than a frame, a frame and the bytes after it, or a fault
pub data Step : Type 0 where
  partial : Step
  whole : Frame → List ℕ → Step
  wrong : FrameFault → Step

abbrev pub step_of_body : Head → Result Body FrameFault → List ℕ → Step
step_of_body h (Ok body) rest = whole (record { stream = h.stream; body = body }) rest
step_of_body h (Err fault) rest = wrong fault

-- after the head: its faults come as soon as it is whole (RFC 9113, section 4.2), those of the payload once that is whole
unfoldable pub step_after_head : Head → List ℕ → Step
step_after_head h after =
    if nat_lt MAX_FRAME_SIZE h.length then wrong (faults.TooLarge h.length)
    else if is_wrong_length h then wrong (faults.WrongLength h.kind h.length)
    else if nat_lt (length after) h.length then partial
    else step_of_body h (body_of h (take h.length after)) (drop h.length after)

unfoldable pub first_frame : List ℕ → Step
first_frame b = if nat_lt (length b) HEAD_LEN then partial else step_after_head (head_of b) (drop HEAD_LEN b)

-- ---- the whole stream

-- how the bytes end: within the preface, of which this is left; within a frame, of which these are the bytes; or at a fault
pub data End : Type 0 where
  Opening : List ℕ → End
  Rest : List ℕ → End
  Fault : FrameFault → End

-- the frames of a stream, and how it ends after them
pub record Reading : Type 0 where
  pub frames : List Frame
  pub ending : End

abbrev pub after_step : Step → List ℕ → (List ℕ → Reading) → Reading
after_step partial b go_on = record { frames = []; ending = Rest b }
after_step (wrong fault) b go_on = record { frames = []; ending = Fault fault }
after_step (whole frame rest) b go_on = record { frames = frame ∷ (go_on rest).frames; ending = (go_on rest).ending }

-- at most so many frames
unfoldable pub frames_in : ℕ → List ℕ → Reading
frames_in zero b = record { frames = []; ending = Rest b }
frames_in (suc n) b = after_step (first_frame b) b (frames_in n)

-- all frames: each takes a byte at least
unfoldable pub frames_of : List ℕ → Reading
frames_of b = frames_in (length b) b

-- RFC 9113, section 3.4: PRI * HTTP/2.0, SM, each line ended by \r\n and followed by an empty one
abbrev pub preface : List ℕ
preface = 80 ∷ 82 ∷ 73 ∷ 32 ∷ 42 ∷ 32 ∷ 72 ∷ 84 ∷ 84 ∷ 80 ∷ 47 ∷ 50 ∷ 46 ∷ 48 ∷ 13 ∷ 10 ∷ 13 ∷ 10 ∷ 83 ∷ 77 ∷ 13 ∷ 10 ∷ 13 ∷ 10 ∷ []

-- the preface's bytes that are left, and then frames; the place of a wrong byte counts from the start of the preface
unfoldable pub after_preface : List ℕ → List ℕ → Reading
after_preface [] b = frames_of b
after_preface (p ∷ left) [] = record { frames = []; ending = Opening (p ∷ left) }
after_preface (p ∷ left) (x ∷ b) = if p == x then after_preface left b else record { frames = []; ending = Fault (faults.BadPreface (23 - length left)) }

-- Reading on from an end. From `Opening preface` it reads a whole stream, and from `Rest []` one without a preface.
unfoldable pub reading_from : End → List ℕ → Reading
reading_from (Opening left) b = after_preface left b
reading_from (Rest rest) b = frames_of (rest ++ b)
reading_from (Fault fault) b = record { frames = []; ending = Fault fault }

-- what a reading is with more bytes
abbrev pub read_on : Reading → List ℕ → Reading
read_on r more = record { frames = r.frames ++ (reading_from r.ending more).frames; ending = (reading_from r.ending more).ending }

-- ---- what the code gives

-- what was answered is what is due, unless memory ran out
abbrev pub Refuses : FrameFault → Type 0 → Type 0
Refuses faults.Memory due = Unit {0}
Refuses (faults.BadPreface at) due = due
Refuses (faults.TooLarge length) due = due
Refuses (faults.WrongLength kind length) due = due
Refuses faults.BadPadding due = due

abbrev pub Gives : {X Y : Type 0} → (X → Y) → Result X FrameFault → Result Y FrameFault → Type 0
Gives view (Ok x) due = due ≡ Ok (view x)
Gives view (Err fault) due = Refuses fault (due ≡ Err fault)

-- a frame and how many bytes it takes
abbrev pub Steps : Result (Option (Frame × ℕ)) FrameFault → List ℕ → Type 0
Steps (Ok None) b = first_frame b ≡ partial
Steps (Ok (Some found)) b = (first_frame b ≡ whole found.0 (drop found.1 b)) × (0 < found.1) × (found.1 ≤ length b)
Steps (Err fault) b = Refuses fault (first_frame b ≡ wrong fault)

-- the bytes of the frame that isn't whole
abbrev pub rest_of : End → List ℕ
rest_of (Opening left) = []
rest_of (Rest rest) = rest
rest_of (Fault fault) = []

abbrev pub IsOpen : End → Type 0
IsOpen (Opening left) = Unit {0}
IsOpen (Rest rest) = Unit {0}
IsOpen (Fault fault) = ⊥

-- What a call answered, of which this was due: all of it, or the fault after all of it, or out of memory.
abbrev pub Feeds : {T : Type 0} → Result T FrameFault → Reading → List Frame → List Frame → End → Type 0
Feeds (Ok x) due old new ending = (new ≡ old ++ due.frames) × (ending ≡ due.ending) × IsOpen ending
Feeds (Err fault) due old new ending = (ending ≡ Fault fault) × Refuses fault ((new ≡ old ++ due.frames) × (due.ending ≡ Fault fault))

-- A parser that began with the first end and now has the other stands for these bytes: it ends as they do, or memory ran
-- out on the way.
abbrev pub StandsFor : End → End → List ℕ → Type 0
StandsFor first (Fault fault) h = Refuses fault ((reading_from first h).ending ≡ Fault fault)
StandsFor first (Opening left) h = (reading_from first h).ending ≡ Opening left
StandsFor first (Rest rest) h = (reading_from first h).ending ≡ Rest rest
