-- Messages in the bytes of a body (PROTOCOL-HTTP2 of gRPC, Length-Prefixed-Message).
use Rattle.std.specs.Prelude.{◌≡◌, ℕ, zero, suc, ◌<◌, ◌≤◌, ◌==◌, nat_lt, not, if◌then◌else◌, List, [], ◌∷◌, ◌++◌, length, take, drop, slice_index, Option, Some, None, Result, Ok, Err}
use Rattle.std.specs.Int.{w32, to_be_bytes, from_be_bytes}
use Rattle.grpc_wire.specs.declared.prefix.TheConstants.{PREFIX_LEN}
use Rattle.grpc_wire.specs.declared.fault.MessageFault.{MessageFault}
use Rattle.grpc_wire.specs.declared.fault.MessageFault.TheVariants as faults

-- ---- one message

-- a message as bytes: a flag of 0, four bytes of length, and the message itself
unfoldable pub framed : List ℕ → List ℕ
framed m = 0 ∷ to_be_bytes w32 (length m) ++ m

-- own rule: no message is above the limit
abbrev pub length_within : ℕ → ℕ → Result (Option ℕ) MessageFault
length_within limit n = if nat_lt limit n then Err (faults.TooLong n) else Ok (Some n)

-- The length that the five bytes at the front say, once they have come. Each is judged as soon as it can be: the flag at
-- the first byte. Own rule: no message is compressed, so the flag is 0.
unfoldable pub prefix_of : ℕ → List ℕ → Result (Option ℕ) MessageFault
prefix_of limit b =
    if nat_lt (length b) 1 then Ok None
    else if not (slice_index b 0 == 0) then Err (faults.Flag (slice_index b 0))
    else if nat_lt (length b) PREFIX_LEN then Ok None
    else length_within limit (from_be_bytes w32 (take 4 (drop 1 b)))

-- what stands at the front: less than a message, a message and the bytes after it, or a fault
pub data Step : Type 0 where
  partial : Step
  whole : List ℕ → List ℕ → Step
  wrong : MessageFault → Step

abbrev pub step_of_prefix : Result (Option ℕ) MessageFault → List ℕ → Step
step_of_prefix (Err fault) after = wrong fault
step_of_prefix (Ok None) after = partial
step_of_prefix (Ok (Some n)) after = if nat_lt (length after) n then partial else whole (take n after) (drop n after)

unfoldable pub first_message : ℕ → List ℕ → Step
first_message limit b = step_of_prefix (prefix_of limit b) (drop PREFIX_LEN b)

-- ---- a whole body

-- how the bytes end: within a message, of which these are the bytes, or at a fault
pub data End : Type 0 where
  Rest : List ℕ → End
  Fault : MessageFault → End

-- the messages of a body, and how it ends after them
pub record Reading : Type 0 where
  pub messages : List (List ℕ)
  pub ending : End

abbrev pub after_step : Step → List ℕ → (List ℕ → Reading) → Reading
after_step partial b go_on = record { messages = []; ending = Rest b }
after_step (wrong fault) b go_on = record { messages = []; ending = Fault fault }
after_step (whole m rest) b go_on = record { messages = m ∷ (go_on rest).messages; ending = (go_on rest).ending }

-- at most so many messages
unfoldable pub messages_in : ℕ → ℕ → List ℕ → Reading
messages_in limit zero b = record { messages = []; ending = Rest b }
messages_in limit (suc n) b = after_step (first_message limit b) b (messages_in limit n)

-- all messages: each takes a byte at least
unfoldable pub messages_of : ℕ → List ℕ → Reading
messages_of limit b = messages_in limit (length b) b

-- Reading on from an end. From `Rest []` it reads a whole body.
unfoldable pub reading_from : ℕ → End → List ℕ → Reading
reading_from limit (Rest rest) b = messages_of limit (rest ++ b)
reading_from limit (Fault fault) b = record { messages = []; ending = Fault fault }

-- what a reading is with more bytes
abbrev pub read_on : ℕ → Reading → List ℕ → Reading
read_on limit r more = record { messages = r.messages ++ (reading_from limit r.ending more).messages; ending = (reading_from limit r.ending more).ending }

-- ---- what the code keeps and gives

-- a body that is being cut: the limit of each message, and how the bytes so far end
pub record Cutting : Type 0 where
  pub limit : ℕ
  pub ending : End

-- the bytes of the message that isn't whole
abbrev pub rest_of : End → List ℕ
rest_of (Rest rest) = rest
rest_of (Fault fault) = []

-- what was answered is what is due, unless memory ran out
abbrev pub Refuses : MessageFault → Type 0 → Type 0
Refuses faults.Memory due = Unit {0}
Refuses (faults.Flag flag) due = due
Refuses (faults.TooLong n) due = due

-- a message and how many bytes it takes
abbrev pub Steps : ℕ → Result (Option (List ℕ × ℕ)) MessageFault → List ℕ → Type 0
Steps limit (Ok None) b = first_message limit b ≡ partial
Steps limit (Ok (Some found)) b = (first_message limit b ≡ whole found.0 (drop found.1 b)) × (0 < found.1) × (found.1 ≤ length b)
Steps limit (Err fault) b = Refuses fault (first_message limit b ≡ wrong fault)

abbrev pub IsOpen : End → Type 0
IsOpen (Rest rest) = Unit {0}
IsOpen (Fault fault) = ⊥

-- What a call answered, of which this was due: all of it, or the fault after all of it, or running out of memory.
abbrev pub Feeds : {T : Type 0} → Result T MessageFault → Reading → List (List ℕ) → List (List ℕ) → End → Type 0
Feeds (Ok x) due old new ending = (new ≡ old ++ due.messages) × (ending ≡ due.ending) × IsOpen ending
Feeds (Err fault) due old new ending = (ending ≡ Fault fault) × Refuses fault ((new ≡ old ++ due.messages) × (due.ending ≡ Fault fault))

-- Something that cuts and now ends so stands for these bytes: they end so, or memory ran out on the way.
abbrev pub StandsFor : ℕ → End → List ℕ → Type 0
StandsFor limit (Fault fault) h = Refuses fault ((messages_of limit h).ending ≡ Fault fault)
StandsFor limit (Rest rest) h = (messages_of limit h).ending ≡ Rest rest
