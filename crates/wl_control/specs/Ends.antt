-- How a run of the client program ends, and what it sent and wrote (own rules).
use Rattle.std.specs.Prelude.{◌≡◌, ◌≤◌, ℕ, Bool, true, false, List, [], ◌++◌, Result, Ok, Err, Option, Some, None, IfSome, option_map}
use Rattle.list_laws.specs.Lists.{BeginsWith}
use Rattle.wl_octets.specs.declared.memory.Memory.{Memory}
use Rattle.wl_edge.specs.Edge.{Rose, Gained}
use Rattle.wl_edge.specs.Links.{LinkLog}
use Rattle.wl_edge.specs.declared.link.Heard.{Heard as Answer}
use Rattle.wl_control.specs.declared.asked.Verdict.{Verdict}
use Rattle.wl_control.specs.declared.asked.Verdict.TheVariants.{Done, Denied, Faulted}
use Rattle.wl_control.specs.declared.request.Request.{Request}
use Rattle.wl_control.specs.declared.status.TheConstants.{DONE, USAGE, READ_FAILED, WRITE_FAILED, OUT_OF_MEMORY, DENIED, CLIENT_FAULT}
use Rattle.wl_control.specs.Runs.{course_by, verdict_line, verdict_of, text_of, sent_of, AreAwaited}

-- ---- what goes on outside

-- What the link gave and took and what the sink took, each where it is recorded, and how often each had failed.
pub record Moment : Type 0 where
  pub link : Option LinkLog
  pub sink : Option (List ℕ)
  pub failed_receives : ℕ
  pub failed_sends : ℕ
  pub failed_writes : ℕ

abbrev pub moment : Option LinkLog → Option (List ℕ) → ℕ → ℕ → ℕ → Moment
moment link sink receives sends writes = record { link = link; sink = sink; failed_receives = receives; failed_sends = sends; failed_writes = writes }

-- a link gave these answers and took these bytes, where it tells that
abbrev pub LinkGains : Option LinkLog → Option LinkLog → List Answer → List ℕ → Type 0
LinkGains old new answers sent = IfSome old (λ log. new ≡ Some (record { gave = log.gave ++ answers; took = log.took ++ sent }))

-- Between two moments the link gave these answers and took these bytes, and the sink took this text. No count falls.
pub record Passes (old new : Moment) (answers : List Answer) (sent text : List ℕ) : Type 0 where
  pub link : LinkGains old.link new.link answers sent
  pub sink : Gained old.sink new.sink text
  pub receives : old.failed_receives ≤ new.failed_receives
  pub sends : old.failed_sends ≤ new.failed_sends
  pub writes : old.failed_writes ≤ new.failed_writes

-- ---- the statuses

abbrev pub status_of : Verdict → ℕ
status_of Done = DONE
status_of (Denied code text) = DENIED
status_of (Faulted fault) = CLIENT_FAULT

-- A call that was broken off: each answer of its link was awaited, and it sent and wrote prefixes of what was due for them.
pub record BreaksOff (q : Request) (old new : Moment) : Type 0 where
  pub answers : List Answer
  pub awaited : AreAwaited q answers
  pub sent : List ℕ
  pub text : List ℕ
  pub passes : Passes old new answers sent text
  pub due_sent : BeginsWith (sent_of q answers) sent
  pub due_text : BeginsWith (text_of q answers) text

-- A call whose sending failed: the lines of all its messages were written before.
pub record BreaksSending (q : Request) (old new : Moment) : Type 0 where
  pub breaks : BreaksOff q old new
  pub written : BeginsWith breaks.text (course_by q breaks.answers).lines

-- A call that was decided: each answer of its link was awaited, they have this verdict, and it sent and wrote exactly what
-- was due for them.
pub record IsDecided (q : Request) (old new : Moment) (v : Verdict) : Type 0 where
  pub answers : List Answer
  pub awaited : AreAwaited q answers
  pub decides : verdict_of q answers ≡ Some v
  pub passes : Passes old new answers (sent_of q answers) (text_of q answers)

-- The status of a call.
pub data Ends (q : Request) (old new : Moment) : ℕ → Type 0 where
  -- that of the verdict
  decided : (v : Verdict) → IsDecided q old new v → Ends q old new (status_of v)
  -- a receive failed
  fails_read : Rose old.failed_receives new.failed_receives → BreaksOff q old new → Ends q old new READ_FAILED
  -- a sending failed
  fails_send : Rose old.failed_sends new.failed_sends → BreaksSending q old new → Ends q old new WRITE_FAILED
  -- a write failed
  fails_write : Rose old.failed_writes new.failed_writes → BreaksOff q old new → Ends q old new WRITE_FAILED
  -- memory ran out
  lacks_memory : BreaksOff q old new → Ends q old new OUT_OF_MEMORY

-- The status of a run, whose words may fit nothing.
pub data StatusExplains (request : Option Request) (old new : Moment) : ℕ → Type 0 where
  -- nothing is sent and nothing is written
  unfit : request ≡ None → new ≡ old → StatusExplains request old new USAGE
  -- memory ran out before the words were read
  unread : new ≡ old → StatusExplains request old new OUT_OF_MEMORY
  called : {status : ℕ} → (q : Request) → request ≡ Some q → Ends q old new status → StatusExplains request old new status

-- ---- what a step answers

-- prefixes of these bytes and of this text went out
pub record Breaks (sent text : List ℕ) (old new : Moment) : Type 0 where
  pub sent_part : List ℕ
  pub text_part : List ℕ
  pub passes : Passes old new [] sent_part text_part
  pub due_sent : BeginsWith sent sent_part
  pub due_text : BeginsWith text text_part

-- the text went out and the line of the verdict after it, and then a prefix of the bytes
abbrev pub SendsPart : List ℕ → List ℕ → Moment → Moment → Type 0
SendsPart sent text old new = (part : List ℕ) × BeginsWith sent part × Passes old new [] part text

-- the text went out and the line of the verdict after it, and then the bytes
pub data Delivered (sent text : List ℕ) (verdict : Option Verdict) (old new : Moment) : Option ℕ → Type 0 where
  delivered : Passes old new [] sent (text ++ verdict_line verdict) → Delivered sent text verdict old new (option_map status_of verdict)
  not_written : Rose old.failed_writes new.failed_writes → Breaks sent (text ++ verdict_line verdict) old new → Delivered sent text verdict old new (Some WRITE_FAILED)
  not_sent : Rose old.failed_sends new.failed_sends → SendsPart sent (text ++ verdict_line verdict) old new → Delivered sent text verdict old new (Some WRITE_FAILED)

abbrev pub Delivers : List ℕ → List ℕ → Option Verdict → Moment → Moment → Result (Option ℕ) Memory → Type 0
Delivers sent text verdict old new (Ok status) = Delivered sent text verdict old new status
Delivers sent text verdict old new (Err memory) = Breaks sent (text ++ verdict_line verdict) old new

abbrev pub EndsWith : Request → Moment → Moment → Result ℕ Memory → Type 0
EndsWith q old new (Ok status) = Ends q old new status
EndsWith q old new (Err memory) = BreaksOff q old new

-- all was sent, or a sending failed after a prefix
abbrev pub SendsAll : Option LinkLog → Option LinkLog → ℕ → ℕ → List ℕ → Bool → Type 0
SendsAll old new before now bytes true = LinkGains old new [] bytes × (before ≤ now)
SendsAll old new before now bytes false = Rose before now × (before ≤ now) × ((part : List ℕ) × BeginsWith bytes part × LinkGains old new [] part)
