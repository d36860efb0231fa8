-- What a run of the client program is due to send and to write, by the answers that its link gave (own rules).
use Rattle.std.specs.Prelude.{◌≡◌, ℕ, ◌+◌, ◌-◌, ◌<◌, ◌==◌, nat_le, nat_lt, Bool, true, false, if◌then◌else◌, List, [], ◌∷◌, ◌++◌, length, take, Result, Ok, Err, Option, Some, None, option_map}
use Rattle.std.specs.List.{flat_map, list_any}
use Rattle.wl_edge.specs.declared.link.Heard.{Heard as Answer}
use Rattle.wl_edge.specs.declared.link.Heard.TheVariants as answer
use Rattle.wl_client.specs.declared.fault.ClientFault.{ClientFault}
use Rattle.wl_client.specs.declared.fault.ClientFault.TheVariants as faults
use Rattle.wl_client.specs.Clients.{ClientState, Listening, Failed, heard, rest_in}
use Rattle.wl_client.specs.Openings.{opening_of}
use Rattle.wl_control.specs.declared.asked.Asked.{Asked}
use Rattle.wl_control.specs.declared.asked.Verdict.{Verdict}
use Rattle.wl_control.specs.declared.asked.Verdict.TheVariants.{Done, Denied, Faulted}
use Rattle.wl_control.specs.declared.request.Request.{Request}
use Rattle.wl_control.specs.declared.limits.TheConstants.{READ_LIMIT, MAX_IDLES, ENDLESS_READ_LIMIT, ENDLESS_IDLES}
use Rattle.wl_control.specs.declared.words.TheConstants.{MAX_COUNT}
use Rattle.wl_control.specs.Lines.{status_line, fault_line}
use Rattle.wl_control.specs.Courses.{Course, course}
use Rattle.wl_control.specs.Calls.{method_of, message_of, asked_of}

-- ---- the answers of a link

-- the bytes that came with an answer
abbrev pub bytes_of : Answer → List ℕ
bytes_of (answer.Piece bytes) = bytes
bytes_of answer.Idle = []
bytes_of answer.End = []
bytes_of answer.Failed = []

-- the bytes that were read
abbrev pub bytes_in : List Answer → List ℕ
bytes_in answers = flat_map bytes_of answers

abbrev pub is_end : Answer → Bool
is_end (answer.Piece bytes) = false
is_end answer.Idle = false
is_end answer.End = true
is_end answer.Failed = false

-- how often in a row nothing came, where it was n times before this answer
abbrev pub idles_with : ℕ → Answer → ℕ
idles_with n (answer.Piece bytes) = 0
idles_with n answer.Idle = n + 1
idles_with n answer.End = 0
idles_with n answer.Failed = 0

abbrev pub idles_after : ℕ → List Answer → ℕ
idles_after n [] = n
idles_after n (a ∷ more) = idles_after (idles_with n a) more

-- how often in a row nothing came at the end of these answers
abbrev pub idles_in : List Answer → ℕ
idles_in answers = idles_after 0 answers

-- ---- what is due

-- a call for more messages than may be counted has no end
abbrev pub is_endless : Request → Bool
is_endless q = nat_lt MAX_COUNT (asked_of q).left

-- how many bytes are read at most
unfoldable pub read_limit : Request → ℕ
read_limit q = if is_endless q then ENDLESS_READ_LIMIT else READ_LIMIT

-- how often in a row nothing may come
unfoldable pub patience_of : Request → ℕ
patience_of q = if is_endless q then ENDLESS_IDLES else MAX_IDLES

-- nothing more may be read, or nothing came for too long
abbrev pub limit_fault : ℕ → ℕ → ℕ → Option ClientFault
limit_fault patience left idles = if left == 0 then Some faults.TooMuch else if nat_le patience idles then Some faults.Idle else None

-- the fault that the answers themselves have: the end, too many bytes, too long a silence
unfoldable pub link_fault : Request → ClientState → List Answer → Option ClientFault
link_fault q state answers =
    if list_any is_end answers then Some (faults.Cut (length (rest_in state)))
    else limit_fault (patience_of q) (read_limit q - length (bytes_in answers)) (idles_in answers)

-- What the parts of the server's answer decide, or else the first fault in its bytes.
abbrev pub bytes_verdict : Result Asked Verdict → ClientState → Option Verdict
bytes_verdict (Err v) state = Some v
bytes_verdict (Ok a) (Failed fault) = Some (Faulted fault)
bytes_verdict (Ok a) (Listening ending l) = None

-- or else the fault of the link's answers
abbrev pub or_fault : Option Verdict → Option ClientFault → Option Verdict
or_fault (Some v) fault = Some v
or_fault None fault = option_map Faulted fault

-- Heard of the bytes that were read, against what was asked for
unfoldable pub course_by : Request → List Answer → Course
course_by q answers = course (heard (bytes_in answers)).told (asked_of q)

unfoldable pub verdict_of : Request → List Answer → Option Verdict
verdict_of q answers =
    let state = (heard (bytes_in answers)).after in
    or_fault (bytes_verdict (course_by q answers).after state) (link_fault q state answers)

abbrev pub line_of : Verdict → List ℕ
line_of Done = []
line_of (Denied code text) = status_line code text
line_of (Faulted fault) = fault_line fault

abbrev pub verdict_line : Option Verdict → List ℕ
verdict_line None = []
verdict_line (Some v) = line_of v

-- the lines of the messages, and after them that of the verdict
unfoldable pub text_of : Request → List Answer → List ℕ
text_of q answers = (course_by q answers).lines ++ verdict_line (verdict_of q answers)

-- the bytes that open the call, and after them all that is written for the server's bytes
unfoldable pub sent_of : Request → List Answer → List ℕ
sent_of q answers = opening_of (method_of q) (message_of q) ++ (heard (bytes_in answers)).bytes

-- Nothing was decided before the last of these answers: each was still awaited.
abbrev pub AreAwaited : Request → List Answer → Type 0
AreAwaited q answers = (n : ℕ) → n < length answers → verdict_of q (take n answers) ≡ None
