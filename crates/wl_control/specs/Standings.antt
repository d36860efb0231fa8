-- Where a call stands between two answers of its link, and what a step of it answers.
use Rattle.std.specs.Prelude.{◌≡◌, ℕ, ◌+◌, false, List, length, Result, Ok, Err, Option, Some, None}
use Rattle.std.specs.List.{list_any}
use Rattle.wl_octets.specs.declared.memory.Memory.{Memory}
use Rattle.wl_edge.specs.declared.link.Heard.{Heard as Answer}
use Rattle.wl_client.specs.Clients.{Reply, fresh_state, heard, heard_from, IsListening}
use Rattle.wl_client.specs.Openings.{opening_of}
use Rattle.wl_control.specs.declared.asked.Verdict.{Verdict}
use Rattle.wl_control.specs.declared.request.Request.{Request}
use Rattle.wl_control.specs.declared.program.Call.{Call}
use Rattle.wl_control.specs.Courses.{Course, course}
use Rattle.wl_control.specs.Calls.{method_of, message_of, asked_of}
use Rattle.wl_control.specs.Runs.{read_limit, patience_of, bytes_in, is_end, idles_in, bytes_verdict, course_by, sent_of, AreAwaited}
use Rattle.wl_control.specs.Ends.{Moment, Passes, BreaksOff, Ends}

-- ---- a piece of the server's bytes

-- what is heard in it
abbrev pub reply_to : Call → List ℕ → Reply
reply_to call piece = heard_from call.client.state piece

-- how it meets what is asked for still
abbrev pub run_on : Call → List ℕ → Course
run_on call piece = course (reply_to call piece).told call.asked

abbrev pub verdict_on : Call → List ℕ → Option Verdict
verdict_on call piece = bytes_verdict (run_on call piece).after (reply_to call piece).after

-- where the call goes on, if the piece decides nothing
pub record GoesOn (call : Call) (piece : List ℕ) (after : Call) : Type 0 where
  pub state : after.client.state ≡ (reply_to call piece).after
  pub listening : IsListening after.client.state
  pub asks : (run_on call piece).after ≡ Ok after.asked
  pub patience : after.patience ≡ call.patience

-- ---- the answers so far

-- a call that was not made yet
pub record Starts (q : Request) (call : Call) : Type 0 where
  pub opening : call.client.opening ≡ opening_of (method_of q) (message_of q)
  pub fresh : call.client.state ≡ fresh_state
  pub asks : call.asked ≡ asked_of q
  pub left : call.left ≡ read_limit q
  pub patience : call.patience ≡ patience_of q
  pub idles : call.idles ≡ 0

-- A call stands after these answers: they decide nothing, all that is due for them was sent and written, and its counts are
-- those of these answers.
pub record Standing (q : Request) (start now : Moment) (call : Call) (answers : List Answer) : Type 0 where
  pub passes : Passes start now answers (sent_of q answers) (course_by q answers).lines
  pub here : (heard (bytes_in answers)).after ≡ call.client.state
  pub listening : IsListening call.client.state
  pub asks : (course_by q answers).after ≡ Ok call.asked
  pub awaited : AreAwaited q answers
  pub is_open : list_any is_end answers ≡ false
  pub read : length (bytes_in answers) + call.left ≡ read_limit q
  pub patience : call.patience ≡ patience_of q
  pub idle : idles_in answers ≡ call.idles

-- a step goes on after more answers, or ends the call
abbrev pub StepEnds : Request → Moment → Moment → Call → Result (Option ℕ) Memory → Type 0
StepEnds q start now call (Ok None) = (answers : List Answer) × Standing q start now call answers
StepEnds q start now call (Ok (Some status)) = Ends q start now status
StepEnds q start now call (Err memory) = BreaksOff q start now
