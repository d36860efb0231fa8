-- Where a call stands, and what a further answer of its link makes of that.
use borrow.Author.Count.{below_more}
use Rattle.std.proofs.Common.{◌≡◌, ℕ, ◌+◌, ◌-◌, ◌^◌, ◌<◌, ◌≤◌, ◌⊎◌, inl, inr, ◌||◌, Bool, true, false, List, [], ◌∷◌, ◌++◌, length, take, Option, Some, None, Result, Ok, Err, IfOk, IfSome, refl, sym, ap, subst, ◌∙◌, append_assoc, arith, option_map}
use Rattle.std.specs.List.{list_any}
use Rattle.std.proofs.lemmas.Result.{IfOk-at_ok}
use Rattle.std.proofs.lemmas.Grind.{flat_map-append, common_steps}
use Rattle.std.proofs.lemmas.List.{append-nil, length-append, take-append-le}
use Rattle.std.proofs.lemmas.List.Folds.{list_any-append}
use Rattle.std.proofs.Math.Seq.{take-append_seam}
use Rattle.list_laws.specs.Lists.{BeginsWith}
use Rattle.wl_octets.specs.declared.memory.Memory.{Memory}
use Rattle.wl_edge.specs.Edge.{Rose}
use Rattle.wl_edge.specs.Links.{LinkLog, with_heard}
use Rattle.wl_edge.specs.declared.link.Heard.{Heard as Answer}
use Rattle.wl_edge.specs.declared.link.Heard.TheVariants as answer
use Rattle.wl_client.specs.declared.fault.ClientFault.{ClientFault}
use Rattle.wl_client.specs.declared.fault.ClientFault.TheVariants as faults
use Rattle.h2_frame.specs.Reading.{reading_from, frames_of, frames_in}
use Rattle.wl_edge.proofs.Sinks.{gained_none}
use Rattle.wl_client.specs.Hearing.{frames_heard}
use Rattle.wl_client.specs.Clients.{ClientState, Listening, Failed, Reply, fresh_state, heard, heard_in, heard_from, heard_on, IsListening, rest_in}
use Rattle.wl_client.specs.Openings.{opening_of}
use Rattle.wl_client.proofs.Cuts.{heard_more}
use Rattle.wl_control.specs.declared.asked.Asked.{Asked}
use Rattle.wl_control.specs.declared.asked.Verdict.{Verdict}
use Rattle.wl_control.specs.declared.asked.Verdict.TheVariants.{Faulted}
use Rattle.wl_control.specs.declared.request.Request.{Request}
use Rattle.wl_control.specs.declared.program.Call.{Call}
use Rattle.wl_control.specs.declared.status.TheConstants.{READ_FAILED, WRITE_FAILED}
use Rattle.wl_control.specs.Courses.{Course, course}
use Rattle.wl_control.specs.Calls.{method_of, message_of, asked_of}
use Rattle.wl_control.specs.Runs.{bytes_of, bytes_in, is_end, idles_with, idles_after, idles_in, read_limit, patience_of, limit_fault, link_fault, bytes_verdict, or_fault, course_by, verdict_of, line_of, verdict_line, text_of, sent_of, AreAwaited}
use Rattle.wl_control.specs.Ends.{Moment, LinkGains, Passes, BreaksOff, BreaksSending, IsDecided, Ends, decided, fails_read, fails_send, fails_write, Breaks, SendsPart, Delivered, delivered, not_written, not_sent, Delivers, SendsAll}
use Rattle.wl_control.specs.Standings.{reply_to, run_on, verdict_on, GoesOn, Starts, Standing, StepEnds}
use Rattle.wl_control.proofs.Courses.{course_on}
use Rattle.wl_control.proofs.Passages.{link_same, passes_nothing, passes_more, rose_wide, gives_one, gives_none}

-- ---- one answer more

bytes_more : (answers : List Answer) (a : Answer) → bytes_in (answers ++ a ∷ []) ≡ bytes_in answers ++ bytes_of a
bytes_more answers a = flat_map-append bytes_of answers (a ∷ []) ∙ ap (λ xs. bytes_in answers ++ xs) (append-nil (bytes_of a))

bytes_same : (answers : List Answer) (a : Answer) → bytes_of a ≡ [] → bytes_in (answers ++ a ∷ []) ≡ bytes_in answers
bytes_same answers a none = bytes_more answers a ∙ (ap (λ xs. bytes_in answers ++ xs) none ∙ append-nil (bytes_in answers))

idles_more_from : (n : ℕ) (answers : List Answer) (a : Answer) → idles_after n (answers ++ a ∷ []) ≡ idles_with (idles_after n answers) a
idles_more_from n [] a = refl
idles_more_from n (b ∷ answers) a = idles_more_from (idles_with n b) answers a

idles_more : (answers : List Answer) (a : Answer) → idles_in (answers ++ a ∷ []) ≡ idles_with (idles_in answers) a
idles_more answers a = idles_more_from 0 answers a

or_false : (b : Bool) → (b || false) ≡ b
or_false true = refl
or_false false = refl

end_more : (answers : List Answer) (a : Answer) → list_any is_end answers ≡ false → list_any is_end (answers ++ a ∷ []) ≡ is_end a
end_more answers a none = list_any-append is_end answers (a ∷ []) ∙ rw none (or_false (is_end a))

awaited_more : (q : Request) (answers : List Answer) (a : Answer) → AreAwaited q answers → verdict_of q answers ≡ None → AreAwaited q (answers ++ a ∷ [])
awaited_more q answers a before here = λ n lt.
    below_more (λ k. verdict_of q (take k (answers ++ a ∷ [])) ≡ None) (length answers)
    (λ k below. let short : k ≤ length answers = omega arith in rw (take-append-le k answers (a ∷ []) short) (before k below))
    (rw (take-append_seam answers (a ∷ [])) here)
    n (omega (arith, length-append answers (a ∷ [])))

-- ---- the verdict where a call stands

listening_none : (a : Asked) (s : ClientState) → IsListening s → bytes_verdict (Ok a) s ≡ None
listening_none a (Listening ending l) is = refl
listening_none a (Failed fault) is = absurd is

open_fault : (q : Request) (s : ClientState) (answers : List Answer) (patience left idles : ℕ) → list_any is_end answers ≡ false → length (bytes_in answers) + left ≡ read_limit q → patience ≡ patience_of q → idles_in answers ≡ idles
    → link_fault q s answers ≡ limit_fault patience left idles
unfolding link_fault
open_fault q s answers patience left idles is_open read waits idle =
    let remain : read_limit q - length (bytes_in answers) ≡ left = omega (arith, read) in
    rw (is_open, remain, idle, waits) refl

pub verdict_here : (q : Request) (start now : Moment) (call : Call) (answers : List Answer) → Standing q start now call answers → verdict_of q answers ≡ option_map Faulted (limit_fault call.patience call.left call.idles)
unfolding verdict_of
verdict_here q start now call answers st =
    rw (st.asks, st.here, listening_none call.asked call.client.state st.listening, open_fault q call.client.state answers call.patience call.left call.idles st.is_open st.read st.patience st.idle) refl

-- ---- a piece

heard_two : (b p : List ℕ) → heard (b ++ p) ≡ heard_on (heard b) p
unfolding heard
heard_two b p = heard_more fresh_state b p

reply_more : (answers : List Answer) (p : List ℕ) → heard (bytes_in (answers ++ answer.Piece p ∷ [])) ≡ heard_on (heard (bytes_in answers)) p
reply_more answers p = ap heard (bytes_more answers (answer.Piece p)) ∙ heard_two (bytes_in answers) p

after_piece : (call : Call) (answers : List Answer) (p : List ℕ) → (heard (bytes_in answers)).after ≡ call.client.state → (heard (bytes_in (answers ++ answer.Piece p ∷ []))).after ≡ (reply_to call p).after
after_piece call answers p here = ap (λ (r : Reply). r.after) (reply_more answers p) ∙ ap (λ (s : ClientState). (heard_from s p).after) here

course_piece : (q : Request) (call : Call) (answers : List Answer) (p : List ℕ) → (heard (bytes_in answers)).after ≡ call.client.state → (course_by q answers).after ≡ Ok call.asked
    → course_by q (answers ++ answer.Piece p ∷ []) ≡ record { lines = (course_by q answers).lines ++ (run_on call p).lines; after = (run_on call p).after }
unfolding course_by
course_piece q call answers p here asks =
    let b = bytes_in answers in
    ap (λ (r : Reply). course r.told (asked_of q)) (reply_more answers p)
    ∙ (ap (λ (s : ClientState). course ((heard b).told ++ (heard_from s p).told) (asked_of q)) here
    ∙ course_on (heard b).told (reply_to call p).told (asked_of q) call.asked asks)

sent_piece : (q : Request) (call : Call) (answers : List Answer) (p : List ℕ) → (heard (bytes_in answers)).after ≡ call.client.state
    → sent_of q (answers ++ answer.Piece p ∷ []) ≡ sent_of q answers ++ (reply_to call p).bytes
unfolding sent_of
sent_piece q call answers p here =
    let b = bytes_in answers in
    let first = opening_of (method_of q) (message_of q) in
    ap (λ (r : Reply). first ++ r.bytes) (reply_more answers p)
    ∙ (ap (λ (s : ClientState). first ++ ((heard b).bytes ++ (heard_from s p).bytes)) here
    ∙ sym (append_assoc first (heard b).bytes (reply_to call p).bytes))

verdict_piece : (q : Request) (call : Call) (answers : List Answer) (p : List ℕ) → (heard (bytes_in answers)).after ≡ call.client.state → (course_by q answers).after ≡ Ok call.asked
    → verdict_of q (answers ++ answer.Piece p ∷ []) ≡ or_fault (verdict_on call p) (link_fault q (reply_to call p).after (answers ++ answer.Piece p ∷ []))
unfolding verdict_of
verdict_piece q call answers p here asks =
    let more = answers ++ answer.Piece p ∷ [] in
    ap (λ (c : Course). or_fault (bytes_verdict c.after (heard (bytes_in more)).after) (link_fault q (heard (bytes_in more)).after more)) (course_piece q call answers p here asks)
    ∙ ap (λ (s : ClientState). or_fault (bytes_verdict (run_on call p).after s) (link_fault q s more)) (after_piece call answers p here)

-- ---- an answer without bytes

course_silent : (q : Request) (answers : List Answer) (a : Answer) → bytes_of a ≡ [] → course_by q (answers ++ a ∷ []) ≡ course_by q answers
unfolding course_by
course_silent q answers a none = ap (λ b. course (heard b).told (asked_of q)) (bytes_same answers a none)

sent_silent : (q : Request) (answers : List Answer) (a : Answer) → bytes_of a ≡ [] → sent_of q (answers ++ a ∷ []) ≡ sent_of q answers
unfolding sent_of
sent_silent q answers a none = ap (λ b. opening_of (method_of q) (message_of q) ++ (heard b).bytes) (bytes_same answers a none)

after_silent : (answers : List Answer) (a : Answer) → bytes_of a ≡ [] → (heard (bytes_in (answers ++ a ∷ []))).after ≡ (heard (bytes_in answers)).after
after_silent answers a none = ap (λ b. (heard b).after) (bytes_same answers a none)

-- ---- what goes out

-- a prefix of what is due after what went out is one of all that is due
begins_more : (whole first due part tail : List ℕ) → whole ≡ first ++ (due ++ tail) → BeginsWith due part → BeginsWith whole (first ++ part)
begins_more whole first due part tail is b =
    (b.0 ++ tail, is ∙ (ap (λ xs. first ++ (xs ++ tail)) b.1 ∙ (ap (λ xs. first ++ xs) (append_assoc part b.0 tail) ∙ sym (append_assoc first part (b.0 ++ tail)))))

-- the line of the verdict is that of what the answers decide, unless nothing was decided yet
line_ends : (verdict due : Option Verdict) → ((v : Verdict) → verdict ≡ Some v → due ≡ Some v) → (tail : List ℕ) × (verdict_line due ≡ verdict_line verdict ++ tail)
line_ends None due decides = (verdict_line due, refl)
line_ends (Some v) due decides = ([], rw (decides v refl) (sym (append-nil (line_of v))))

text_ends : (q : Request) (answers : List Answer) (first text : List ℕ) (verdict : Option Verdict) → (course_by q answers).lines ≡ first ++ text → ((v : Verdict) → verdict ≡ Some v → verdict_of q answers ≡ Some v)
    → (tail : List ℕ) × (text_of q answers ≡ first ++ ((text ++ verdict_line verdict) ++ tail))
unfolding text_of
text_ends q answers first text verdict lines decides =
    let e = line_ends verdict (verdict_of q answers) decides in
    (e.0, rw (lines, e.1, append_assoc first text (verdict_line verdict ++ e.0), append_assoc text (verdict_line verdict) e.0) refl)

-- What is due for these answers, of which the first parts went out, and how they were decided, if they were.
record Due (q : Request) (start mid : Moment) (answers : List Answer) (sent text : List ℕ) (verdict : Option Verdict) : Type 0 where
  sent_first : List ℕ
  text_first : List ℕ
  awaited : AreAwaited q answers
  passes : Passes start mid answers sent_first text_first
  sends : sent_of q answers ≡ sent_first ++ sent
  lines : (course_by q answers).lines ≡ text_first ++ text
  decides : (v : Verdict) → verdict ≡ Some v → verdict_of q answers ≡ Some v

breaks_off : (q : Request) (start mid new : Moment) (answers : List Answer) (sent text : List ℕ) (verdict : Option Verdict) → Due q start mid answers sent text verdict
    → Breaks sent (text ++ verdict_line verdict) mid new → BreaksOff q start new
breaks_off q start mid new answers sent text verdict d b =
    let t = text_ends q answers d.text_first text verdict d.lines d.decides in
    record {
      answers = answers;
      awaited = d.awaited;
      sent = d.sent_first ++ b.sent_part;
      text = d.text_first ++ b.text_part;
      passes = subst (λ xs. Passes start new xs (d.sent_first ++ b.sent_part) (d.text_first ++ b.text_part)) (append-nil answers)
          (passes_more start mid new answers [] d.sent_first b.sent_part d.text_first b.text_part d.passes b.passes);
      due_sent = begins_more (sent_of q answers) d.sent_first sent b.sent_part [] (d.sends ∙ ap (λ xs. d.sent_first ++ xs) (sym (append-nil sent))) b.due_sent;
      due_text = begins_more (text_of q answers) d.text_first (text ++ verdict_line verdict) b.text_part t.0 t.1 b.due_text;
    }

breaks_sending : (q : Request) (start mid new : Moment) (answers : List Answer) (sent text : List ℕ) (verdict : Option Verdict) → Due q start mid answers sent text verdict
    → SendsPart sent (text ++ verdict_line verdict) mid new → BreaksSending q start new
unfolding breaks_off course_by
breaks_sending q start mid new answers sent text verdict d b =
    let all = text ++ verdict_line verdict in
    record {
      breaks = breaks_off q start mid new answers sent text verdict d (record { sent_part = b.0; text_part = all; passes = b.2; due_sent = b.1; due_text = ([], sym (append-nil all)) });
      written = (verdict_line verdict, rw (d.lines) (sym (append_assoc d.text_first text (verdict_line verdict))));
    }

is_decided : (q : Request) (start mid new : Moment) (answers : List Answer) (sent text : List ℕ) (v : Verdict) → Due q start mid answers sent text (Some v)
    → Passes mid new [] sent (text ++ line_of v) → IsDecided q start new v
unfolding text_of
is_decided q start mid new answers sent text v d p = record {
  answers = answers;
  awaited = d.awaited;
  decides = d.decides v refl;
  passes =
      let all = passes_more start mid new answers [] d.sent_first sent d.text_first (text ++ line_of v) d.passes p in
      let line : (course_by q answers).lines ++ verdict_line (verdict_of q answers) ≡ d.text_first ++ (text ++ line_of v) =
      rw (d.lines, d.decides v refl, append_assoc d.text_first text (line_of v)) refl in
      rw (d.sends, line) (subst (λ xs. Passes start new xs (d.sent_first ++ sent) (d.text_first ++ (text ++ line_of v))) (append-nil answers) all);
}

-- where nothing is decided, all went out
goes_out : (q : Request) (start mid new : Moment) (answers : List Answer) (sent text : List ℕ) → Due q start mid answers sent text None → Passes mid new [] sent (text ++ [])
    → Passes start new answers (sent_of q answers) (course_by q answers).lines
goes_out q start mid new answers sent text d p =
    let all = passes_more start mid new answers [] d.sent_first sent d.text_first (text ++ []) d.passes p in
    rw (d.sends, d.lines) (subst (λ ys. Passes start new answers (d.sent_first ++ sent) (d.text_first ++ ys)) (append-nil text)
    (subst (λ xs. Passes start new xs (d.sent_first ++ sent) (d.text_first ++ (text ++ []))) (append-nil answers) all))

step_delivered : (q : Request) (start mid new : Moment) (call : Call) (answers : List Answer) (sent text : List ℕ) (verdict : Option Verdict) (status : Option ℕ) → Due q start mid answers sent text verdict
    → (status ≡ None → verdict ≡ None → Passes start new answers (sent_of q answers) (course_by q answers).lines → StepEnds q start new call (Ok None))
    → Delivered sent text verdict mid new status → StepEnds q start new call (Ok status)
step_delivered q start mid new call answers sent text None status d go (delivered p) = go refl refl (goes_out q start mid new answers sent text d p)
step_delivered q start mid new call answers sent text (Some v) status d go (delivered p) = decided v (is_decided q start mid new answers sent text v d p)
step_delivered q start mid new call answers sent text verdict status d go (not_written rose b) =
    fails_write (rose_wide start.failed_writes mid.failed_writes new.failed_writes new.failed_writes d.passes.writes (omega arith) rose) (breaks_off q start mid new answers sent text verdict d b)
step_delivered q start mid new call answers sent text verdict status d go (not_sent rose b) =
    fails_send (rose_wide start.failed_sends mid.failed_sends new.failed_sends new.failed_sends d.passes.sends (omega arith) rose) (breaks_sending q start mid new answers sent text verdict d b)

step_delivers : (q : Request) (start mid new : Moment) (call : Call) (answers : List Answer) (sent text : List ℕ) (verdict : Option Verdict) (result : Result (Option ℕ) Memory) → Due q start mid answers sent text verdict
    → (result ≡ Ok None → verdict ≡ None → Passes start new answers (sent_of q answers) (course_by q answers).lines → StepEnds q start new call (Ok None))
    → Delivers sent text verdict mid new result → StepEnds q start new call result
step_delivers q start mid new call answers sent text verdict (Ok status) d go given =
    step_delivered q start mid new call answers sent text verdict status d (λ none. go (ap (λ (o : Option ℕ). Ok o) none)) given
step_delivers q start mid new call answers sent text verdict (Err memory) d go given = breaks_off q start mid new answers sent text verdict d given

-- ---- the steps

passes_next : (start old mid : Moment) (answers : List Answer) (a : Answer) (s t : List ℕ) → Passes start old answers s t → Passes old mid (a ∷ []) [] [] → Passes start mid (answers ++ a ∷ []) s t
passes_next start old mid answers a s t p r =
    subst (λ xs. Passes start mid (answers ++ a ∷ []) xs t) (append-nil s)
    (subst (λ xs. Passes start mid (answers ++ a ∷ []) (s ++ []) xs) (append-nil t) (passes_more start old mid answers (a ∷ []) s [] t [] p r))

below_limits : (patience left idles : ℕ) → 0 < left → idles < patience → limit_fault patience left idles ≡ None
below_limits patience left idles some few = grind (arith, common_steps)

undecided : (q : Request) (start now : Moment) (call : Call) (answers : List Answer) → Standing q start now call answers → 0 < call.left → call.idles < call.patience → verdict_of q answers ≡ None
undecided q start now call answers st some few =
    verdict_here q start now call answers st ∙ ap (λ (f : Option ClientFault). option_map Faulted f) (below_limits call.patience call.left call.idles some few)

standing_piece : (q : Request) (start old new : Moment) (call after : Call) (answers : List Answer) (p : List ℕ) → Standing q start old call answers → verdict_of q answers ≡ None → GoesOn call p after
    → after.left + length p ≡ call.left → after.idles ≡ 0 → Passes start new (answers ++ answer.Piece p ∷ []) (sent_of q (answers ++ answer.Piece p ∷ [])) (course_by q (answers ++ answer.Piece p ∷ [])).lines
    → Standing q start new after (answers ++ answer.Piece p ∷ [])
standing_piece q start old new call after answers p st none goes left idles out = record {
  passes = out;
  here = after_piece call answers p st.here ∙ sym goes.state;
  listening = goes.listening;
  asks = ap (λ (c : Course). c.after) (course_piece q call answers p st.here st.asks) ∙ goes.asks;
  awaited = awaited_more q answers (answer.Piece p) st.awaited none;
  is_open = end_more answers (answer.Piece p) st.is_open;
  read =
      let longer : length (bytes_in (answers ++ answer.Piece p ∷ [])) ≡ length (bytes_in answers) + length p = ap length (bytes_more answers (answer.Piece p)) ∙ length-append (bytes_in answers) p in
      let had = st.read in
      omega arith;
  patience = goes.patience ∙ st.patience;
  idle = idles_more answers (answer.Piece p) ∙ sym idles;
}

pub step_got : (q : Request) (start old mid new : Moment) (call after : Call) (answers : List Answer) (p : List ℕ) (result : Result (Option ℕ) Memory) → Standing q start old call answers → 0 < call.left → call.idles < call.patience
    → Passes old mid (answer.Piece p ∷ []) [] [] → after.left + length p ≡ call.left → after.idles ≡ 0
    → Delivers (reply_to call p).bytes (run_on call p).lines (verdict_on call p) mid new result → IfOk result (λ status. status ≡ None → GoesOn call p after) → StepEnds q start new after result
step_got q start old mid new call after answers p result st some few came left idles given goes =
    let none = undecided q start old call answers st some few in
    let more = answers ++ answer.Piece p ∷ [] in
    let due : Due q start mid more (reply_to call p).bytes (run_on call p).lines (verdict_on call p) = record {
      sent_first = sent_of q answers;
      text_first = (course_by q answers).lines;
      awaited = awaited_more q answers (answer.Piece p) st.awaited none;
      passes = passes_next start old mid answers (answer.Piece p) (sent_of q answers) (course_by q answers).lines st.passes came;
      sends = sent_piece q call answers p st.here;
      lines = ap (λ (c : Course). c.lines) (course_piece q call answers p st.here st.asks);
      decides = λ v is. verdict_piece q call answers p st.here st.asks ∙ ap (λ (o : Option Verdict). or_fault o (link_fault q (reply_to call p).after more)) is;
    } in
    step_delivers q start mid new after more (reply_to call p).bytes (run_on call p).lines (verdict_on call p) result due
    (λ open_end no_verdict out. (more, standing_piece q start old new call after answers p st none (IfOk-at_ok (λ (status : Option ℕ). status ≡ None → GoesOn call p after) open_end goes refl) left idles out))
    given

pub step_idle : (q : Request) (start old new : Moment) (call after : Call) (answers : List Answer) → Standing q start old call answers → 0 < call.left → call.idles < call.patience
    → Passes old new (answer.Idle ∷ []) [] [] → after.client ≡ call.client → after.asked ≡ call.asked → after.left ≡ call.left → after.patience ≡ call.patience → after.idles ≡ call.idles + 1 → StepEnds q start new after (Ok None)
step_idle q start old new call after answers st some few came client asked left patience idles =
    let none = undecided q start old call answers st some few in
    let more = answers ++ answer.Idle ∷ [] in (
      more,
      record {
        passes = rw (sent_silent q answers answer.Idle refl, course_silent q answers answer.Idle refl)
            (passes_next start old new answers answer.Idle (sent_of q answers) (course_by q answers).lines st.passes came);
        here = after_silent answers answer.Idle refl ∙ (st.here ∙ ap (λ c. c.state) (sym client));
        listening = rw client st.listening;
        asks = ap (λ (c : Course). c.after) (course_silent q answers answer.Idle refl) ∙ (st.asks ∙ ap (λ (a : Asked). Ok a) (sym asked));
        awaited = awaited_more q answers answer.Idle st.awaited none;
        is_open = end_more answers answer.Idle st.is_open;
        read =
            let same : length (bytes_in more) ≡ length (bytes_in answers) = ap length (bytes_same answers answer.Idle refl) in
            let had = st.read in
            omega arith;
        patience = patience ∙ st.patience;
        idle = idles_more answers answer.Idle ∙ (ap (λ n. n + 1) st.idle ∙ sym idles);
      },
    )

end_fault : (q : Request) (s : ClientState) (answers : List Answer) → list_any is_end answers ≡ false → link_fault q s (answers ++ answer.End ∷ []) ≡ Some (faults.Cut (length (rest_in s)))
unfolding link_fault
end_fault q s answers is_open = rw (end_more answers answer.End is_open) refl

verdict_end : (q : Request) (start old : Moment) (call : Call) (answers : List Answer) → Standing q start old call answers → verdict_of q (answers ++ answer.End ∷ []) ≡ Some (Faulted (faults.Cut (length (rest_in call.client.state))))
unfolding verdict_of
verdict_end q start old call answers st =
    rw (course_silent q answers answer.End refl, after_silent answers answer.End refl, st.asks, st.here, listening_none call.asked call.client.state st.listening, end_fault q call.client.state answers st.is_open) refl

pub step_end : (q : Request) (start old mid new : Moment) (call : Call) (answers : List Answer) (n : ℕ) (result : Result (Option ℕ) Memory) → Standing q start old call answers → 0 < call.left → call.idles < call.patience
    → Passes old mid (answer.End ∷ []) [] [] → n ≡ length (rest_in call.client.state) → Delivers [] [] (Some (Faulted (faults.Cut n))) mid new result → StepEnds q start new call result
step_end q start old mid new call answers n result st some few came rest given =
    let none = undecided q start old call answers st some few in
    let more = answers ++ answer.End ∷ [] in
    let due : Due q start mid more [] [] (Some (Faulted (faults.Cut n))) = record {
      sent_first = sent_of q answers;
      text_first = (course_by q answers).lines;
      awaited = awaited_more q answers answer.End st.awaited none;
      passes = passes_next start old mid answers answer.End (sent_of q answers) (course_by q answers).lines st.passes came;
      sends = sent_silent q answers answer.End refl ∙ sym (append-nil (sent_of q answers));
      lines = ap (λ (c : Course). c.lines) (course_silent q answers answer.End refl) ∙ sym (append-nil (course_by q answers).lines);
      decides = λ v is. verdict_end q start old call answers st ∙ (ap (λ (k : ℕ). Some (Faulted (faults.Cut k))) (sym rest) ∙ is);
    } in
    step_delivers q start mid new call more [] [] (Some (Faulted (faults.Cut n))) result due (λ open_end no_verdict out. absurd (cc no_verdict)) given

pub step_limit : (q : Request) (start old new : Moment) (call : Call) (answers : List Answer) (fault : ClientFault) (result : Result (Option ℕ) Memory) → Standing q start old call answers
    → limit_fault call.patience call.left call.idles ≡ Some fault → Delivers [] [] (Some (Faulted fault)) old new result → StepEnds q start new call result
step_limit q start old new call answers fault result st reached given =
    let due : Due q start old answers [] [] (Some (Faulted fault)) = record {
      sent_first = sent_of q answers;
      text_first = (course_by q answers).lines;
      awaited = st.awaited;
      passes = st.passes;
      sends = sym (append-nil (sent_of q answers));
      lines = sym (append-nil (course_by q answers).lines);
      decides = λ v is. verdict_here q start old call answers st ∙ (ap (λ (f : Option ClientFault). option_map Faulted f) reached ∙ is);
    } in
    step_delivers q start old new call answers [] [] (Some (Faulted fault)) result due (λ open_end no_verdict out. absurd (cc no_verdict)) given

-- ---- a receive that failed

breaks_here : (q : Request) (start new : Moment) (answers : List Answer) → AreAwaited q answers → Passes start new answers (sent_of q answers) (course_by q answers).lines → BreaksOff q start new
unfolding text_of
breaks_here q start new answers awaited p = record {
  answers = answers;
  awaited = awaited;
  sent = sent_of q answers;
  text = (course_by q answers).lines;
  passes = p;
  due_sent = ([], sym (append-nil (sent_of q answers)));
  due_text = (verdict_line (verdict_of q answers), refl);
}

pub failed_told : (q : Request) (start old new : Moment) (call : Call) (answers : List Answer) → Standing q start old call answers → 0 < call.left → call.idles < call.patience
    → Passes old new (answer.Failed ∷ []) [] [] → BreaksOff q start new
failed_told q start old new call answers st some few came =
    breaks_here q start new (answers ++ answer.Failed ∷ []) (awaited_more q answers answer.Failed st.awaited (undecided q start old call answers st some few))
    (rw (sent_silent q answers answer.Failed refl, course_silent q answers answer.Failed refl)
    (passes_next start old new answers answer.Failed (sent_of q answers) (course_by q answers).lines st.passes came))

pub failed_untold : (q : Request) (start old new : Moment) (call : Call) (answers : List Answer) → Standing q start old call answers → Passes old new [] [] [] → BreaksOff q start new
failed_untold q start old new call answers st same =
    breaks_here q start new answers st.awaited
    (subst (λ xs. Passes start new xs (sent_of q answers) (course_by q answers).lines) (append-nil answers)
    (subst (λ xs. Passes start new (answers ++ []) xs (course_by q answers).lines) (append-nil (sent_of q answers))
    (subst (λ xs. Passes start new (answers ++ []) (sent_of q answers ++ []) xs) (append-nil (course_by q answers).lines)
    (passes_more start old new answers [] (sent_of q answers) [] (course_by q answers).lines [] st.passes same))))

pub step_failed : (q : Request) (start : Moment) (l m : Option LinkLog) (k : Option (List ℕ)) (r s w t u : ℕ) (call : Call) (answers : List Answer)
    → Standing q start (record { link = l; sink = k; failed_receives = r; failed_sends = s; failed_writes = w }) call answers → 0 < call.left → call.idles < call.patience
    → IfSome l (λ log. (m ≡ Some (with_heard log answer.Failed)) ⊎ ((2 ^ 64 ≤ r + 1) × (m ≡ Some log))) → Rose r t → r ≤ t → u ≡ s
    → Ends q start (record { link = m; sink = k; failed_receives = t; failed_sends = u; failed_writes = w }) READ_FAILED
step_failed q start None m k r s w t u call answers st some few told rose later same =
    fails_read (rose_wide start.failed_receives r t t st.passes.receives (omega arith) rose)
    (failed_told q start _ _ call answers st some few (gives_one None m k r s w t u answer.Failed tt later same))
step_failed q start (Some log) m k r s w t u call answers st some few (inl told) rose later same =
    fails_read (rose_wide start.failed_receives r t t st.passes.receives (omega arith) rose)
    (failed_told q start _ _ call answers st some few (gives_one (Some log) m k r s w t u answer.Failed told later same))
step_failed q start (Some log) m k r s w t u call answers st some few (inr told) rose later same =
    fails_read (rose_wide start.failed_receives r t t st.passes.receives (omega arith) rose)
    (failed_untold q start _ _ call answers st (gives_none (Some log) m k r s w t u (told.1 ∙ link_same (Some log)) later same))

-- ---- the start

heard_none : heard [] ≡ record { told = []; bytes = []; after = fresh_state }
unfolding heard heard_from heard_in reading_from frames_of frames_in frames_heard
heard_none = refl

course_start : (q : Request) → course_by q [] ≡ record { lines = []; after = Ok (asked_of q) }
unfolding course_by course
course_start q = rw heard_none refl

sent_start : (q : Request) → sent_of q [] ≡ opening_of (method_of q) (message_of q)
unfolding sent_of
sent_start q = rw heard_none (append-nil (opening_of (method_of q) (message_of q)))

pub stands_first : (q : Request) (old new : Moment) (call : Call) → Starts q call → Passes old new [] call.client.opening [] → Standing q old new call []
stands_first q old new call begun p = record {
  passes = rw (sent_start q, course_start q, ← begun.opening) p;
  here = ap (λ (r : Reply). r.after) heard_none ∙ sym begun.fresh;
  listening = rw begun.fresh tt;
  asks = ap (λ (c : Course). c.after) (course_start q) ∙ ap (λ (a : Asked). Ok a) (sym begun.asks);
  awaited = λ n below. absurd (omega arith);
  is_open = refl;
  read = let none : length (bytes_in []) ≡ 0 = refl in omega (arith, begun.left);
  patience = begun.patience;
  idle = sym begun.idles;
}

-- a call whose opening went out in part
pub breaks_first : (q : Request) (old new : Moment) (part : List ℕ) → BeginsWith (opening_of (method_of q) (message_of q)) part → Passes old new [] part [] → BreaksOff q old new
breaks_first q old new part front p = record {
  answers = [];
  awaited = λ n below. absurd (omega arith);
  sent = part;
  text = [];
  passes = p;
  due_sent = rw (sent_start q) front;
  due_text = (text_of q [], refl);
}

-- nothing went out yet
pub breaks_start : (q : Request) (m : Moment) → BreaksOff q m m
breaks_start q m = breaks_first q m m [] (opening_of (method_of q) (message_of q), refl) (passes_nothing m)

pub opening_fails : (q : Request) (call : Call) (bytes : List ℕ) (l m : Option LinkLog) (k : Option (List ℕ)) (r s w t u : ℕ) → Starts q call → bytes ≡ call.client.opening → t ≡ r → SendsAll l m s u bytes false
    → Ends q (record { link = l; sink = k; failed_receives = r; failed_sends = s; failed_writes = w }) (record { link = m; sink = k; failed_receives = t; failed_sends = u; failed_writes = w }) WRITE_FAILED
unfolding breaks_first
opening_fails q call bytes l m k r s w t u begun same still went =
    fails_send went.0 (record {
      breaks = breaks_first q _ _ went.2.0 (subst (λ (xs : List ℕ). BeginsWith xs went.2.0) (same ∙ begun.opening) went.2.1)
          (record { link = went.2.2; sink = gained_none k; receives = omega arith; sends = went.1; writes = omega arith });
      written = ([], sym (ap (λ (c : Course). c.lines ++ []) (course_start q)));
    })

pub opening_sent : (q : Request) (call : Call) (bytes : List ℕ) (l m : Option LinkLog) (k : Option (List ℕ)) (r s w t u : ℕ) → Starts q call → bytes ≡ call.client.opening → t ≡ r → SendsAll l m s u bytes true
    → Standing q (record { link = l; sink = k; failed_receives = r; failed_sends = s; failed_writes = w }) (record { link = m; sink = k; failed_receives = t; failed_sends = u; failed_writes = w }) call []
opening_sent q call bytes l m k r s w t u begun same still went =
    stands_first q _ _ call begun
    (record { link = subst (λ (xs : List ℕ). LinkGains l m [] xs) same went.0; sink = gained_none k; receives = omega arith; sends = went.1; writes = omega arith })

-- ---- what a step answered

pub ended : (q : Request) (start new : Moment) (call : Call) (result : Result (Option ℕ) Memory) (status : ℕ) → result ≡ Ok (Some status) → StepEnds q start new call result → Ends q start new status
ended q start new call result status is step = subst (λ (r : Result (Option ℕ) Memory). StepEnds q start new call r) is step

pub went_on : (q : Request) (start new : Moment) (call : Call) (result : Result (Option ℕ) Memory) → result ≡ Ok None → StepEnds q start new call result → (answers : List Answer) × Standing q start new call answers
went_on q start new call result is step = subst (λ (r : Result (Option ℕ) Memory). StepEnds q start new call r) is step

pub broken : (q : Request) (start new : Moment) (call : Call) (result : Result (Option ℕ) Memory) (e : Memory) → result ≡ Err e → StepEnds q start new call result → BreaksOff q start new
broken q start new call result e is step = subst (λ (r : Result (Option ℕ) Memory). StepEnds q start new call r) is step

pub smaller : (P : Type 0) (result : Result (Option ℕ) Memory) → result ≡ Ok None → IfOk result (λ status. status ≡ None → P) → P
smaller P result is fact = IfOk-at_ok (λ (status : Option ℕ). status ≡ None → P) is fact refl
