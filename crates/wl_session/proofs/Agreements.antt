-- Talks that agree.
use Rattle.std.proofs.Common.{arith, ◌≡◌, ℕ, zero, suc, ◌<◌, length, get_or, ◌==◌, Bool, true, false, if◌then◌else◌, List, [], ◌∷◌, ◌++◌, Option, None, refl, sym, ap, ◌∙◌, subst}
use Rattle.std.proofs.lemmas.List.{append-nil}
use Rattle.wl_session.proofs.Common.{FrameFault, Frame, End, Opening, Rest, Fault, Reading, reading_from, ConnFault, Phase, Open, Failed, OutOfMemory, flush_of, frame_fault_on, after_frame_fault, UnknownService, spell_state, Publication, ViewModel, view_in, answer_of, asks_of, Answer, Denied, Wait, TooLong, Message, Method3, Wanted, CallKind, Stream, Tokens, Check, Watch, Stage, Unnamed, Ready, Asking, ServedCall, was_seen, Turned, goes_on, has_ended, with_refusal, with_last_message, stream_answer, health_of, token_answer, call_answer, stage_turn, call_turn, turn_before, calls_turn, Talking, Said, first_of, then_, silent, written, frames_said, break_said, ended_by, feed_said, with_turned, turn_said, HasSeen, HaveSeen}
use Rattle.h2_frame.specs.Reading.{read_on}
use Rattle.h2_frame.proofs.Cuts.{reads_on}
use Rattle.h2_conn.proofs.Results.{flushes_once}
use Rattle.wl_snapshot.proofs.Equalities.{view_model_self}
use Rattle.wl_session.specs.Answering.{answer_where_new}
use Rattle.wl_session.specs.Agreeing.{SeesAlike, SeeAlike, IsQuiet}
use Rattle.wl_session.proofs.ItemSequences.{then_assoc, said_on}

-- after what was written nothing is left to be written
pub written_quiet : (fault : Option ConnFault) (t : Talking) → IsQuiet (written fault t).after
unfolding written
written_quiet fault t = record { greeted = refl; quiet = flushes_once t.phase }

-- a quiet talk writes nothing
pub quiet_writes : (fault : Option ConnFault) (t : Talking) → IsQuiet t → written fault t ≡ record { after = t; bytes = []; fault = fault }
unfolding written
quiet_writes fault t q = rw (q.greeted, q.quiet) refl

ended_then : (x : End) (s : Said) (f : Talking → Said) → ended_by x (then_ s f) ≡ then_ s (λ u. ended_by x (f u))
ended_then (Opening left) s f = refl
ended_then (Rest rest) s f = refl
ended_then (Fault why) s f = sym (then_assoc s f (break_said why))

open_on : (fs gs : List Frame) (x : End) (t : Talking) → ended_by x (frames_said (fs ++ gs) t) ≡ then_ (frames_said fs t) (λ u. ended_by x (frames_said gs u))
open_on fs gs x t = ap (ended_by x) (said_on fs gs t) ∙ ended_then x (frames_said fs t) (frames_said gs)

broken_phase : (why : FrameFault) (p : Phase) → after_frame_fault why (flush_of (after_frame_fault why p)).after ≡ (flush_of (after_frame_fault why p)).after
unfolding flush_of
broken_phase why (Open q) = refl
broken_phase why (Failed fault left totals) = refl
broken_phase why (OutOfMemory totals) = refl

broken_fault : (why : FrameFault) (p : Phase) → first_of (frame_fault_on why p) (frame_fault_on why (flush_of (after_frame_fault why p)).after) ≡ frame_fault_on why p
unfolding flush_of
broken_fault why (Open q) = refl
broken_fault why (Failed fault left totals) = refl
broken_fault why (OutOfMemory totals) = refl

-- after a fault the same bytes do nothing
broke_quiet : (why : FrameFault) (u : Talking) → IsQuiet u → after_frame_fault why u.phase ≡ u.phase → break_said why u ≡ record { after = u; bytes = []; fault = frame_fault_on why u.phase }
unfolding break_said
broke_quiet why u q is = ap (λ (p : Phase). written (frame_fault_on why u.phase) (record u { phase = p })) is ∙ quiet_writes (frame_fault_on why u.phase) u q

broke_after : (why : FrameFault) (t : Talking) → break_said why (break_said why t).after ≡ record { after = (break_said why t).after; bytes = []; fault = frame_fault_on why (flush_of (after_frame_fault why t.phase)).after }
unfolding break_said written
broke_after why t = broke_quiet why _ (written_quiet (frame_fault_on why t.phase) (record t { phase = after_frame_fault why t.phase })) (broken_phase why t.phase)

broke_twice : (why : FrameFault) (t : Talking) → then_ (break_said why t) (break_said why) ≡ break_said why t
unfolding break_said written
broke_twice why t =
    ap (λ (r : Said). record { after = r.after; bytes = (break_said why t).bytes ++ r.bytes; fault = first_of (break_said why t).fault r.fault }) (broke_after why t)
    ∙ (ap (λ (xs : List ℕ). record { after = (break_said why t).after; bytes = xs; fault = first_of (break_said why t).fault (frame_fault_on why (flush_of (after_frame_fault why t.phase)).after) }) (append-nil (break_said why t).bytes)
    ∙ ap (λ (f : Option ConnFault). record { after = (break_said why t).after; bytes = (break_said why t).bytes; fault = f }) (broken_fault why t.phase))

broke_again : (why : FrameFault) (s : Said) → then_ (then_ s (break_said why)) (break_said why) ≡ then_ s (break_said why)
broke_again why s =
    sym (then_assoc s (break_said why) (break_said why))
    ∙ ap (λ (r : Said). record { after = r.after; bytes = s.bytes ++ r.bytes; fault = first_of s.fault r.fault }) (broke_twice why s.after)

fault_by : (fs : List Frame) (why : FrameFault) (b : List ℕ) (t : Talking) → feed_said (read_on (record { frames = fs; ending = Fault why }) b) t ≡ then_ (feed_said (record { frames = fs; ending = Fault why }) t) (feed_said (reading_from (Fault why) b))
unfolding feed_said reading_from frames_said
fault_by fs why b t = ap (λ (xs : List Frame). then_ (frames_said xs t) (break_said why)) (append-nil fs) ∙ sym (broke_again why (frames_said fs t))

fed_by : (fs : List Frame) (x : End) (b : List ℕ) (t : Talking) → feed_said (read_on (record { frames = fs; ending = x }) b) t ≡ then_ (feed_said (record { frames = fs; ending = x }) t) (feed_said (reading_from x b))
unfolding feed_said
fed_by fs (Opening left) b t = open_on fs (reading_from (Opening left) b).frames (reading_from (Opening left) b).ending t
fed_by fs (Rest rest) b t = open_on fs (reading_from (Rest rest) b).frames (reading_from (Rest rest) b).ending t
fed_by fs (Fault why) b t = fault_by fs why b t

pub cut_anywhere : (e : End) (a b : List ℕ) (t : Talking) → feed_said (reading_from e (a ++ b)) t ≡ then_ (feed_said (reading_from e a) t) (feed_said (reading_from (reading_from e a).ending b))
cut_anywhere e a b t = ap (λ (r : Reading). feed_said r t) (reads_on e a b) ∙ fed_by (reading_from e a).frames (reading_from e a).ending b t

-- ---- turns

stage_alike : (x y : Publication) (n : ℕ) (s : Stage) (p : Phase) → SeesAlike x y s → stage_turn x n s p ≡ stage_turn y n s p
stage_alike x y n (Unnamed kind) p same = refl
stage_alike x y n (Ready kind sel seen headed) p same = ap (λ (v : ViewModel). answer_where_new n kind sel seen headed v p) same
stage_alike x y n (Asking first rest got) p same = refl

call_alike : (x y : Publication) (c : ServedCall) (p : Phase) → SeesAlike x y c.stage → call_turn x c p ≡ call_turn y c p
unfolding call_turn
call_alike x y c p same = stage_alike x y c.stream c.stage p same

calls_alike : (x y : Publication) (cs : List ServedCall) (p : Phase) → SeeAlike x y cs → calls_turn x cs p ≡ calls_turn y cs p
unfolding calls_turn
calls_alike x y [] p same = refl
calls_alike x y (c ∷ cs) p same =
    ap (λ (first : Turned). turn_before first (calls_turn x cs)) (call_alike x y c p same.0)
    ∙ ap (λ (rest : Turned). record { phase = rest.phase; kept = (call_turn y c p).kept ++ rest.kept }) (calls_alike x y cs (call_turn y c p).phase same.1)

-- publications that show each ready call the same view are answered alike
pub alike : (x y : Publication) (t : Talking) → SeeAlike x y t.served → turn_said x t ≡ turn_said y t
unfolding turn_said
alike x y t same = ap (λ (r : Turned). written None (with_turned t r)) (calls_alike x y t.served t.phase same)

stage_stays : (x : Publication) (n : ℕ) (s : Stage) (p : Phase) → HasSeen x s → stage_turn x n s p ≡ goes_on n s p
stage_stays x n (Unnamed kind) p seen = refl
stage_stays x n (Ready kind sel old headed) p seen = rw seen refl
stage_stays x n (Asking first rest got) p seen = refl

call_stays : (x : Publication) (c : ServedCall) (p : Phase) → HasSeen x c.stage → call_turn x c p ≡ record { phase = p; kept = c ∷ [] }
unfolding call_turn
call_stays x c p seen = stage_stays x c.stream c.stage p seen

pub calls_stay : (x : Publication) (cs : List ServedCall) (p : Phase) → HaveSeen x cs → calls_turn x cs p ≡ record { phase = p; kept = cs }
unfolding calls_turn
calls_stay x [] p seen = refl
calls_stay x (c ∷ cs) p seen =
    ap (λ (first : Turned). turn_before first (calls_turn x cs)) (call_stays x c p seen.0)
    ∙ ap (λ (rest : Turned). record { phase = rest.phase; kept = c ∷ rest.kept }) (calls_stay x cs p seen.1)

-- a turn on views that were all seen writes nothing and changes nothing
pub again : (x : Publication) (t : Talking) → IsQuiet t → HaveSeen x t.served → turn_said x t ≡ silent t
unfolding turn_said
again x t quiet seen = ap (λ (r : Turned). written None (with_turned t r)) (calls_stay x t.served t.phase seen) ∙ quiet_writes None t quiet

seen_append : (x : Publication) (cs ds : List ServedCall) → HaveSeen x cs → HaveSeen x ds → HaveSeen x (cs ++ ds)
seen_append x [] ds a b = b
seen_append x (c ∷ cs) ds a b = (a.0, seen_append x cs ds a.1 b)

stream_seen : (x : Publication) (n : ℕ) (method : Method3) (sel : List (List ℕ)) (headed : Bool) (a : Answer) (p : Phase) → HaveSeen x (stream_answer n method sel (view_in x sel) headed a p).kept
stream_seen x n method sel headed Denied p = tt
stream_seen x n method sel headed Wait p = (view_model_self (view_in x sel), tt)
stream_seen x n method sel headed (TooLong size) p = tt
stream_seen x n method sel headed (Message m) p = (view_model_self (view_in x sel), tt)

token_seen : (x : Publication) (n : ℕ) (headed : Bool) (audience : List (List ℕ)) (ws : List Wanted) (p : Phase) → HaveSeen x (token_answer n headed audience ws p).kept
token_seen x n headed audience [] p = tt
token_seen x n headed audience (w ∷ ws) p = (tt, tt)

check_seen : (x : Publication) (n : ℕ) (headed : Bool) (state : ℕ) (p : Phase) (b : Bool) → HaveSeen x (if b then has_ended (with_refusal n headed UnknownService p) else has_ended (with_last_message n headed (spell_state state) p)).kept
check_seen x n headed state p true = tt
check_seen x n headed state p false = tt

answer_seen : (x : Publication) (n : ℕ) (kind : CallKind) (sel : List (List ℕ)) (headed : Bool) (p : Phase) → HaveSeen x (call_answer n kind sel headed (view_in x sel) p).kept
unfolding call_answer
answer_seen x n (Stream method) sel headed p = stream_seen x n method sel headed (answer_of method (view_in x sel)) p
answer_seen x n (Tokens audience id) sel headed p = token_seen x n headed audience (asks_of id (view_in x sel)) p
answer_seen x n (Check service) sel headed p = check_seen x n headed (health_of service (view_in x sel)) p (health_of service (view_in x sel) == 3)
answer_seen x n (Watch service) sel headed p = (view_model_self (view_in x sel), tt)

new_seen : (x : Publication) (n : ℕ) (kind : CallKind) (sel : List (List ℕ)) (seen : Option ViewModel) (headed : Bool) (p : Phase) (b : Bool) → was_seen seen (view_in x sel) ≡ b
    → HaveSeen x (if b then goes_on n (Ready kind sel seen headed) p else call_answer n kind sel headed (view_in x sel) p).kept
new_seen x n kind sel seen headed p true is = (is, tt)
new_seen x n kind sel seen headed p false is = answer_seen x n kind sel headed p

stage_seen : (x : Publication) (n : ℕ) (s : Stage) (p : Phase) → HaveSeen x (stage_turn x n s p).kept
stage_seen x n (Unnamed kind) p = (tt, tt)
stage_seen x n (Ready kind sel seen headed) p = new_seen x n kind sel seen headed p (was_seen seen (view_in x sel)) refl
stage_seen x n (Asking first rest got) p = (tt, tt)

call_seen : (x : Publication) (c : ServedCall) (p : Phase) → HaveSeen x (call_turn x c p).kept
unfolding call_turn
call_seen x c p = stage_seen x c.stream c.stage p

-- those that go on after a turn were answered on their view
pub calls_seen : (x : Publication) (cs : List ServedCall) (p : Phase) → HaveSeen x (calls_turn x cs p).kept
unfolding calls_turn
calls_seen x [] p = tt
calls_seen x (c ∷ cs) p = seen_append x (call_turn x c p).kept (calls_turn x cs (call_turn x c p).phase).kept (call_seen x c p) (calls_seen x cs (call_turn x c p).phase)

-- so far too
pub so_far_seen : (x : Publication) (cs : List ServedCall) (p q : Phase) (kept : List ServedCall) → calls_turn x cs p ≡ record { phase = q; kept = kept } → HaveSeen x kept
so_far_seen x cs p q kept is = subst (λ (r : Turned). HaveSeen x r.kept) is (calls_seen x cs p)

-- a turn twice is a turn once
pub twice : (x : Publication) (t : Talking) → turn_said x (turn_said x t).after ≡ silent (turn_said x t).after
unfolding turn_said written
twice x t = again x _ (written_quiet None (with_turned t (calls_turn x t.served t.phase))) (calls_seen x t.served t.phase)

-- one of those that were answered on their views
pub one_seen : (x : Publication) (cs : List ServedCall) (i : ℕ) (c : ServedCall) → i < length cs → c ≡ get_or cs i c → HaveSeen x cs → HasSeen x c.stage
one_seen x [] i c within is seen = absurd (omega (arith, within))
one_seen x (b ∷ cs) zero c within is seen = subst (λ (d : ServedCall). HasSeen x d.stage) (sym is) seen.0
one_seen x (b ∷ cs) (suc i) c within is seen = one_seen x cs i c (omega (arith, within)) is seen.1
