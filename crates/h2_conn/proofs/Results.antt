-- Laws of a connection.
use Rattle.std.proofs.Common.{◌≡◌, ℕ, ◌==◌, ◌&&◌, ◌||◌, Bool, true, false, not, cond, List, [], ◌∷◌, refl, ap, ◌∙◌, arith}
use Rattle.std.proofs.lemmas.Bool.Decides.{nat_tests}
use Rattle.h2_conn.proofs.Common.{pull_of, ConnFault, Phase, Open, Failed, OutOfMemory, State, is_live, is_remote_closed, with_local_closed, without_live_stream, with_head_on, with_trailers_on, with_message_on, without_waiting_on, after_reset, answer_ends, answers_end, ends_reset_count, after_pull}
use Rattle.h2_flow.specs.Outboxes.{PullResult, IsQuiet, is_open}
use Rattle.h2_flow.proofs.QuietPulls.{pulls_once, removes_quietly}
use Rattle.h2_conn.specs.declared.phase.Totals.{Totals}
use Rattle.h2_conn.specs.Conns.{is_live_on, on_open, flush_of}

-- ---- two flushes are one

quiet_closed : (n : ℕ) (q : State) → IsQuiet q.outbox → IsQuiet (without_live_stream n q).outbox
unfolding without_live_stream
quiet_closed n q h = removes_quietly n q.outbox h

quiet_cond : (b : Bool) (q r : State) → IsQuiet q.outbox → IsQuiet r.outbox → IsQuiet (cond b q r).outbox
quiet_cond true q r x y = x
quiet_cond false q r x y = y

quiet_answer : (n : ℕ) (q : State) → IsQuiet q.outbox → IsQuiet (answer_ends n q).outbox
unfolding answer_ends
quiet_answer n q h = quiet_cond (is_remote_closed n q.streams) (without_live_stream n q) (record q { streams = with_local_closed n q.streams }) (quiet_closed n q h) h

quiet_answers : (ns : List ℕ) (q : State) → IsQuiet q.outbox → IsQuiet (answers_end ns q).outbox
quiet_answers [] q h = h
quiet_answers (n ∷ ns) q h = quiet_answers ns (answer_ends n q) (quiet_answer n q h)

quiet_after : (q : State) (p : PullResult) → IsQuiet p.left → IsQuiet (after_pull q p).outbox
unfolding after_pull
quiet_after q p h = quiet_answers p.ended (record q { outbox = p.left; rapid_reset_count = cond (ends_reset_count q p) 0 q.rapid_reset_count }) h

same_number : (n : ℕ) → (n == n) ≡ true
same_number n = grind (arith, nat_tests)

still : (b : Bool) (q : State) → b ≡ true → record q { rapid_reset_count = cond (not b || false) 0 q.rapid_reset_count } ≡ q
still b q e = rw e refl

after_quiet : (q : State) → after_pull q (record { sent = []; bytes = []; ended = []; left = q.outbox }) ≡ q
unfolding after_pull
after_quiet q = still (q.outbox.flow.begun == q.outbox.flow.begun) q (same_number q.outbox.flow.begun)

flush_quiet : (q : State) → IsQuiet q.outbox → flush_of (Open q) ≡ record { bytes = []; after = Open q }
unfolding flush_of
flush_quiet q h = ap (λ (p : PullResult). record { bytes = p.bytes; after = Open (after_pull q p) }) h ∙ ap (λ (r : State). record { bytes = []; after = Open r }) (after_quiet q)

pub flushes_once : (l : Phase) → flush_of (flush_of l).after ≡ record { bytes = []; after = (flush_of l).after }
unfolding flush_of
flushes_once (Open q) = flush_quiet (after_pull q (pull_of q.outbox)) (quiet_after q (pull_of q.outbox) (pulls_once q.outbox))
flushes_once (Failed fault left totals) = refl
flushes_once (OutOfMemory totals) = refl

-- ---- a stream that is not live takes nothing

none : (b c : Bool) (q r : State) → b ≡ false → cond (b && c) r q ≡ q
none b c q r e = rw e refl

pub dead_head : (n : ℕ) (block : List ℕ) (l : Phase) → is_live_on l n ≡ false → on_open (with_head_on n block) l ≡ l
unfolding with_head_on
dead_head n block (Open q) e = ap (λ (r : State). Open r) (none (is_live n q.streams) (is_open n q.outbox) q _ e)
dead_head n block (Failed fault left totals) e = refl
dead_head n block (OutOfMemory totals) e = refl

pub dead_last : (n : ℕ) (block : List ℕ) (l : Phase) → is_live_on l n ≡ false → on_open (with_trailers_on n block) l ≡ l
unfolding with_trailers_on
dead_last n block (Open q) e = ap (λ (r : State). Open r) (none (is_live n q.streams) (is_open n q.outbox) q _ e)
dead_last n block (Failed fault left totals) e = refl
dead_last n block (OutOfMemory totals) e = refl

pub dead_message : (n : ℕ) (message : List ℕ) (l : Phase) → is_live_on l n ≡ false → on_open (with_message_on n message) l ≡ l
unfolding with_message_on
dead_message n message (Open q) e = ap (λ (r : State). Open r) (none (is_live n q.streams) (is_open n q.outbox) q _ e)
dead_message n message (Failed fault left totals) e = refl
dead_message n message (OutOfMemory totals) e = refl

pub dead_withdrawal : (n : ℕ) (l : Phase) → is_live_on l n ≡ false → on_open (without_waiting_on n) l ≡ l
unfolding without_waiting_on
dead_withdrawal n (Open q) e = ap (λ (r : State). Open r) (none (is_live n q.streams) (is_open n q.outbox) q _ e)
dead_withdrawal n (Failed fault left totals) e = refl
dead_withdrawal n (OutOfMemory totals) e = refl

none_reset : (b : Bool) (q r : State) → b ≡ false → cond b r q ≡ q
none_reset b q r e = rw e refl

pub dead_reset : (n code : ℕ) (l : Phase) → is_live_on l n ≡ false → on_open (after_reset n code) l ≡ l
unfolding after_reset
dead_reset n code (Open q) e = ap (λ (r : State). Open r) (none_reset (is_live n q.streams) q _ e)
dead_reset n code (Failed fault left totals) e = refl
dead_reset n code (OutOfMemory totals) e = refl

-- ---- after a fault

pub fault_flush : (fault : ConnFault) (left : List ℕ) (totals : Totals) → flush_of (Failed fault left totals) ≡ record { bytes = left; after = Failed fault [] totals }
unfolding flush_of
fault_flush fault left totals = refl

pub fault_quiet : (fault : ConnFault) (totals : Totals) → flush_of (Failed fault [] totals) ≡ record { bytes = []; after = Failed fault [] totals }
unfolding flush_of
fault_quiet fault totals = refl
