-- What is done on one stream leaves what the others have.
use Rattle.std.proofs.Common.{◌≡◌, ℕ, ◌≤◌, Bool, true, false, not, cond, List, [], ◌∷◌, refl, sym, subst, ◌∙◌}
use Rattle.wl_session.proofs.Common.{block_bytes, Phase, Open, Failed, OutOfMemory, State, is_live, with_head_on, with_trailers_on, after_reset, on_open, offers, withdraws, flush_of, SoundPhase, framed, response_fields, trailer_fields, refused_fields, Refusal, with_last_message, with_refusal, CameOn}
use Rattle.h2_flow.specs.Outboxes.{PullResult, pull_of, with_head, with_trailers, with_message, without_waiting}
use Rattle.h2_frame.specs.declared.frame.Body.TheVariants.{Reset}
use Rattle.h2_conn.specs.Streams.{is_remote_closed, with_local_closed}
use Rattle.h2_conn.specs.Peer.{with_control_frame, without_live_stream}
use Rattle.h2_conn.specs.Conns.{takes, with_message_on, without_waiting_on, answer_ends, answers_end, ends_reset_count, after_pull}
use Rattle.h2_conn.specs.Sound.{Sound}
use Rattle.h2_conn.specs.Holding.{Claim, ClaimOn, IsHeld, Lasts}
use Rattle.h2_conn.proofs.Sounds.{s_headed_on, s_finished_on, s_offered_on, s_withdrawn_on, s_reset_by}
use Rattle.h2_conn.proofs.WindowSums.{sound_pull}
use Rattle.h2_conn.proofs.OfferedMessages.{headed_claim, finished_claim, offered_other, offered_here, withdrawn_other, reset_claim, flushed_claim}
use Rattle.wl_session.specs.Answering.{with_head as with_first_head, with_message as with_message_behind}

-- ---- what stands of a stream, and of the connection

pub record Keeps (n : ℕ) (p r : Phase) : Type 1 where
  pub claims : (claim : Claim) → Lasts claim → ClaimOn n claim p → ClaimOn n claim r
  pub came : CameOn n p → CameOn n r

pub keeps_itself : (n : ℕ) (p : Phase) → Keeps n p p
keeps_itself n p = record { claims = λ claim lasts h. h; came = λ h. h }

pub keeps_both : (n : ℕ) (p q r : Phase) → Keeps n p q → Keeps n q r → Keeps n p r
keeps_both n p q r h k = record { claims = λ claim lasts c. k.claims claim lasts (h.claims claim lasts c); came = λ c. k.came (h.came c) }

-- the streams that were opened, and that the connection is sound, stay
pub record Stands (p r : Phase) : Type 0 where
  pub came : (n : ℕ) → CameOn n p → CameOn n r
  pub sound : SoundPhase p → SoundPhase r

pub stands_itself : (p : Phase) → Stands p p
stands_itself p = record { came = λ n h. h; sound = λ h. h }

pub stands_both : (p q r : Phase) → Stands p q → Stands q r → Stands p r
stands_both p q r h k = record { came = λ n c. k.came n (h.came n c); sound = λ s. k.sound (h.sound s) }

step_stands : (step : State → State) → ((q : State) → (step q).last_stream_id ≡ q.last_stream_id) → ((q : State) → Sound q → Sound (step q)) → (p : Phase) → Stands p (on_open step p)
step_stands step last sound (Open q) = record { came = λ n c. subst (λ (m : ℕ). n ≤ m) (sym (last q)) c; sound = λ s. sound q s }
step_stands step last sound (Failed fault left totals) = stands_itself (Failed fault left totals)
step_stands step last sound (OutOfMemory totals) = stands_itself (OutOfMemory totals)

last_cond : (b : Bool) (q r : State) → r.last_stream_id ≡ q.last_stream_id → (cond b r q).last_stream_id ≡ q.last_stream_id
last_cond true q r e = e
last_cond false q r e = refl

head_last : (n : ℕ) (block : List ℕ) (q : State) → (with_head_on n block q).last_stream_id ≡ q.last_stream_id
unfolding with_head_on
head_last n block q = last_cond (takes n q) q (record q { outbox = with_head n block q.outbox }) refl

trailers_last : (n : ℕ) (block : List ℕ) (q : State) → (with_trailers_on n block q).last_stream_id ≡ q.last_stream_id
unfolding with_trailers_on
trailers_last n block q = last_cond (takes n q) q (record q { outbox = with_trailers n block q.outbox }) refl

message_last : (n : ℕ) (m : List ℕ) (q : State) → (with_message_on n m q).last_stream_id ≡ q.last_stream_id
unfolding with_message_on
message_last n m q = last_cond (takes n q) q (record q { outbox = with_message n m q.outbox }) refl

withdrawal_last : (n : ℕ) (q : State) → (without_waiting_on n q).last_stream_id ≡ q.last_stream_id
unfolding without_waiting_on
withdrawal_last n q = last_cond (takes n q) q (record q { outbox = without_waiting n q.outbox }) refl

reset_last : (n code : ℕ) (q : State) → (after_reset n code q).last_stream_id ≡ q.last_stream_id
unfolding after_reset without_live_stream
reset_last n code q = last_cond (is_live n q.streams) q (without_live_stream n (with_control_frame n (Reset code) q)) refl

head_stands : (n : ℕ) (block : List ℕ) (p : Phase) → Stands p (on_open (with_head_on n block) p)
head_stands n block p = step_stands (with_head_on n block) (head_last n block) (s_headed_on n block) p

trailers_stand : (n : ℕ) (block : List ℕ) (p : Phase) → Stands p (on_open (with_trailers_on n block) p)
trailers_stand n block p = step_stands (with_trailers_on n block) (trailers_last n block) (s_finished_on n block) p

message_stands : (n : ℕ) (m : List ℕ) (p : Phase) → Stands p (offers n m p)
message_stands n m p = step_stands (with_message_on n m) (message_last n m) (s_offered_on n m) p

pub withdrawal_stands : (n : ℕ) (p : Phase) → Stands p (withdraws n p)
withdrawal_stands n p = step_stands (without_waiting_on n) (withdrawal_last n) (s_withdrawn_on n) p

pub reset_stands : (n code : ℕ) (p : Phase) → Stands p (on_open (after_reset n code) p)
reset_stands n code p = step_stands (after_reset n code) (reset_last n code) (s_reset_by n code) p

-- ---- a flush

answer_last : (k : ℕ) (q : State) → (answer_ends k q).last_stream_id ≡ q.last_stream_id
unfolding answer_ends without_live_stream
answer_last k q = go (is_remote_closed k q.streams)
  where
    go : (b : Bool) → (cond b (without_live_stream k q) (record q { streams = with_local_closed k q.streams })).last_stream_id ≡ q.last_stream_id
    go true = refl
    go false = refl

answers_last : (ks : List ℕ) (q : State) → (answers_end ks q).last_stream_id ≡ q.last_stream_id
answers_last [] q = refl
answers_last (k ∷ ks) q = answers_last ks (answer_ends k q) ∙ answer_last k q

pull_last : (q : State) (x : PullResult) → (after_pull q x).last_stream_id ≡ q.last_stream_id
unfolding after_pull
pull_last q x = answers_last x.ended (record q { outbox = x.left; rapid_reset_count = cond (ends_reset_count q x) 0 q.rapid_reset_count })

pub flush_stands : (p : Phase) → Stands p (flush_of p).after
unfolding flush_of
flush_stands (Open q) = record { came = λ n c. subst (λ (m : ℕ). n ≤ m) (sym (pull_last q (pull_of q.outbox))) c; sound = λ s. sound_pull q s }
flush_stands (Failed fault left totals) = record { came = λ n c. tt; sound = λ s. tt }
flush_stands (OutOfMemory totals) = record { came = λ n c. tt; sound = λ s. tt }

pub flush_keeps : (n : ℕ) (p : Phase) → Keeps n p (flush_of p).after
flush_keeps n p = record { claims = λ claim lasts c. flushed_claim n claim p lasts c; came = λ c. (flush_stands p).came n c }

-- ---- on a stream k, what stream n has

head_keeps : (n k : ℕ) (block : List ℕ) (p : Phase) → Keeps n p (on_open (with_head_on k block) p)
head_keeps n k block p = record { claims = λ claim lasts c. headed_claim n k block claim p c; came = λ c. (head_stands k block p).came n c }

trailers_keep : (n k : ℕ) (block : List ℕ) (p : Phase) → Keeps n p (on_open (with_trailers_on k block) p)
trailers_keep n k block p = record { claims = λ claim lasts c. finished_claim n k block claim p c; came = λ c. (trailers_stand k block p).came n c }

message_keeps : (n k : ℕ) (m : List ℕ) (p : Phase) → (k ≡ n → ⊥) → Keeps n p (offers k m p)
message_keeps n k m p other = record { claims = λ claim lasts c. offered_other n k m claim p other c; came = λ c. (message_stands k m p).came n c }

pub withdrawal_keeps : (n k : ℕ) (p : Phase) → (k ≡ n → ⊥) → Keeps n p (withdraws k p)
withdrawal_keeps n k p other = record { claims = λ claim lasts c. withdrawn_other n k claim p other c; came = λ c. (withdrawal_stands k p).came n c }

pub reset_keeps : (n k code : ℕ) (p : Phase) → Keeps n p (on_open (after_reset k code) p)
reset_keeps n k code p = record { claims = λ claim lasts c. reset_claim n k code claim p c; came = λ c. (reset_stands k code p).came n c }

-- ---- answers

pub refusal_stands : (k : ℕ) (headed : Bool) (r : Refusal) (p : Phase) → Stands p (with_refusal k headed r p)
unfolding with_refusal
refusal_stands k headed r p = stands_both p (withdraws k p) _ (withdrawal_stands k p) (trailers_stand k (block_bytes (refused_fields r (not headed))) (withdraws k p))

pub refusal_keeps : (n k : ℕ) (headed : Bool) (r : Refusal) (p : Phase) → (k ≡ n → ⊥) → Keeps n p (with_refusal k headed r p)
unfolding with_refusal
refusal_keeps n k headed r p other = keeps_both n p (withdraws k p) _ (withdrawal_keeps n k p other) (trailers_keep n k (block_bytes (refused_fields r (not headed))) (withdraws k p))

pub first_stands : (k : ℕ) (headed : Bool) (p : Phase) → Stands p (with_first_head k headed p)
unfolding with_first_head
first_stands k true p = stands_itself p
first_stands k false p = head_stands k (block_bytes response_fields) p

first_keeps : (n k : ℕ) (headed : Bool) (p : Phase) → Keeps n p (with_first_head k headed p)
unfolding with_first_head
first_keeps n k true p = keeps_itself n p
first_keeps n k false p = head_keeps n k (block_bytes response_fields) p

pub answer_stands : (k : ℕ) (headed : Bool) (m : List ℕ) (p : Phase) → Stands p (with_message_behind k headed m p)
unfolding with_message_behind
answer_stands k headed m p = stands_both p (with_first_head k headed p) _ (first_stands k headed p) (message_stands k (framed m) (with_first_head k headed p))

pub answer_keeps : (n k : ℕ) (headed : Bool) (m : List ℕ) (p : Phase) → (k ≡ n → ⊥) → Keeps n p (with_message_behind k headed m p)
unfolding with_message_behind
answer_keeps n k headed m p other = keeps_both n p (with_first_head k headed p) _ (first_keeps n k headed p) (message_keeps n k (framed m) (with_first_head k headed p) other)

pub answer_held : (k : ℕ) (headed : Bool) (m : List ℕ) (p : Phase) → SoundPhase p → ClaimOn k (IsHeld (framed m)) (with_message_behind k headed m p)
unfolding with_message_behind
answer_held k headed m p sound = offered_here k (framed m) (with_first_head k headed p) ((first_stands k headed p).sound sound)

pub last_answer_stands : (k : ℕ) (headed : Bool) (m : List ℕ) (p : Phase) → Stands p (with_last_message k headed m p)
unfolding with_last_message
last_answer_stands k headed m p = stands_both p (with_message_behind k headed m p) _ (answer_stands k headed m p) (trailers_stand k (block_bytes (trailer_fields 0 [] false)) (with_message_behind k headed m p))

pub last_answer_keeps : (n k : ℕ) (headed : Bool) (m : List ℕ) (p : Phase) → (k ≡ n → ⊥) → Keeps n p (with_last_message k headed m p)
unfolding with_last_message
last_answer_keeps n k headed m p other = keeps_both n p (with_message_behind k headed m p) _ (answer_keeps n k headed m p other) (trailers_keep n k (block_bytes (trailer_fields 0 [] false)) (with_message_behind k headed m p))
