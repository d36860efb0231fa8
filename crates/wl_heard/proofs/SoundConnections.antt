-- What holds of each connection of a talk: its queue are control frames, and the blocks of its streams are short.
use Rattle.std.proofs.Common.{◌≡◌, inl, inr, ℕ, ◌+◌, ◌<◌, ◌^◌, ◌==◌, not, Bool, true, false, cond, List, [], ◌∷◌, length, map, Some, None, refl, arith}
use Rattle.std.specs.List.{AllByRecursion}
use Rattle.std.proofs.lemmas.Bool.{cases_Bool}
use Rattle.list_laws.proofs.Elements.{all_filter}
use Rattle.wl_heard.proofs.Common.{FrameFault, Reset, Frame, Stream, is_number, update_stream, with_offer, with_head, with_trailers, with_message, without_waiting, without_stream, with_control, numbers, pull_of, Phase, Open, Failed, OutOfMemory, State, is_live, is_remote_closed, with_local_closed, Outcome, goes, fails, with_control_frame, without_live_stream, peer, Sound, result_of, frame_result, after_frame_fault, takes, with_head_on, with_trailers_on, with_message_on, without_waiting_on, after_reset, on_open, answer_ends, answers_end, ends_reset_count, after_pull, flush_of, at_cond, peer_sound, live_below, IsControl}
use Rattle.h2_conn.specs.Faults.{cause_of}
use Rattle.h2_conn.specs.Kinds.{Fits}
use Rattle.h2_conn.specs.Sound.{SoundAfter}
use Rattle.h2_conn.specs.Conns.{new_state}
use Rattle.h2_conn.proofs.Carries.{CarriesAfter, frame_carries}
use Rattle.h2_conn.proofs.Sounds.{s_closed, s_headed_on, s_finished_on, s_offered_on, s_withdrawn_on, s_reset_by}
use Rattle.h2_conn.proofs.WindowSums.{sound_pull}
use Rattle.wl_heard.proofs.WholeFrames.{Holds, holds_none, IsShortSent}
use Rattle.wl_heard.proofs.Rounds.{HasShortBlocks, IsSmall, pull_sent, pull_streams}
use Rattle.wl_heard.proofs.Queues.{Queued, Queues, q_reset, q_closed, q_fails, frame_queues}

pub record TidyState (q : State) : Type 0 where
  pub sound : Sound q
  pub queued : Queued q
  pub blocks : AllByRecursion HasShortBlocks q.outbox.streams

-- of a connection that has failed control frames are left
abbrev pub Tidy : Phase → Type 0
Tidy (Open q) = TidyState q
Tidy (Failed fault left totals) = Holds IsControl left
Tidy (OutOfMemory totals) = Unit {0}

pub fresh_tidy : Tidy (Open new_state)
fresh_tidy = record {
  sound = record { same = refl; below = tt; low = tt; rises = tt };
  queued = record { control = holds_none; last = omega arith };
  blocks = tt;
}

-- ---- a stream that is live

-- ---- a frame

carried : (q : State) (c i : ℕ) (o : Outcome) → CarriesAfter (λ told s. HasShortBlocks s) c i o → SoundAfter o → Queues o → Tidy (result_of q o).after
carried q c i (goes new told) blocks sound queued = record { sound = sound; queued = queued; blocks = blocks.0 }
carried q c i (fails control f) blocks sound queued = queued

pub frame_tidy : (f : Frame) (p : Phase) → Fits f → Tidy p → Tidy (frame_result p f).after
unfolding frame_result
frame_tidy f (Open q) fits h =
    carried q _ _ (peer q f)
    (frame_carries HasShortBlocks (λ told s. HasShortBlocks s) q.outbox.flow.connection_window q.outbox.flow.initial_window_size q f (λ told s k. k) (λ n headers ended. (tt, tt)) h.sound (h.blocks, refl, refl))
    (peer_sound q f fits.0 h.sound)
    (frame_queues q f fits h.sound h.queued)
frame_tidy f (Failed fault left totals) fits h = h
frame_tidy f (OutOfMemory totals) fits h = tt

pub broken_tidy : (why : FrameFault) (p : Phase) → Tidy p → Tidy (after_frame_fault why p)
broken_tidy why (Open q) h = q_fails q (cause_of why) h.queued
broken_tidy why (Failed fault left totals) h = h
broken_tidy why (OutOfMemory totals) h = tt

-- ---- what is given to a connection

changed : (n : ℕ) (f : Stream → Stream) → ((s : Stream) → HasShortBlocks s → HasShortBlocks (f s)) → (ss : List Stream) → AllByRecursion HasShortBlocks ss → AllByRecursion HasShortBlocks (update_stream n f ss)
changed n f go [] h = tt
changed n f go (s ∷ ss) h =
    elim (cases_Bool (s.number == n)) [
      | inl here ↦ rw here (go s h.0, h.1)
      | inr there ↦ rw there (h.0, changed n f go ss h.1)
    ]

-- what is queued stays, and the streams' blocks
record Gives (q new : State) : Type 0 where
  queued : Queued q → Queued new
  blocks : AllByRecursion HasShortBlocks q.outbox.streams → AllByRecursion HasShortBlocks new.outbox.streams

taken : (b : Bool) (q new : State) → Gives q new → Gives q (cond b new q)
taken b q new g = at_cond (Gives q) b new q g (record { queued = λ h. h; blocks = λ h. h })

step_tidy : (step : State → State) → ((q : State) → Sound q → Sound (step q)) → ((q : State) → Gives q (step q)) → (p : Phase) → Tidy p → Tidy (on_open step p)
step_tidy step sound gives (Open q) h = record { sound = sound q h.sound; queued = (gives q).queued h.queued; blocks = (gives q).blocks h.blocks }
step_tidy step sound gives (Failed fault left totals) h = h
step_tidy step sound gives (OutOfMemory totals) h = tt

gives_head : (n : ℕ) (block : List ℕ) → length block < 16384 → (q : State) → Gives q (with_head_on n block q)
unfolding with_head_on with_head
gives_head n block short q = taken (takes n q) q _ (record { queued = λ h. record { control = h.control; last = h.last }; blocks = λ h. changed n (λ s. record s { head = Some block }) (λ s k. (short, k.1)) q.outbox.streams h })

pub head_tidy : (n : ℕ) (block : List ℕ) (p : Phase) → length block < 16384 → Tidy p → Tidy (on_open (with_head_on n block) p)
head_tidy n block p short h = step_tidy (with_head_on n block) (s_headed_on n block) (gives_head n block short) p h

gives_trailers : (n : ℕ) (block : List ℕ) → length block < 16384 → (q : State) → Gives q (with_trailers_on n block q)
unfolding with_trailers_on with_trailers
gives_trailers n block short q = taken (takes n q) q _ (record { queued = λ h. record { control = h.control; last = h.last }; blocks = λ h. changed n (λ s. record s { trailers = Some block; finished = true }) (λ s k. (k.0, short)) q.outbox.streams h })

pub trailers_tidy : (n : ℕ) (block : List ℕ) (p : Phase) → length block < 16384 → Tidy p → Tidy (on_open (with_trailers_on n block) p)
trailers_tidy n block p short h = step_tidy (with_trailers_on n block) (s_finished_on n block) (gives_trailers n block short) p h

gives_message : (n : ℕ) (m : List ℕ) (q : State) → Gives q (with_message_on n m q)
unfolding with_message_on with_message
gives_message n m q = taken (takes n q) q _ (record { queued = λ h. record { control = h.control; last = h.last }; blocks = λ h. changed n (with_offer m) (λ s k. k) q.outbox.streams h })

pub message_tidy : (n : ℕ) (m : List ℕ) (p : Phase) → Tidy p → Tidy (on_open (with_message_on n m) p)
message_tidy n m p h = step_tidy (with_message_on n m) (s_offered_on n m) (gives_message n m) p h

gives_silence : (n : ℕ) (q : State) → Gives q (without_waiting_on n q)
unfolding without_waiting_on without_waiting
gives_silence n q = taken (takes n q) q _ (record { queued = λ h. record { control = h.control; last = h.last }; blocks = λ h. changed n (λ s. record s { waiting = None }) (λ s k. k) q.outbox.streams h })

pub silence_tidy : (n : ℕ) (p : Phase) → Tidy p → Tidy (on_open (without_waiting_on n) p)
silence_tidy n p h = step_tidy (without_waiting_on n) (s_withdrawn_on n) (gives_silence n) p h

-- a stream that closes
closed_blocks : (n : ℕ) (q : State) → AllByRecursion HasShortBlocks q.outbox.streams → AllByRecursion HasShortBlocks (without_live_stream n q).outbox.streams
unfolding without_live_stream without_stream
closed_blocks n q h = all_filter HasShortBlocks (λ s. not (is_number n s)) q.outbox.streams h

closed_tidy : (n : ℕ) (q : State) → TidyState q → TidyState (without_live_stream n q)
closed_tidy n q h = record { sound = s_closed n q h.sound; queued = q_closed n q h.queued; blocks = closed_blocks n q h.blocks }

reset_blocks : (n code : ℕ) (q : State) → AllByRecursion HasShortBlocks q.outbox.streams → AllByRecursion HasShortBlocks (after_reset n code q).outbox.streams
unfolding after_reset with_control
reset_blocks n code q h = at_cond (λ (x : State). AllByRecursion HasShortBlocks x.outbox.streams) (is_live n q.streams) (without_live_stream n (with_control_frame n (Reset code) q)) q (closed_blocks n (with_control_frame n (Reset code) q) h) h

reset_queued : (n code : ℕ) (q : State) → code < 2 ^ 32 → Sound q → Queued q → Queued (after_reset n code q)
unfolding after_reset
reset_queued n code q small sound h = go (is_live n q.streams) refl
  where
    go : (b : Bool) → is_live n q.streams ≡ b → Queued (cond b (without_live_stream n (with_control_frame n (Reset code) q)) q)
    go true is =
        let below = live_below n q.last_stream_id (numbers q.outbox) q.streams sound.same sound.below is in
        q_closed n (with_control_frame n (Reset code) q) (q_reset n code q (omega (arith, below, h.last)) small h)
    go false is = h

pub reset_tidy : (n code : ℕ) (p : Phase) → code < 2 ^ 32 → Tidy p → Tidy (on_open (after_reset n code) p)
reset_tidy n code (Open q) small h = record { sound = s_reset_by n code q h.sound; queued = reset_queued n code q small h.sound h.queued; blocks = reset_blocks n code q h.blocks }
reset_tidy n code (Failed fault left totals) small h = h
reset_tidy n code (OutOfMemory totals) small h = tt

-- ---- a flush

small_streams : (last : ℕ) (ss : List Stream) → last < 2 ^ 31 → AllByRecursion (λ m. m < last + 1) (map (λ (s : Stream). s.number) ss) → AllByRecursion HasShortBlocks ss → AllByRecursion IsSmall ss
small_streams last [] low below h = tt
small_streams last (s ∷ ss) low below h = ((omega (arith, low, below.0), h.0), small_streams last ss low below.1 h.1)

all_small : (q : State) → TidyState q → AllByRecursion IsSmall q.outbox.streams
all_small q h = small_streams q.last_stream_id q.outbox.streams h.queued.last h.sound.below h.blocks

blocks_small : (ss : List Stream) → AllByRecursion IsSmall ss → AllByRecursion HasShortBlocks ss
blocks_small [] h = tt
blocks_small (s ∷ ss) h = (h.0.1, blocks_small ss h.1)

-- what is said of the streams and of the queue of an outbox, whichever streams end
abbrev Rests : State → Type 0
Rests q = Queued q × AllByRecursion HasShortBlocks q.outbox.streams

answer_rests : (n : ℕ) (q : State) → Rests q → Rests (answer_ends n q)
unfolding answer_ends
answer_rests n q h = at_cond Rests (is_remote_closed n q.streams) (without_live_stream n q) (record q { streams = with_local_closed n q.streams }) (q_closed n q h.0, closed_blocks n q h.1) (record { control = h.0.control; last = h.0.last }, h.1)

answers_rest : (ns : List ℕ) (q : State) → Rests q → Rests (answers_end ns q)
answers_rest [] q h = h
answers_rest (n ∷ ns) q h = answers_rest ns (answer_ends n q) (answer_rests n q h)

nothing_left : (q : State) → Holds IsControl (pull_of q.outbox).left.control
unfolding pull_of
nothing_left q = holds_none

pull_rests : (q : State) → TidyState q → Rests (after_pull q (pull_of q.outbox))
unfolding after_pull
pull_rests q h =
    let x = pull_of q.outbox in
    answers_rest x.ended (record q { outbox = x.left; rapid_reset_count = cond (ends_reset_count q x) 0 q.rapid_reset_count })
    (record { control = nothing_left q; last = h.queued.last }, blocks_small x.left.streams (pull_streams q.outbox (all_small q h)))

pub flush_tidy : (p : Phase) → Tidy p → Tidy (flush_of p).after
unfolding flush_of
flush_tidy (Open q) h = let r = pull_rests q h in record { sound = sound_pull q h.sound; queued = r.0; blocks = r.1 }
flush_tidy (Failed fault left totals) h = holds_none
flush_tidy (OutOfMemory totals) h = tt

-- what a pull writes
pub pull_short : (q : State) → TidyState q → AllByRecursion IsShortSent (pull_of q.outbox).sent
pull_short q h = pull_sent q.outbox (all_small q h)
