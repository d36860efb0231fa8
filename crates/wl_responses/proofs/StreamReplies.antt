-- What is written on a stream is the answers of the turns, over all steps.
use Rattle.std.proofs.Common.{◌≡◌, ◌⊎◌, inl, inr, ℕ, true, List, [], ◌∷◌, ◌++◌, Option, Some, None, refl, sym, ap, subst, ◌∙◌}
use Rattle.h2_flow.specs.declared.stream.Stream.{Stream}
use Rattle.wl_responses.proofs.Common.{pull_of, find_stream, ConnFault, Phase, Open, Failed, OutOfMemory, flush_of, frame_result, after_frame_fault, SoundPhase, standing_at, JwtOutcome, Turned, calls_turn, name_first, give_first, Talking, after_frame, frame_said, break_said, turn_said, name_said, given_said, CameOn, Step, FrameCame, BytesBroke, CallAttested, TurnTaken, OutcomeCame, step_said, talk_after, AllFit, frames_due, AnsweringTurn, Replies, no_replies, replies_with, stage_on, answering, turn_after, turn_on, replies_on, OnPhase, IsUnfinished}
use Rattle.h2_flow.specs.Progress.{all_data_on, left_of}
use Rattle.h2_flow.proofs.Messages.{GoesOn, goes_pull}
use Rattle.h2_conn.specs.Conns.{frame_fault_on}
use Rattle.wl_session.specs.Talks.{fresh_talk, written}
use Rattle.wl_session.specs.Sessions.{with_turned}
use Rattle.wl_responses.specs.Steps.{FitsStep}
use Rattle.wl_responses.specs.Replies.{waiting_on, replies_after}
use Rattle.wl_responses.specs.Responses.{StreamsHaveAnswers}
use Rattle.wl_session.proofs.Streams.{flush_stands}
use Rattle.wl_responses.proofs.OutboxStreams.{IfFound, found}
use Rattle.wl_responses.proofs.StreamFlushes.{IfWaits, Matches, Written, nothing_written, quiet_is, flush_goes, flush_unfinished}
use Rattle.wl_responses.proofs.Asides.{NoneOn, AllAside, calls_aside, names_aside, gives_aside}
use Rattle.wl_responses.proofs.WaitingAnswers.{Serves}
use Rattle.wl_responses.proofs.TurnsOnStreams.{turn_serves, name_serves, give_serves, none_answered, none_told}
use Rattle.wl_responses.proofs.Frames.{Unborn, Undecided, Speaks}
use Rattle.wl_responses.proofs.Peers.{after_speaks, break_speaks}

-- ---- nothing is written where nothing came

front_nothing : (d r : List ℕ) → d ++ r ≡ [] → d ≡ []
front_nothing [] r e = refl
front_nothing (x ∷ d) r e = absurd (cc e)

nothing_goes : (d : List ℕ) (a b : Option Stream) → GoesOn d a b → IfFound (Matches None no_replies) a → d ≡ []
nothing_goes d None None h m = h
nothing_goes d None (Some t) h m = absurd h
nothing_goes d (Some s) None h m = absurd h
nothing_goes d (Some s) (Some t) (inl h) m = front_nothing d (left_of t) (h.left ∙ sym m.0)
nothing_goes d (Some s) (Some t) (inr h) m = let no_turn : IfWaits None s.last (Some h.message) = subst (IfWaits None s.last) h.waited m.2 in absurd no_turn.0

nothing_due : (n : ℕ) (p : Phase) → SoundPhase p → OnPhase n (Matches None no_replies) p → all_data_on n (frames_due p) ≡ []
nothing_due n (Open q) sound m = nothing_goes _ (find_stream n q.outbox.streams) (find_stream n (pull_of q.outbox).left.streams) (goes_pull n q.outbox sound.rises) (found n (Matches None no_replies) q.outbox.streams m)
nothing_due n (Failed fault left totals) sound m = refl
nothing_due n (OutOfMemory totals) sound m = refl

still_nothing : (n : ℕ) (turn : Option AnsweringTurn) (r : Replies) (p : Phase) → turn ≡ None → r ≡ no_replies → SoundPhase p → OnPhase n (Matches turn r) p → replies_with (all_data_on n (frames_due p)) turn (waiting_on n p) r ≡ no_replies
still_nothing n turn r p none empty sound m =
    let there : OnPhase n (Matches None no_replies) p = subst (λ (s : Replies). OnPhase n (Matches None s) p) empty (subst (λ (t : Option AnsweringTurn). OnPhase n (Matches t r) p) none m) in
    ap (λ (d : List ℕ). replies_with d turn (waiting_on n p) r) (nothing_due n p sound there) ∙ (quiet_is turn (waiting_on n p) r ∙ empty)

-- ---- a flush

pub record Goes (n : ℕ) (turn : Option AnsweringTurn) (r : Replies) (t : Talking) : Type 0 where
  pub speaks : Speaks n turn r t
  pub written : Written r

abbrev flushed : ℕ → Option AnsweringTurn → Replies → Phase → Replies
flushed n turn r p = replies_with (all_data_on n (frames_due p)) turn (waiting_on n p) r

written_goes : (n : ℕ) (fault : Option ConnFault) (turn : Option AnsweringTurn) (r : Replies) (t : Talking) → Speaks n turn r t → Written r → Goes n turn (flushed n turn r t.phase) (written fault t).after
unfolding written
written_goes n fault turn r t h w =
    let f = flush_goes n turn r t.phase h.serves.sound h.serves.there w in
    record {
      speaks = record {
        serves = record { sound = (flush_stands t.phase).sound h.serves.sound; one = h.serves.one; fits = h.serves.fits; unfinished = still h.serves.unfinished; there = f.there };
        decided = verdict_still h.decided;
        age = older h.age;
      };
      written = f.written;
    }
  where
    still : NoneOn n t.served ⊎ OnPhase n IsUnfinished t.phase → NoneOn n t.served ⊎ OnPhase n IsUnfinished (flush_of t.phase).after
    still (inl absent) = inl absent
    still (inr u) = inr (flush_unfinished n t.phase u)

    verdict_still : (standing_at n t.calls ≡ None) ⊎ Undecided n turn t → (standing_at n t.calls ≡ None) ⊎ Undecided n turn (record { greeted = true; phase = (flush_of t.phase).after; calls = t.calls; served = t.served })
    verdict_still (inl e) = inl e
    verdict_still (inr u) = inr (u.0, u.1, flush_unfinished n t.phase u.2)

    older : CameOn n t.phase ⊎ Unborn n turn r t → CameOn n (flush_of t.phase).after ⊎ Unborn n turn (flushed n turn r t.phase) (record { greeted = true; phase = (flush_of t.phase).after; calls = t.calls; served = t.served })
    older (inl came) = inl ((flush_stands t.phase).came n came)
    older (inr u) = inr (u.0, still_nothing n turn r t.phase u.0 u.1 h.serves.sound h.serves.there, u.2, u.3)

-- ---- turns, names and tokens

turned_speaks : (n : ℕ) (turn new : Option AnsweringTurn) (r : Replies) (t : Talking) (x : Turned) → Speaks n turn r t → AllAside t.served t.phase x → Serves n new r x.kept x.phase → (NoneOn n t.served → new ≡ turn)
    → Speaks n new r (with_turned t x)
turned_speaks n turn new r t x h aside serves same = record { serves = serves; decided = verdict_still h.decided; age = older h.age }
  where
    verdict_still : (standing_at n t.calls ≡ None) ⊎ Undecided n turn t → (standing_at n t.calls ≡ None) ⊎ Undecided n new (with_turned t x)
    verdict_still (inl e) = inl e
    verdict_still (inr u) = inr (same u.1 ∙ u.0, aside.none n u.1, aside.leaves n u.1 IsUnfinished u.2)

    older : CameOn n t.phase ⊎ Unborn n turn r t → CameOn n x.phase ⊎ Unborn n new r (with_turned t x)
    older (inl came) = inl (aside.stands.came n came)
    older (inr u) = inr (same u.2 ∙ u.0, u.1, aside.none n u.2, u.3)

named_speaks : (n : ℕ) (caller : Option (List (List ℕ))) (turn : Option AnsweringTurn) (r : Replies) (t : Talking) → Speaks n turn r t → Speaks n turn r (with_turned t (name_first caller t.served t.phase))
unfolding name_first
named_speaks n caller turn r t h = turned_speaks n turn turn r t (name_first caller t.served t.phase) h (names_aside caller t.served t.phase) (name_serves caller n turn r t.served t.phase h.serves) (λ absent. refl)

given_speaks : (n : ℕ) (o : JwtOutcome) (turn : Option AnsweringTurn) (r : Replies) (t : Talking) → Speaks n turn r t → Speaks n (turn_after n (OutcomeCame o) t turn) r (with_turned t (give_first o t.served t.phase))
unfolding give_first
given_speaks n o turn r t h =
    turned_speaks n turn (turn_after n (OutcomeCame o) t turn) r t (give_first o t.served t.phase) h (gives_aside o t.served t.phase) (give_serves o n turn r t.served t.phase h.serves) (none_told o n turn t.served)

-- ---- a step

step_goes : (n : ℕ) (step : Step) (turn : Option AnsweringTurn) (r : Replies) (t : Talking) → FitsStep step → Goes n turn r t
    → Goes n (turn_after n step t turn) (replies_after n step t (turn_after n step t turn) r) (step_said step t).after
unfolding frame_said break_said name_said turn_said given_said
step_goes n (FrameCame f) turn r t fits h = written_goes n (frame_result t.phase f).fault turn r (after_frame f t) (after_speaks n f turn r t fits.0 h.speaks) h.written
step_goes n (BytesBroke why) turn r t fits h = written_goes n (frame_fault_on why t.phase) turn r (record t { phase = after_frame_fault why t.phase }) (break_speaks n why turn r t h.speaks) h.written
step_goes n (CallAttested None) turn r t fits h = written_goes n None turn r (with_turned t (name_first None t.served t.phase)) (named_speaks n None turn r t h.speaks) h.written
step_goes n (CallAttested (Some sel)) turn r t fits h =
    let x = with_turned t (name_first (Some sel) t.served t.phase) in
    subst (λ (s : Replies). Goes n turn s x) (sym (quiet_is turn (waiting_on n (name_first (Some sel) t.served t.phase).phase) r)) (record { speaks = named_speaks n (Some sel) turn r t h.speaks; written = h.written })
step_goes n (TurnTaken x) turn r t fits h =
    written_goes n None (answering x (stage_on n t.served) turn) r (with_turned t (calls_turn x t.served t.phase))
    (turned_speaks n turn (answering x (stage_on n t.served) turn) r t (calls_turn x t.served t.phase) h.speaks (calls_aside x t.served t.phase) (turn_serves x n turn r t.served t.phase h.speaks.serves) (none_answered x n turn t.served))
    h.written
step_goes n (OutcomeCame o) turn r t fits h =
    written_goes n None (turn_after n (OutcomeCame o) t turn) r (with_turned t (give_first o t.served t.phase)) (given_speaks n o turn r t h.speaks) h.written

-- ---- all steps

fresh_goes : (n : ℕ) → Goes n None no_replies fresh_talk
fresh_goes n = record {
  speaks = record {
    serves = record { sound = record { same = refl; below = tt; low = tt; rises = tt }; one = tt; fits = tt; unfinished = inl tt; there = tt };
    decided = inl refl;
    age = inr (refl, refl, tt, refl);
  };
  written = nothing_written;
}

pub steps_go : (n : ℕ) (steps : List Step) → AllFit steps → Goes n (turn_on n steps) (replies_on n steps) (talk_after steps)
steps_go n [] fit = fresh_goes n
steps_go n (step ∷ before) fit = step_goes n step (turn_on n before) (replies_on n before) (talk_after before) fit.1 (steps_go n before fit.0)

pub streams_have_answers : StreamsHaveAnswers
streams_have_answers n steps fit = let w = (steps_go n steps fit).written in record { bytes = w.bytes; answers = w.answers; differ = w.differ }
