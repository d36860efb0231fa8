-- What a frame of the peer leaves of one stream and of its call.
use Rattle.std.proofs.Common.{◌≡◌, ◌⊎◌, inl, inr, ℕ, Bool, true, false, nat_lt, if◌then◌else◌, List, [], ◌∷◌, filter, Option, None}
use Rattle.wl_responses.proofs.Common.{all_filter, Phase, CallEvent, standing_at, Unnamed, ServedCall, with_refusal, Talking, after_event, CameOn, AnsweringTurn, Replies, no_replies, stands_itself, refusal_stands, OnPhase, IsUnfinished}
use Rattle.h2_conn.specs.Conns.{on_open, after_reset}
use Rattle.grpc_conn.specs.declared.event.CallEvent.TheVariants as events
use Rattle.grpc_conn.specs.declared.standing.Call.{Call}
use Rattle.grpc_conn.specs.Calls.{without}
use Rattle.grpc_conn.proofs.Places.{removed_there}
use Rattle.wl_session.specs.Kinds.{kind_of}
use Rattle.wl_session.specs.Talks.{with_served}
use Rattle.wl_session.proofs.Streams.{Stands, reset_stands}
use Rattle.wl_session.proofs.CallWalk.{served_all}
use Rattle.wl_session.proofs.PeerAnswers.{none_without}
use Rattle.wl_responses.proofs.OutboxStreams.{reset_on}
use Rattle.wl_responses.proofs.StreamFlushes.{Matches}
use Rattle.wl_responses.proofs.Asides.{NoneOn, Leaves, refusal_apart}
use Rattle.wl_responses.proofs.WaitingAnswers.{StageFits, OneOn, Serves, none_one, none_fits, refusal_here}

-- ---- what is known of one stream

-- nothing came on it
abbrev pub Unborn : ℕ → Option AnsweringTurn → Replies → Talking → Type 0
Unborn n turn r t = (turn ≡ None) × (r ≡ no_replies) × NoneOn n t.served × (standing_at n t.calls ≡ None)

-- its call waits for its verdict: no turn answered it
abbrev pub Undecided : ℕ → Option AnsweringTurn → Talking → Type 0
Undecided n turn t = (turn ≡ None) × NoneOn n t.served × OnPhase n IsUnfinished t.phase

pub record Speaks (n : ℕ) (turn : Option AnsweringTurn) (r : Replies) (t : Talking) : Type 0 where
  pub serves : Serves n turn r t.served t.phase
  pub decided : (standing_at n t.calls ≡ None) ⊎ Undecided n turn t
  pub age : CameOn n t.phase ⊎ Unborn n turn r t

-- ---- lists of ready calls

-- one more, on a stream that has none
served_one : (n : ℕ) (c : ServedCall) (cs : List ServedCall) → NoneOn n cs → OneOn n (with_served c cs)
served_one n c [] none = ((λ e. tt), tt)
served_one n c (d ∷ ds) none = go (nat_lt c.stream d.stream) (served_one n c ds none.1)
  where
    go : (b : Bool) → OneOn n (with_served c ds) → OneOn n (if b then c ∷ d ∷ ds else d ∷ with_served c ds)
    go true rest = ((λ e. none), none_one n (d ∷ ds) none)
    go false rest = ((λ e. absurd (none.0 e)), rest)

-- one more, on another stream
served_other : (n : ℕ) (c : ServedCall) (cs : List ServedCall) → (c.stream ≡ n → ⊥) → OneOn n cs → OneOn n (with_served c cs)
served_other n c [] other one = ((λ e. tt), tt)
served_other n c (d ∷ ds) other one = go (nat_lt c.stream d.stream) (served_other n c ds other one.1)
  where
    go : (b : Bool) → OneOn n (with_served c ds) → OneOn n (if b then c ∷ d ∷ ds else d ∷ with_served c ds)
    go true rest = ((λ e. absurd (other e)), one)
    go false rest = ((λ e. served_all (λ x. x.stream ≡ n → ⊥) c ds other (one.0 e)), rest)

pub one_filter : (n : ℕ) (test : ServedCall → Bool) (cs : List ServedCall) → OneOn n cs → OneOn n (filter test cs)
one_filter n test [] one = tt
one_filter n test (c ∷ cs) one = go (test c) (one_filter n test cs one.1)
  where
    go : (b : Bool) → OneOn n (filter test cs) → OneOn n (if b then c ∷ filter test cs else filter test cs)
    go true rest = ((λ e. all_filter (λ (x : ServedCall). x.stream ≡ n → ⊥) test cs (one.0 e)), rest)
    go false rest = rest

pub none_filter : (n : ℕ) (test : ServedCall → Bool) (cs : List ServedCall) → NoneOn n cs → NoneOn n (filter test cs)
none_filter n test cs none = all_filter (λ (x : ServedCall). x.stream ≡ n → ⊥) test cs none

-- ---- an event

-- nothing is done on the stream
pub moved : (n : ℕ) (turn : Option AnsweringTurn) (r : Replies) (t : Talking) (q : Phase) (calls : List Call) → Stands t.phase q → Leaves n t.phase q → (standing_at n t.calls ≡ None → standing_at n calls ≡ None) → Speaks n turn r t
    → Speaks n turn r (record t { phase = q; calls = calls })
moved n turn r t q calls stands leaves none h = record {
  serves = record { sound = stands.sound h.serves.sound; one = h.serves.one; fits = h.serves.fits; unfinished = still h.serves.unfinished; there = leaves (Matches turn r) h.serves.there };
  decided = verdict_still h.decided;
  age = old h.age;
}
  where
    still : NoneOn n t.served ⊎ OnPhase n IsUnfinished t.phase → NoneOn n t.served ⊎ OnPhase n IsUnfinished q
    still (inl absent) = inl absent
    still (inr u) = inr (leaves IsUnfinished u)

    verdict_still : (standing_at n t.calls ≡ None) ⊎ Undecided n turn t → (standing_at n calls ≡ None) ⊎ Undecided n turn (record t { phase = q; calls = calls })
    verdict_still (inl e) = inl (none e)
    verdict_still (inr u) = inr (u.0, u.1, leaves IsUnfinished u.2)

    old : CameOn n t.phase ⊎ Unborn n turn r t → CameOn n q ⊎ Unborn n turn r (record t { phase = q; calls = calls })
    old (inl came) = inl (stands.came n came)
    old (inr u) = inr (u.0, u.1, u.2, none u.3)

-- one more ready call, on another stream
more_served : (n : ℕ) (turn : Option AnsweringTurn) (r : Replies) (t : Talking) (c : ServedCall) → (c.stream ≡ n → ⊥) → Speaks n turn r t → Speaks n turn r (record t { served = with_served c t.served })
more_served n turn r t c other h = record {
  serves = record {
    sound = h.serves.sound;
    one = served_other n c t.served other h.serves.one;
    fits = served_all (λ x. x.stream ≡ n → StageFits turn x.stage) c t.served (λ e. absurd (other e)) h.serves.fits;
    unfinished = still h.serves.unfinished;
    there = h.serves.there;
  };
  decided = verdict_still h.decided;
  age = old h.age;
}
  where
    more : NoneOn n t.served → NoneOn n (with_served c t.served)
    more absent = served_all (λ x. x.stream ≡ n → ⊥) c t.served other absent

    still : NoneOn n t.served ⊎ OnPhase n IsUnfinished t.phase → NoneOn n (with_served c t.served) ⊎ OnPhase n IsUnfinished t.phase
    still (inl absent) = inl (more absent)
    still (inr u) = inr u

    verdict_still : (standing_at n t.calls ≡ None) ⊎ Undecided n turn t → (standing_at n t.calls ≡ None) ⊎ Undecided n turn (record t { served = with_served c t.served })
    verdict_still (inl e) = inl e
    verdict_still (inr u) = inr (u.0, more u.1, u.2)

    old : CameOn n t.phase ⊎ Unborn n turn r t → CameOn n t.phase ⊎ Unborn n turn r (record t { served = with_served c t.served })
    old (inl came) = inl came
    old (inr u) = inr (u.0, u.1, more u.2, u.3)

pub event_other : (n k : ℕ) (event : CallEvent) (turn : Option AnsweringTurn) (r : Replies) (t : Talking) → (k ≡ n → ⊥) → Speaks n turn r t → Speaks n turn r (after_event k event t)
unfolding after_event
event_other n k events.Nothing turn r t other h = h
event_other n k events.Malformed turn r t other h = moved n turn r t (on_open (after_reset k 1) t.phase) (without k t.calls) (reset_stands k 1 t.phase) (λ P s. reset_on n k 1 P t.phase s) (none_without n k t.calls) h
event_other n k (events.Refuse why) turn r t other h = moved n turn r t (with_refusal k false why t.phase) (without k t.calls) (refusal_stands k false why t.phase) (refusal_apart k false why t.phase n other) (none_without n k t.calls) h
event_other n k (events.Ready method message request) turn r t other h =
    more_served n turn r (record t { calls = without k t.calls }) (record { stream = k; stage = Unnamed (kind_of method request) }) other
    (moved n turn r t t.phase (without k t.calls) (stands_itself t.phase) (λ P s. s) (none_without n k t.calls) h)

-- on a call that waits for its verdict
pub event_own : (n : ℕ) (event : CallEvent) (turn : Option AnsweringTurn) (r : Replies) (t : Talking) → Undecided n turn t → CameOn n t.phase → Serves n turn r t.served t.phase → Speaks n turn r (after_event n event t)
unfolding after_event
event_own n events.Nothing turn r t u came h = record { serves = h; decided = inr u; age = inl came }
event_own n events.Malformed turn r t u came h = record {
  serves = record { sound = (reset_stands n 1 t.phase).sound h.sound; one = h.one; fits = h.fits; unfinished = inl u.1; there = reset_on n n 1 (Matches turn r) t.phase h.there };
  decided = inl (removed_there n t.calls);
  age = inl ((reset_stands n 1 t.phase).came n came);
}
event_own n (events.Refuse why) turn r t u came h = record {
  serves = record { sound = (refusal_stands n false why t.phase).sound h.sound; one = h.one; fits = h.fits; unfinished = inl u.1; there = refusal_here n false why turn turn r t.phase h.sound u.2 h.there };
  decided = inl (removed_there n t.calls);
  age = inl ((refusal_stands n false why t.phase).came n came);
}
event_own n (events.Ready method message request) turn r t u came h =
    let call : ServedCall = record { stream = n; stage = Unnamed (kind_of method request) } in
    record {
      serves = record {
        sound = h.sound;
        one = served_one n call t.served u.1;
        fits = served_all (λ x. x.stream ≡ n → StageFits turn x.stage) call t.served (λ e. u.0) (none_fits n turn t.served u.1);
        unfinished = inr u.2;
        there = h.there;
      };
      decided = inl (removed_there n t.calls);
      age = inl came;
    }
