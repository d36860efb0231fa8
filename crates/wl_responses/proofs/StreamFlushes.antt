-- What a flush writes on a stream is of the responses that began there.
use Rattle.std.proofs.Common.{◌≡◌, inl, inr, ℕ, ◌-◌, bytes_eq, Bool, true, false, cond, List, [], ◌++◌, length, drop, Option, Some, None, refl, sym, ap, subst, ◌∙◌, arith, append-nil, append_assoc, length-append}
use Rattle.std.specs.Cmp.Lexicographic.{bytes_decides}
use Rattle.std.specs.List.{AllByRecursion}
use Rattle.std.proofs.Math.Seq.{drop-append_seam}
use Rattle.h2_flow.specs.declared.stream.Stream.{Stream}
use Rattle.wl_responses.proofs.Common.{pull_of, with_offer, find_stream, Phase, Open, Failed, OutOfMemory, flush_of, SoundPhase, frames_due, AnsweringTurn, Replies, no_replies, replies_with, IsMessageOf, OnPhase, IsUnfinished}
use Rattle.h2_flow.specs.Progress.{all_data_on, left_of}
use Rattle.h2_flow.proofs.Messages.{Stays, Begins, GoesOn, goes_pull}
use Rattle.h2_flow.proofs.Numbers.{numbers_pulled}
use Rattle.h2_flow.proofs.Progress.{more, not_more}
use Rattle.h2_conn.specs.Conns.{ends_reset_count, after_pull}
use Rattle.wl_responses.specs.Replies.{waits_in, waiting_on}
use Rattle.wl_responses.specs.Responses.{IsAnswer, all_bytes, last_bytes, AllDiffer}
use Rattle.wl_responses.proofs.OutboxStreams.{IfFound, differ, found, all_found, unfinished_pull, answers_on}

-- ---- what is known of a stream

-- the message that waits is an answer, and another than the one that began last
abbrev pub IfWaits : Option AnsweringTurn → List ℕ → Option (List ℕ) → Type 0
IfWaits turn last None = Unit {0}
IfWaits turn last (Some m) = IsMessageOf turn m × (m ≡ last → ⊥)

abbrev pub Matches : Option AnsweringTurn → Replies → Stream → Type 0
Matches turn r s = (r.left ≡ left_of s) × (last_bytes r.begun ≡ s.last) × IfWaits turn s.last s.waiting

-- what is known of the replies
pub record Written (r : Replies) : Type 0 where
  pub bytes : r.written ++ r.left ≡ all_bytes r.begun
  pub answers : AllByRecursion IsAnswer r.begun
  pub differ : AllDiffer r.begun

pub nothing_written : Written no_replies
nothing_written = record { bytes = refl; answers = tt; differ = tt }

-- a message is offered
pub offered : (old new : Option AnsweringTurn) (r : Replies) (m : List ℕ) → IsMessageOf new m → (s : Stream) → Matches old r s → Matches new r (with_offer m s)
offered old new r m is s h = (h.0, h.1, go (bytes_eq m s.last) refl)
  where
    go : (b : Bool) → bytes_eq m s.last ≡ b → IfWaits new s.last (cond b None (Some m))
    go true same = tt
    go false other = (is, λ e. differ ((bytes_decides m s.last).1 e) other)

pub silenced : (old new : Option AnsweringTurn) (r : Replies) (s : Stream) → Matches old r s → Matches new r (record s { waiting = None })
silenced old new r s h = (h.0, h.1, tt)

-- ---- a pull

-- the replies after a pull, and what the stream is then
record After (turn : Option AnsweringTurn) (r : Replies) (b : Option Stream) : Type 0 where
  written : Written r
  there : IfFound (Matches turn r) b

quiet_go : (turn : Option AnsweringTurn) (w : Option (List ℕ)) (r : Replies) → Written r → Written (replies_with [] turn w r)
unfolding replies_with
quiet_go turn w r k =
    rw (not_more r.left [] r.left refl)
    (record { bytes = ap (λ (xs : List ℕ). xs ++ r.left) (append-nil r.written) ∙ k.bytes; answers = k.answers; differ = k.differ })

pub quiet_is : (turn : Option AnsweringTurn) (w : Option (List ℕ)) (r : Replies) → replies_with [] turn w r ≡ r
unfolding replies_with
quiet_is turn w r = rw (not_more r.left [] r.left refl) (ap (λ (xs : List ℕ). record r { written = xs }) (append-nil r.written))

pub quiet : (d : List ℕ) (turn : Option AnsweringTurn) (w : Option (List ℕ)) (r : Replies) → d ≡ [] → Written r → Written (replies_with d turn w r)
quiet d turn w r e k = subst (λ (xs : List ℕ). Written (replies_with xs turn w r)) (sym e) (quiet_go turn w r k)

stays_go : (d : List ℕ) (turn : Option AnsweringTurn) (r : Replies) (s t : Stream) → Stays d s t → Matches turn r s → Written r → After turn (replies_with d turn s.waiting r) (Some t)
unfolding replies_with
stays_go d turn r s t h m k =
    let whole : d ++ left_of t ≡ r.left = h.left ∙ sym m.0 in
    let rest : drop (length d) r.left ≡ left_of t = ap (drop (length d)) (sym whole) ∙ drop-append_seam d (left_of t) in
    rw (not_more r.left d (left_of t) whole) (record {
      written = record {
        bytes = append_assoc r.written d (drop (length d) r.left) ∙ (ap (λ (xs : List ℕ). r.written ++ xs) (ap (λ (xs : List ℕ). d ++ xs) rest ∙ whole) ∙ k.bytes);
        answers = k.answers;
        differ = k.differ;
      };
      there = (rest, m.1 ∙ sym h.last, rw (h.last, h.waiting) m.2);
    })

begins_go : (d : List ℕ) (turn : Option AnsweringTurn) (r : Replies) (s t : Stream) → Begins d s t → Matches turn r s → Written r → After turn (replies_with d turn s.waiting r) (Some t)
unfolding replies_with
begins_go d turn r s t h m k =
    let due : d ≡ r.left ++ h.bytes = h.all ∙ ap (λ (xs : List ℕ). xs ++ h.bytes) (sym m.0) in
    let count : length d - length r.left ≡ length h.bytes = omega (arith, ap length due, length-append r.left h.bytes) in
    let rest : drop (length d - length r.left) h.message ≡ left_of t = rw count (ap (drop (length h.bytes)) (sym h.left) ∙ drop-append_seam h.bytes (left_of t)) in
    let waits : IfWaits turn s.last (Some h.message) = subst (IfWaits turn s.last) h.waited m.2 in
    rw (more r.left h.bytes d h.some due, h.waited) (record {
      written = record {
        bytes =
            ap (λ (xs : List ℕ). (r.written ++ d) ++ xs) rest
            ∙ (ap (λ (xs : List ℕ). (r.written ++ xs) ++ left_of t) due
            ∙ (ap (λ (xs : List ℕ). xs ++ left_of t) (sym (append_assoc r.written r.left h.bytes))
            ∙ (append_assoc (r.written ++ r.left) h.bytes (left_of t)
            ∙ (ap (λ (xs : List ℕ). (r.written ++ r.left) ++ xs) h.left
            ∙ ap (λ (xs : List ℕ). xs ++ h.message) k.bytes))));
        answers = (waits.0, k.answers);
        differ = ((λ e. waits.1 (e ∙ m.1)), k.differ);
      };
      there = (rest, sym h.last, rw h.waiting tt);
    })

goes : (d : List ℕ) (turn : Option AnsweringTurn) (r : Replies) (a b : Option Stream) → GoesOn d a b → IfFound (Matches turn r) a → Written r → After turn (replies_with d turn (waits_in a) r) b
goes d turn r None None h m k = record { written = quiet d turn None r h k; there = tt }
goes d turn r None (Some t) h m k = absurd h
goes d turn r (Some s) None h m k = absurd h
goes d turn r (Some s) (Some t) (inl h) m k = stays_go d turn r s t h m k
goes d turn r (Some s) (Some t) (inr h) m k = begins_go d turn r s t h m k

-- ---- a flush

-- the replies after a flush, and what the stream is then
pub record Flushed (n : ℕ) (turn : Option AnsweringTurn) (r : Replies) (p : Phase) : Type 0 where
  pub written : Written r
  pub there : OnPhase n (Matches turn r) p

pub flush_goes : (n : ℕ) (turn : Option AnsweringTurn) (r : Replies) (p : Phase) → SoundPhase p → OnPhase n (Matches turn r) p → Written r
    → Flushed n turn (replies_with (all_data_on n (frames_due p)) turn (waiting_on n p) r) (flush_of p).after
unfolding flush_of after_pull
flush_goes n turn r (Open q) sound m k =
    let x = pull_of q.outbox in
    let d = all_data_on n x.sent in
    let a = find_stream n q.outbox.streams in
    let new = replies_with d turn (waits_in a) r in
    let done = goes d turn r a (find_stream n x.left.streams) (goes_pull n q.outbox sound.rises) (found n (Matches turn r) q.outbox.streams m) k in
    record {
      written = done.written;
      there =
          answers_on n x.ended (Matches turn new) (record q { outbox = x.left; rapid_reset_count = cond (ends_reset_count q x) 0 q.rapid_reset_count })
          (all_found 0 n (Matches turn new) x.left.streams (rw (numbers_pulled q.outbox) sound.rises) done.there);
    }
flush_goes n turn r (Failed fault left totals) sound m k = record { written = quiet [] turn None r refl k; there = tt }
flush_goes n turn r (OutOfMemory totals) sound m k = record { written = quiet [] turn None r refl k; there = tt }

pub flush_unfinished : (n : ℕ) (p : Phase) → OnPhase n IsUnfinished p → OnPhase n IsUnfinished (flush_of p).after
unfolding flush_of after_pull
flush_unfinished n (Open q) h =
    let x = pull_of q.outbox in
    answers_on n x.ended IsUnfinished (record q { outbox = x.left; rapid_reset_count = cond (ends_reset_count q x) 0 q.rapid_reset_count }) (unfinished_pull n q.outbox h)
flush_unfinished n (Failed fault left totals) h = tt
flush_unfinished n (OutOfMemory totals) h = tt
