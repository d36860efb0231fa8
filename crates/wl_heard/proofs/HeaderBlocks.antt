-- The header blocks of each stream: its head is Response-Headers, and its last block one that may be.
use Rattle.std.proofs.Common.{◌≡◌, ℕ, zero, suc, ◌+◌, ◌==◌, nat_lt, Bool, true, false, cond, List, [], ◌∷◌, ◌++◌, length, drop, Option, Some, None, refl, sym, ap, subst}
use Rattle.std.specs.List.{AllByRecursion}
use Rattle.wl_heard.proofs.Common.{all_append, block_bytes, Flow, TableSizeUpdate, Stream, allowed_of, Sent, headers, Turn, no_turn, size_update_bytes, headers_turn, data_turn, last_turn, next_turn, body_turn, head_turn, turn, Round, round, rounds, all_work, all_rounds, Out, pull_of, Phase, Open, Failed, OutOfMemory, ends_reset_count, after_pull, flush_of, at_cond, response_fields, frames_due}
use Rattle.h2_flow.specs.Streams.{content}
use Rattle.wl_responses.specs.Statuses.{On, OnPhase}
use Rattle.wl_responses.proofs.OutboxStreams.{answers_on}

-- ---- what is known of a stream

abbrev pub HeadFits : Option (List ℕ) → Type 0
HeadFits None = Unit {0}
HeadFits (Some block) = block ≡ block_bytes response_fields

abbrev pub LastFits : (List ℕ → Type 0) → Option (List ℕ) → Type 0
LastFits R None = Unit {0}
LastFits R (Some block) = R block

abbrev pub HasHead : Stream → Type 0
HasHead s = HeadFits s.head

-- one that was not given its last block has none
abbrev pub IsClear : Stream → Type 0
IsClear s = s.finished ≡ false → s.trailers ≡ None

abbrev pub HasLast : (List ℕ → Type 0) → Stream → Type 0
HasLast R s = LastFits R s.trailers

abbrev pub HasBlocks : (List ℕ → Type 0) → Stream → Type 0
HasBlocks R s = HasHead s × IsClear s × HasLast R s

-- ---- what is written

-- a block in a frame, with a size update in front of it or not
abbrev pub IsBlockOf : (List ℕ → Type 0) → Bool → List ℕ → Type 0
IsBlockOf R false bytes = (u : TableSizeUpdate) × (bytes ≡ size_update_bytes u ++ block_bytes response_fields)
IsBlockOf R true bytes = (u : TableSizeUpdate) × (block : List ℕ) × R block × (bytes ≡ size_update_bytes u ++ block)

abbrev pub SentFits : ℕ → (List ℕ → Type 0) → Sent → Type 0
SentFits n R (headers k block ended) = k ≡ n → IsBlockOf R ended block
SentFits n R (content k bytes) = Unit {0}

module _ (n : ℕ) (R : List ℕ → Type 0) where
  abbrev Own : Stream → Type 0
  Own s = s.number ≡ n → HasBlocks R s

  record Wrote (t : Turn) : Type 0 where
    sent : AllByRecursion (SentFits n R) t.sent
    stream : Own t.stream

  silent : (f : Flow) (s : Stream) → Own s → Wrote (no_turn f s)
  silent f s h = record { sent = tt; stream = h }

  data_wrote : (f : Flow) (s : Stream) → Own s → Wrote (data_turn f s)
  unfolding data_turn
  data_wrote f s h = at_cond Wrote (allowed_of f s.credit (length (drop s.sent s.last)) == 0) (no_turn f s) _ (silent f s h) (record { sent = (tt, tt); stream = h })

  last_wrote : (f : Flow) (s : Stream) (o : Option (List ℕ)) → o ≡ s.trailers → Own s → Wrote (last_turn f s o)
  unfolding last_turn headers_turn
  last_wrote f s None is h = silent f s h
  last_wrote f s (Some block) is h = record {
    sent = ((λ e. (f.update, block, subst (LastFits R) (sym is) (h e).2, refl)), tt);
    stream = λ e. ((h e).0, (λ goes_on. refl), tt);
  }

  next_wrote : (f : Flow) (s : Stream) (w : Option (List ℕ)) → Own s → Wrote (next_turn f s w)
  unfolding next_turn
  next_wrote f s None h = last_wrote f s s.trailers refl h
  next_wrote f s (Some message) h =
      at_cond Wrote (allowed_of f s.credit (length message) == 0) (no_turn f s) _ (silent f s h)
      (data_wrote (record f { begun = f.begun + 1 }) (record s { last = message; sent = 0; waiting = None }) h)

  body_wrote : (f : Flow) (s : Stream) → Own s → Wrote (body_turn f s)
  unfolding body_turn
  body_wrote f s h = at_cond Wrote (nat_lt s.sent (length s.last)) (data_turn f s) (next_turn f s s.waiting) (data_wrote f s h) (next_wrote f s s.waiting h)

  head_wrote : (f : Flow) (s : Stream) (o : Option (List ℕ)) → o ≡ s.head → Own s → Wrote (head_turn f s o)
  unfolding headers_turn
  head_wrote f s None is h = body_wrote f s h
  head_wrote f s (Some block) is h =
      let due : s.number ≡ n → HeadFits (Some block) = λ e. subst HeadFits (sym is) (h e).0 in
      record {
        sent = ((λ e. (f.update, ap (λ (b : List ℕ). size_update_bytes f.update ++ b) (due e))), tt);
        stream = λ e. (tt, (h e).1, (h e).2);
      }

  turn_wrote : (f : Flow) (s : Stream) → Own s → Wrote (turn f s)
  unfolding turn
  turn_wrote f s h = head_wrote f s s.head refl h

  record WroteAll (r : Round) : Type 0 where
    sent : AllByRecursion (SentFits n R) r.sent
    streams : On n (HasBlocks R) r.streams

  round_wrote : (f : Flow) (ss : List Stream) → On n (HasBlocks R) ss → WroteAll (round f ss)
  unfolding round
  round_wrote f [] h = record { sent = tt; streams = tt }
  round_wrote f (s ∷ ss) h =
      let t = turn f s in
      let one = turn_wrote f s h.0 in
      let rest = round_wrote t.flow ss h.1 in
      record { sent = all_append (SentFits n R) t.sent (round t.flow ss).sent one.sent rest.sent; streams = (one.stream, rest.streams) }

  rounds_wrote : (k : ℕ) (f : Flow) (ss : List Stream) → On n (HasBlocks R) ss → WroteAll (rounds k f ss)
  unfolding rounds
  rounds_wrote zero f ss h = record { sent = tt; streams = h }
  rounds_wrote (suc k) f ss h =
      let r = round f ss in
      let one = round_wrote f ss h in
      let rest = rounds_wrote k r.flow r.streams one.streams in
      let more = rounds k r.flow r.streams in
      at_cond WroteAll (length r.sent == 0) r (record { sent = r.sent ++ more.sent; flow = more.flow; streams = more.streams }) one
      (record { sent = all_append (SentFits n R) r.sent more.sent one.sent rest.sent; streams = rest.streams })

  pull_blocks : (o : Out) → On n (HasBlocks R) o.streams → On n (HasBlocks R) (pull_of o).left.streams
  unfolding pull_of all_rounds
  pull_blocks o h = (rounds_wrote (all_work o.streams + 1) o.flow o.streams h).streams

  pull_writes : (o : Out) → On n (HasBlocks R) o.streams → AllByRecursion (SentFits n R) (pull_of o).sent
  unfolding pull_of all_rounds
  pull_writes o h = (rounds_wrote (all_work o.streams + 1) o.flow o.streams h).sent

  -- ---- a flush

  pub flush_blocks : (p : Phase) → OnPhase n (HasBlocks R) p → OnPhase n (HasBlocks R) (flush_of p).after
  unfolding flush_of after_pull
  flush_blocks (Open q) h =
      let x = pull_of q.outbox in
      answers_on n x.ended (HasBlocks R) (record q { outbox = x.left; rapid_reset_count = cond (ends_reset_count q x) 0 q.rapid_reset_count }) (pull_blocks q.outbox h)
  flush_blocks (Failed fault left totals) h = tt
  flush_blocks (OutOfMemory totals) h = tt

  pub due_fits : (p : Phase) → OnPhase n (HasBlocks R) p → AllByRecursion (SentFits n R) (frames_due p)
  due_fits (Open q) h = pull_writes q.outbox h
  due_fits (Failed fault left totals) h = tt
  due_fits (OutOfMemory totals) h = tt
