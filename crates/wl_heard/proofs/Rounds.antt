-- Each frame that a pull writes has a stream of 31 bits and at most 16,384 bytes.
use Rattle.std.proofs.Common.{ℕ, zero, suc, ◌+◌, ◌<◌, ◌≤◌, ◌^◌, ◌==◌, min, nat_lt, Bool, true, false, List, [], ◌∷◌, ◌++◌, length, drop, Option, Some, None, arith, length-append, length-take}
use Rattle.std.specs.List.{AllByRecursion}
use Rattle.wl_heard.proofs.Common.{all_append, Flow, TableSizeUpdate, Stream, allowed_of, Turn, no_turn, size_update_bytes, headers_turn, data_turn, last_turn, next_turn, body_turn, head_turn, turn, Round, round, rounds, all_work, all_rounds, Out, pull_of, at_cond}
use Rattle.h2_flow.specs.declared.flow.TableSizeUpdate.TheVariants.{Unasked, Due, Written}
use Rattle.h2_flow.specs.Windows.{room_of, window_of}
use Rattle.wl_heard.proofs.WholeFrames.{IsShortSent}

-- a block to which a size update of one byte may be put
abbrev pub IsShort : Option (List ℕ) → Type 0
IsShort None = Unit {0}
IsShort (Some block) = length block < 16384

-- the blocks of a stream
abbrev pub HasShortBlocks : Stream → Type 0
HasShortBlocks s = IsShort s.head × IsShort s.trailers

abbrev pub IsSmall : Stream → Type 0
IsSmall s = (s.number < 2 ^ 31) × HasShortBlocks s

-- what a turn writes is short, and the stream stays small
record Wrote (t : Turn) : Type 0 where
  sent : AllByRecursion IsShortSent t.sent
  stream : IsSmall t.stream

silent : (f : Flow) (s : Stream) → IsSmall s → Wrote (no_turn f s)
silent f s h = record { sent = tt; stream = h }

update_short : (u : TableSizeUpdate) → length (size_update_bytes u) ≤ 1
update_short Unasked = omega arith
update_short Due = omega arith
update_short Written = omega arith

w_headers : (f : Flow) (s : Stream) (block : List ℕ) (ended : Bool) → IsSmall s → length block < 16384 → Wrote (headers_turn f s block ended)
unfolding headers_turn
w_headers f s block ended h short =
    let update = update_short f.update in
    record { sent = ((h.0, simp length-append (omega arith)), tt); stream = h }

allowed_short : (c r left : ℕ) → min (min c (min 16384 r)) left ≤ 16384
allowed_short c r left = omega arith

w_data : (f : Flow) (s : Stream) → IsSmall s → Wrote (data_turn f s)
unfolding data_turn
w_data f s h =
    let left = drop s.sent s.last in
    let n = allowed_of f s.credit (length left) in
    let most : n ≤ 16384 = allowed_short f.connection_window (room_of (window_of f.initial_window_size s.credit)) (length left) in
    at_cond Wrote (n == 0) (no_turn f s) _ (silent f s h) (record { sent = ((h.0, simp length-take (omega arith)), tt); stream = h })

w_last : (f : Flow) (s : Stream) (t : Option (List ℕ)) → IsSmall s → IsShort t → Wrote (last_turn f s t)
unfolding last_turn
w_last f s None h short = silent f s h
w_last f s (Some block) h short = w_headers f (record s { trailers = None }) block true (h.0, (h.1.0, tt)) short

w_next : (f : Flow) (s : Stream) (w : Option (List ℕ)) → IsSmall s → Wrote (next_turn f s w)
unfolding next_turn
w_next f s None h = w_last f s s.trailers h h.1.1
w_next f s (Some message) h = at_cond Wrote (allowed_of f s.credit (length message) == 0) (no_turn f s) _ (silent f s h) (w_data (record f { begun = f.begun + 1 }) (record s { last = message; sent = 0; waiting = None }) h)

w_body : (f : Flow) (s : Stream) → IsSmall s → Wrote (body_turn f s)
unfolding body_turn
w_body f s h = at_cond Wrote (nat_lt s.sent (length s.last)) (data_turn f s) (next_turn f s s.waiting) (w_data f s h) (w_next f s s.waiting h)

w_head : (f : Flow) (s : Stream) (b : Option (List ℕ)) → IsSmall s → IsShort b → Wrote (head_turn f s b)
w_head f s None h short = w_body f s h
w_head f s (Some block) h short = w_headers f (record s { head = None }) block false (h.0, (tt, h.1.1)) short

w_turn : (f : Flow) (s : Stream) → IsSmall s → Wrote (turn f s)
unfolding turn
w_turn f s h = w_head f s s.head h h.1.0

-- the same of rounds
record WroteAll (r : Round) : Type 0 where
  sent : AllByRecursion IsShortSent r.sent
  streams : AllByRecursion IsSmall r.streams

w_round : (f : Flow) (ss : List Stream) → AllByRecursion IsSmall ss → WroteAll (round f ss)
unfolding round
w_round f [] h = record { sent = tt; streams = tt }
w_round f (s ∷ ss) h =
    let one = w_turn f s h.0 in
    let t = turn f s in
    let rest = w_round t.flow ss h.1 in
    record { sent = all_append IsShortSent t.sent (round t.flow ss).sent one.sent rest.sent; streams = (one.stream, rest.streams) }

w_rounds : (k : ℕ) (f : Flow) (ss : List Stream) → AllByRecursion IsSmall ss → WroteAll (rounds k f ss)
unfolding rounds
w_rounds zero f ss h = record { sent = tt; streams = h }
w_rounds (suc k) f ss h =
    let r = round f ss in
    let one = w_round f ss h in
    let rest = w_rounds k r.flow r.streams one.streams in
    at_cond WroteAll (length r.sent == 0) r (record { sent = r.sent ++ (rounds k r.flow r.streams).sent; flow = (rounds k r.flow r.streams).flow; streams = (rounds k r.flow r.streams).streams }) one
    (record { sent = all_append IsShortSent r.sent (rounds k r.flow r.streams).sent one.sent rest.sent; streams = rest.streams })

pub pull_sent : (o : Out) → AllByRecursion IsSmall o.streams → AllByRecursion IsShortSent (pull_of o).sent
unfolding pull_of all_rounds
pull_sent o h = (w_rounds (all_work o.streams + 1) o.flow o.streams h).sent

pub pull_streams : (o : Out) → AllByRecursion IsSmall o.streams → AllByRecursion IsSmall (pull_of o).left.streams
unfolding pull_of all_rounds
pull_streams o h = (w_rounds (all_work o.streams + 1) o.flow o.streams h).streams
