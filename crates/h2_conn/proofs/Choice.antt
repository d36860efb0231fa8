-- The table is the rows of each kind, after those of all kinds.
use Rattle.std.proofs.Common.{◌≡◌, ℕ, ◌∙◌, true, false, List, Option, Some, None, Result, Ok, Err, refl, ap}
use Rattle.h2_conn.proofs.Common.{Header, HpackFault, Standing, Body, Bytes, Headers, Priority, Reset, Settings, SettingsAck, PushPromise, Ping, GoAway, WindowUpdate, Continuation, Unknown, Frame, Happening, State, Outcome, fault, nothing, or_else, peer, BlockFragment, first_fragment, next_fragment, grows, decoding, with_decoder, closed_stream_row, ended_stream_row, guard_rows, kind_rows, header_list_rows, fragment_rows}
use Rattle.h2_conn.specs.declared.fault.ConnCause.TheVariants as cause
use Rattle.h2_conn.specs.declared.fault.ConnError.{ConnError}
use Rattle.h2_conn.specs.declared.fault.ConnError.TheVariants as refusal
use Rattle.h2_conn.specs.Peer.{first_row, table, even_stream, continuation_flood, if_fragment, too_long, is_wrong, if_wrong, if_right, with_headers, new_head_row, trailers_row}
use Rattle.h2_conn.specs.Kinds.{Steps, Guards}

-- the rows of a whole block, in the order in which a decoding decides
abbrev whole_chain : State → BlockFragment → Result (List Header) HpackFault → Standing → Outcome
whole_chain q g r d =
    or_else (if_wrong r (λ f. fault g.state (cause.Hpack f)))
    (or_else (if_right r (new_head_row (with_decoder d g.state) g.block))
    (or_else (if_right r (closed_stream_row (with_decoder d g.state) g.block))
    (or_else (if_right r (ended_stream_row (with_decoder d g.state) g.block))
    (or_else (if_right r (trailers_row (with_decoder d g.state) g.block)) (nothing q)))))

whole_is : (q : State) (g : BlockFragment) (r : Result (List Header) HpackFault) (d : Standing) → whole_chain q g r d ≡ header_list_rows g r d
whole_is q g (Err f) d = refl
whole_is q g (Ok headers) d = refl

abbrev block_chain : State → Option BlockFragment → Outcome
block_chain q h =
    or_else (if_fragment h too_long) (or_else (if_fragment h grows) (or_else (if_fragment h is_wrong)
    (or_else (if_fragment h (with_headers new_head_row)) (or_else (if_fragment h (with_headers closed_stream_row))
    (or_else (if_fragment h (with_headers ended_stream_row)) (or_else (if_fragment h (with_headers trailers_row)) (nothing q)))))))

chain_is : (q : State) (h : Option BlockFragment) → block_chain q h ≡ fragment_rows q h
chain_is q None = refl
chain_is q (Some g) = ap (λ (o : Outcome). or_else (too_long g) (or_else (grows g) o)) (whole_is q g (decoding g).0 (decoding g).1)

pub by_kind : (q : State) (n : ℕ) (body : Body) → first_row table q n body ≡ guard_rows q n body (kind_rows q n body)
by_kind q n (Bytes bytes size ended) = refl
by_kind q n (Headers bytes ended whole) = ap (λ (o : Outcome). guard_rows q n (Headers bytes ended whole) (or_else (even_stream q n (Headers bytes ended whole)) o)) (chain_is q (Some (first_fragment q n bytes ended whole)))
by_kind q n Priority = refl
by_kind q n (Reset code) = refl
by_kind q n (Settings pairs) = refl
by_kind q n SettingsAck = refl
by_kind q n PushPromise = refl
by_kind q n (Ping true word) = refl
by_kind q n (Ping false word) = refl
by_kind q n (GoAway last code) = refl
by_kind q n (WindowUpdate step) = refl
by_kind q n (Continuation bytes whole) = ap (λ (o : Outcome). guard_rows q n (Continuation bytes whole) (or_else (continuation_flood q n (Continuation bytes whole)) o)) (chain_is q (next_fragment q q.open_block bytes whole))
by_kind q n (Unknown kind) = refl

pub peer_is : (q : State) (f : Frame) → peer q f ≡ guard_rows q f.stream f.body (kind_rows q f.stream f.body)
unfolding peer
peer_is q f = by_kind q f.stream f.body

pub guard_stops : (q : State) (f : Frame) (error : ConnError) → Guards (Err error) q f.stream f.body → Steps (peer q f) (Err error) q
guard_stops q f (refusal.Fault fault) g = peer_is q f ∙ g _
guard_stops q f refusal.Memory g = tt

pub guard_passes : (q : State) (f : Frame) (result : Result (Option Happening) ConnError) (new : State) → Guards (Ok tt) q f.stream f.body → Steps (kind_rows q f.stream f.body) result new → Steps (peer q f) result new
guard_passes q f result new g s = rw (peer_is q f, g (kind_rows q f.stream f.body)) s
