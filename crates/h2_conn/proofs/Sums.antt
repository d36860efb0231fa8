-- The flood counts are sums over what came and was written.
use Rattle.std.proofs.Common.{◌≡◌, ℕ, ◌+◌, ◌==◌, ◌%◌, ◌∙◌, Bool, true, false, not, cond, ◌&&◌, ◌||◌, nat_lt, List, [], ◌∷◌, ◌++◌, length, count_by, Option, Some, None, Result, Ok, Err, refl, sym, ap, arith, zero-add}
use Rattle.std.specs.List.{take_while}
use Rattle.std.proofs.lemmas.List.Sums.{sum_by-cons, take_while-cons}
use Rattle.h2_conn.proofs.Common.{Header, HpackFault, Standing, Body, Bytes, Headers, Priority, Reset, Settings, SettingsAck, PushPromise, Ping, GoAway, WindowUpdate, Continuation, Unknown, Frame, Setting, Overflow, Out, pull_of, has_size_update, with_size_update, set_initial_window, with_step, with_head, with_message, without_waiting, with_trailers, ConnFault, Happening, State, OpenBlock, is_live, is_remote_closed, is_local_closed, with_remote_closed, with_local_closed, Outcome, goes, fails, fault, nothing, with_control_frame, without_live_stream, stream_error, request_ends, with_window, is_idle, has_come, is_frame_size, after_table_size, set_one, after_setting, set_all, set_frame, BlockFragment, first_fragment, next_fragment, grows, decoding, with_decoder, closed_stream_row, ended_stream_row, or_else, peer, guard_rows, header_list_rows, fragment_rows, kind_rows, settings_rows, window_rows, takes, with_head_on, with_trailers_on, with_message_on, without_waiting_on, after_reset, answer_ends, answers_end, ends_reset_count, after_pull}
use Rattle.h2_headers.specs.Heads.{are_good_trailers}
use Rattle.h2_flow.specs.Outboxes.{PullResult, is_written}
use Rattle.h2_conn.specs.declared.fault.ConnCause.TheVariants as cause
use Rattle.h2_conn.specs.declared.happening.Happening.TheVariants as happening
use Rattle.h2_conn.specs.Peer.{with_window_update, is_settings, is_continuation, interrupts, is_none, is_misplaced, continuations_of, is_empty_data, is_rapid, reset_frame, data_on, with_data_count, with_new_stream, after_trailers, when}
use Rattle.h2_conn.specs.Kinds.{headers_rows, block_rows, data_rows, reset_rows, ping_rows, head_rows, continuation_rows}
use Rattle.h2_conn.specs.Counts.{Step, Came, Wrote, Head, Finish, Offer, Withdraw, Refuse, is_early, Leads, Reaches, is_data, is_head, is_empty, is_arrival, is_early_reset, ends_resets, restarts, since, ContinuationsAre, HasCounts}
use Rattle.h2_conn.proofs.Choice.{peer_is}
use Rattle.h2_conn.proofs.Walk.{at_cond}

-- ---- states with these counts

abbrev Counts : ℕ → ℕ → ℕ → ℕ → State → Type 0
Counts s e r p q = (q.settings_count ≡ s) × (q.empty_data_count ≡ e) × (q.rapid_reset_count ≡ r) × ContinuationsAre p q.open_block

c_closed : (s e r p n : ℕ) (q : State) → Counts s e r p q → Counts s e r p (without_live_stream n q)
unfolding without_live_stream
c_closed s e r p n q c = c

c_request : (s e r p n : ℕ) (q : State) → Counts s e r p q → Counts s e r p (request_ends n q)
unfolding request_ends
c_request s e r p n q c = at_cond (λ (x : State). Counts s e r p x) (is_local_closed n q.streams) (without_live_stream n q) (record q { streams = with_remote_closed n q.streams }) (c_closed s e r p n q c) c

c_given : (s e r p n size : ℕ) (q : State) → Counts s e r p q → Counts s e r p (with_window_update n size q)
unfolding with_window_update
c_given s e r p n size q c = at_cond (λ (x : State). Counts s e r p x) (size == 0) q (with_control_frame n (WindowUpdate size) q) c c

c_noted : (s e r p value : ℕ) (q : State) → Counts s e r p q → Counts s e r p (after_table_size value q)
unfolding after_table_size
c_noted s e r p value q c = at_cond (λ (x : State). Counts s e r p x) (nat_lt value 4096 && not (has_size_update q.outbox)) (record q { outbox = with_size_update q.outbox }) q c c

-- ---- outcomes with these counts

data Keeps (s e r p : ℕ) : Outcome → Type 0 where
  kept : (q : State) (told : Option Happening) → Counts s e r p q → Keeps s e r p (goes q told)
  fell : (control : List ℕ) (f : ConnFault) → Keeps s e r p (fails control f)

k_or : (s e r p : ℕ) (b : Bool) (o rest : Outcome) → Keeps s e r p o → Keeps s e r p rest → Keeps s e r p (or_else (when b o) rest)
k_or s e r p true o rest x y = x
k_or s e r p false o rest x y = y

k_if : (s e r p : ℕ) (b : Bool) (o rest : Outcome) → Keeps s e r p o → Keeps s e r p rest → Keeps s e r p (cond b o rest)
k_if s e r p true o rest x y = x
k_if s e r p false o rest x y = y

k_window : (s e r p : ℕ) (q : State) (w : Result Out Overflow) (over : Outcome) → Counts s e r p q → Keeps s e r p over → Keeps s e r p (with_window q w over)
k_window s e r p q (Err error) over c k = k
k_window s e r p q (Ok o) over c k = kept (record q { outbox = o }) None c

k_reset : (s e r p : ℕ) (q : State) (n code : ℕ) → Counts s e r p q → Keeps s e r p (stream_error q n code)
unfolding stream_error
k_reset s e r p q n code c =
    k_if s e r p (is_live n q.streams) _ _
    (kept (without_live_stream n (with_control_frame n (Reset code) q)) (Some (happening.Gone n)) (c_closed s e r p n (with_control_frame n (Reset code) q) c))
    (kept (with_control_frame n (Reset code) q) None c)

-- ---- DATA and RST_STREAM

k_on : (s e r p : ℕ) (q : State) (n : ℕ) (bytes : List ℕ) (size : ℕ) (ended : Bool) → Counts s e r p q → Keeps s e r p (data_on q n bytes size ended)
unfolding data_on
k_on s e r p q n bytes size ended c =
    k_if s e r p (not (is_live n q.streams)) _ _ (kept q None c)
    (k_if s e r p (is_remote_closed n q.streams) _ _ (k_reset s e r p q n 5 c)
    (kept _ (Some (happening.Body n bytes ended)) (at_cond (λ (x : State). Counts s e r p x) ended (request_ends n q) (with_window_update n size q) (c_request s e r p n q c) (c_given s e r p n size q c))))

-- what DATA makes of the counts
abbrev after_data : Bool → ℕ → ℕ
after_data none count = cond none count 0

abbrev after_empty : Bool → Bool → ℕ → ℕ
after_empty none ended count = cond none (cond ended count (count + 1)) 0

c_counted : (none ended : Bool) (s e r p : ℕ) (q : State) → Counts s e r p q → Counts (after_data none s) (after_empty none ended e) r p (cond none (cond ended q (record q { empty_data_count = q.empty_data_count + 1 })) (record q { settings_count = 0; empty_data_count = 0 }))
c_counted true true s e r p q c = c
c_counted true false s e r p q c = (c.0, ap (λ (n : ℕ). n + 1) c.1, c.2, c.3)
c_counted false ended s e r p q c = (refl, refl, c.2, c.3)

k_data : (s e r p : ℕ) (q : State) (n : ℕ) (bytes : List ℕ) (size : ℕ) (ended : Bool) → Counts s e r p q → Keeps (after_data (length bytes == 0) s) (after_empty (length bytes == 0) ended e) r p (data_rows q n bytes size ended)
unfolding with_data_count
k_data s e r p q n bytes size ended c =
    k_or _ _ r p (is_empty_data bytes ended && has_come 100 q.empty_data_count) _ _ (fell _ _)
    (k_or _ _ r p (is_idle q n) _ _ (fell _ _)
    (k_on (after_data (length bytes == 0) s) (after_empty (length bytes == 0) ended e) r p (with_window_update 0 size (with_data_count bytes ended q)) n bytes size ended
    (c_given (after_data (length bytes == 0) s) (after_empty (length bytes == 0) ended e) r p 0 size (with_data_count bytes ended q) (c_counted (length bytes == 0) ended s e r p q c))))

abbrev after_early : Bool → ℕ → ℕ
after_early early count = cond early (count + 1) count

k_closes : (live written : Bool) (s e r p n : ℕ) (q : State) → Counts s e r p q → Keeps s e (after_early (live && not written) r) p (cond live (goes (without_live_stream n (cond written q (record q { rapid_reset_count = q.rapid_reset_count + 1 }))) (Some (happening.Gone n))) (nothing q))
k_closes true true s e r p n q c = kept (without_live_stream n q) (Some (happening.Gone n)) (c_closed s e r p n q c)
k_closes true false s e r p n q c =
    kept (without_live_stream n (record q { rapid_reset_count = q.rapid_reset_count + 1 })) (Some (happening.Gone n))
    (c_closed s e (r + 1) p n (record q { rapid_reset_count = q.rapid_reset_count + 1 }) (c.0, c.1, ap (λ (m : ℕ). m + 1) c.2, c.3))
k_closes false written s e r p n q c = kept q None c

k_resets : (s e r p : ℕ) (q : State) (n code : ℕ) → Counts s e r p q → Keeps s e (after_early (is_rapid q n) r) p (reset_rows q n code)
unfolding reset_frame
k_resets s e r p q n code c =
    k_or s e (after_early (is_rapid q n) r) p (is_rapid q n && has_come 10000 q.rapid_reset_count) _ _ (fell _ _)
    (k_or s e (after_early (is_rapid q n) r) p (is_idle q n) _ _ (fell _ _)
    (k_closes (is_live n q.streams) (is_written n q.outbox) s e r p n q c))

-- ---- SETTINGS, PING and windows

k_one : (s e r p : ℕ) (q : State) (pair : Setting) → Counts s e r p q → Keeps s e r p (set_one q pair)
unfolding set_one
k_one s e r p q pair c =
    k_if s e r p (pair.id == 1) _ _ (kept (after_table_size pair.value q) None (c_noted s e r p pair.value q c))
    (k_if s e r p (pair.id == 2) _ _ (k_if s e r p (nat_lt 1 pair.value) _ _ (fell _ _) (kept q None c))
    (k_if s e r p (pair.id == 4) _ _ (k_if s e r p (nat_lt 2147483647 pair.value) _ _ (fell _ _) (k_window s e r p q (set_initial_window pair.value q.outbox) (fault q cause.Overflow) c (fell _ _)))
    (k_if s e r p (pair.id == 5) _ _ (k_if s e r p (is_frame_size pair.value) _ _ (kept q None c) (fell _ _)) (kept q None c))))

k_after : (s e r p : ℕ) (o : Outcome) (go_on : State → Outcome) → Keeps s e r p o → ((q : State) → Counts s e r p q → Keeps s e r p (go_on q)) → Keeps s e r p (after_setting o go_on)
k_after s e r p _ go_on (kept q told c) k = k q c
k_after s e r p _ go_on (fell control f) k = fell control f

k_all : (s e r p : ℕ) (pairs : List Setting) (q : State) → Counts s e r p q → Keeps s e r p (set_all pairs q)
k_all s e r p [] q c = kept (with_control_frame 0 SettingsAck q) None c
k_all s e r p (pair ∷ pairs) q c = k_after s e r p (set_one q pair) (set_all pairs) (k_one s e r p q pair c) (λ x d. k_all s e r p pairs x d)

k_settings : (s e r p : ℕ) (q : State) (n : ℕ) (pairs : List Setting) → Counts s e r p q → Keeps (s + 1) e r p (settings_rows q n pairs)
unfolding set_frame
k_settings s e r p q n pairs c =
    k_or (s + 1) e r p (has_come 100 q.settings_count) _ _ (fell _ _)
    (k_all (s + 1) e r p pairs (record q { settings_received = true; settings_count = q.settings_count + 1 }) (ap (λ (m : ℕ). m + 1) c.0, c.1, c.2, c.3))

k_ping : (s e r p : ℕ) (q : State) (n : ℕ) (ack : Bool) (word : ℕ) → Counts s e r p q → Keeps s e r p (ping_rows q n ack word)
k_ping s e r p q n true word c = kept q None c
k_ping s e r p q n false word c = kept (with_control_frame 0 (Ping true word) q) None c

k_windows : (s e r p : ℕ) (q : State) (n step : ℕ) → Counts s e r p q → Keeps s e r p (window_rows q n step)
k_windows s e r p q n step c =
    k_or s e r p (n == 0) _ _
    (k_if s e r p (step == 0) _ _ (fell _ _) (k_window s e r p q (with_step 0 step q.outbox) (fault q cause.Overflow) c (fell _ _)))
    (k_or s e r p (is_idle q n) _ _ (fell _ _)
    (k_if s e r p (not (is_live n q.streams)) _ _ (kept q None c)
    (k_if s e r p (step == 0) _ _ (k_reset s e r p q n 1 c)
    (k_window s e r p q (with_step n step q.outbox) (stream_error q n 3) c (k_reset s e r p q n 3 c)))))

-- ---- header blocks

k_opened : (s e r p : ℕ) (q : State) (u : OpenBlock) (headers : List Header) → Counts s e r p q → Keeps s e r p (with_new_stream q u headers)
unfolding with_new_stream
k_opened s e r p q u headers c = k_if s e r p (nat_lt (length q.streams) 16) _ _ (kept _ (Some (happening.Head u.stream headers u.ended)) c) (kept _ None c)

k_trailed : (s e r p : ℕ) (q : State) (u : OpenBlock) (headers : List Header) → Counts s e r p q → Keeps s e r p (after_trailers q u headers)
unfolding after_trailers
k_trailed s e r p q u headers c =
    k_if s e r p (u.ended && are_good_trailers headers) _ _
    (kept (request_ends u.stream q) (Some (happening.End u.stream)) (c_request s e r p u.stream q c)) (k_reset s e r p q u.stream 1 c)

k_headers : (s e r p : ℕ) (q : State) (u : OpenBlock) (headers : List Header) → Counts s e r p q → Keeps s e r p (headers_rows q u headers)
k_headers s e r p q u headers c =
    k_or s e r p (nat_lt q.last_stream_id u.stream) (with_new_stream q u headers) (or_else (closed_stream_row q u headers) (or_else (ended_stream_row q u headers) (after_trailers q u headers))) (k_opened s e r p q u headers c)
    (k_or s e r p (not (is_live u.stream q.streams)) (nothing q) (or_else (ended_stream_row q u headers) (after_trailers q u headers)) (kept q None c)
    (k_or s e r p (is_remote_closed u.stream q.streams) (stream_error q u.stream 5) (after_trailers q u headers) (k_reset s e r p q u.stream 5 c) (k_trailed s e r p q u headers c)))

k_decoded : (s e r p : ℕ) (g : BlockFragment) (d : Result (List Header) HpackFault) (after : Standing) → Counts s e r p g.state → Keeps s e r p (header_list_rows g d after)
k_decoded s e r p g (Err f) after c = fell _ _
k_decoded s e r p g (Ok headers) after c = k_headers s e r p (with_decoder after g.state) g.block headers c

k_block : (s e r p : ℕ) (g : BlockFragment) → g.block.continuations ≡ p → Counts s e r p g.state → Keeps s e r p (block_rows g)
k_block s e r p g continuations c =
    k_or s e r p (nat_lt 16384 (length g.block.bytes)) (fault g.state cause.BlockTooLong) (or_else (grows g) (header_list_rows g (decoding g).0 (decoding g).1)) (fell _ _)
    (k_or s e r p (not g.whole) (nothing (record g.state { open_block = Some g.block })) (header_list_rows g (decoding g).0 (decoding g).1) (kept (record g.state { open_block = Some g.block }) None (c.0, c.1, c.2, continuations))
    (k_decoded s e r p g (decoding g).0 (decoding g).1 c))

k_head : (s e r p : ℕ) (q : State) (n : ℕ) (bytes : List ℕ) (ended whole : Bool) → Counts s e r p q → Keeps 0 0 r 0 (head_rows q n bytes ended whole)
k_head s e r p q n bytes ended whole c =
    k_or 0 0 r 0 (n % 2 == 0) _ (block_rows (first_fragment q n bytes ended whole)) (fell _ _)
    (k_block 0 0 r 0 (first_fragment q n bytes ended whole) refl (refl, refl, c.2, tt))

k_gathered : (s e r p : ℕ) (q : State) (h : Option OpenBlock) (bytes : List ℕ) (whole : Bool) → q.open_block ≡ h → Counts s e r p q → ContinuationsAre p h → Keeps s e r (p + 1) (fragment_rows q (next_fragment q h bytes whole))
k_gathered s e r p q None bytes whole same c continuations = kept q None (c.0, c.1, c.2, rw same tt)
k_gathered s e r p q (Some u) bytes whole same c continuations =
    k_block s e r (p + 1) (record { state = record q { open_block = None }; block = record u { bytes = u.bytes ++ bytes; continuations = u.continuations + 1 }; whole = whole }) (ap (λ (m : ℕ). m + 1) continuations) (c.0, c.1, c.2, tt)

k_continuation : (s e r p : ℕ) (q : State) (n : ℕ) (bytes : List ℕ) (whole : Bool) → Counts s e r p q → Keeps s e r (p + 1) (continuation_rows q n bytes whole)
k_continuation s e r p q n bytes whole c =
    k_or s e r (p + 1) (has_come 64 (continuations_of q.open_block)) _ (fragment_rows q (next_fragment q q.open_block bytes whole)) (fell _ _)
    (k_gathered s e r p q q.open_block bytes whole refl c c.3)

-- ---- the table

-- what a frame makes of each count
abbrev next_settings : Body → ℕ → ℕ
next_settings body count = cond (is_data body || is_head body) 0 (cond (is_settings body) (count + 1) count)

abbrev next_empty : Body → ℕ → ℕ
next_empty body count = cond (is_data body || is_head body) 0 (cond (is_empty body) (count + 1) count)

abbrev next_pieces : Body → ℕ → ℕ
next_pieces body count = cond (is_head body) 0 (cond (is_continuation body) (count + 1) count)

same_data : (none : Bool) (s : ℕ) → after_data none s ≡ cond (not none || false) 0 s
same_data true s = refl
same_data false s = refl

same_empty : (none ended : Bool) (e : ℕ) → after_empty none ended e ≡ cond (not none || false) 0 (cond (none && not ended) (e + 1) e)
same_empty true true e = refl
same_empty true false e = refl
same_empty false ended e = refl

k_kind : (s e r p : ℕ) (q : State) (n : ℕ) (body : Body) → Counts s e r p q → Keeps (next_settings body s) (next_empty body e) (after_early (is_early q n body) r) (next_pieces body p) (kind_rows q n body)
k_kind s e r p q n (Bytes bytes size ended) c = rw (sym (same_data (length bytes == 0) s), sym (same_empty (length bytes == 0) ended e)) (k_data s e r p q n bytes size ended c)
k_kind s e r p q n (Headers bytes ended whole) c = k_head s e r p q n bytes ended whole c
k_kind s e r p q n Priority c = kept q None c
k_kind s e r p q n (Reset code) c = k_resets s e r p q n code c
k_kind s e r p q n (Settings pairs) c = k_settings s e r p q n pairs c
k_kind s e r p q n SettingsAck c = kept q None c
k_kind s e r p q n PushPromise c = fell _ _
k_kind s e r p q n (Ping ack word) c = k_ping s e r p q n ack word c
k_kind s e r p q n (GoAway last code) c = kept (record q { goaway_received = true }) None c
k_kind s e r p q n (WindowUpdate step) c = k_windows s e r p q n step c
k_kind s e r p q n (Continuation bytes whole) c = k_continuation s e r p q n bytes whole c
k_kind s e r p q n (Unknown kind) c = kept q None c

k_guarded : (s e r p : ℕ) (q : State) (n : ℕ) (body : Body) (rest : Outcome) → Keeps s e r p rest → Keeps s e r p (guard_rows q n body rest)
k_guarded s e r p q n body rest k =
    k_or s e r p (not (is_settings body) && not q.settings_received) _ _ (fell _ _)
    (k_or s e r p (interrupts q.open_block n (is_continuation body)) _ _ (fell _ _)
    (k_or s e r p (is_continuation body && is_none q.open_block) _ _ (fell _ _)
    (k_or s e r p (is_misplaced n body) (fault q cause.StreamZero) rest (fell _ _) k)))

keeps_peer : (s e r p : ℕ) (q : State) (f : Frame) → Counts s e r p q → Keeps (next_settings f.body s) (next_empty f.body e) (after_early (is_early q f.stream f.body) r) (next_pieces f.body p) (peer q f)
keeps_peer s e r p q f c = rw (peer_is q f) (k_guarded _ _ _ _ q f.stream f.body (kind_rows q f.stream f.body) (k_kind s e r p q f.stream f.body c))

abbrev CountsAfter : ℕ → ℕ → ℕ → ℕ → Outcome → Type 0
CountsAfter s e r p (goes q told) = Counts s e r p q
CountsAfter s e r p (fails control f) = Unit {0}

counts_of : (s e r p : ℕ) (o : Outcome) → Keeps s e r p o → CountsAfter s e r p o
counts_of s e r p _ (kept q told c) = c
counts_of s e r p _ (fell control f) = tt

-- ---- a flush and answers

c_answer : (s e r p n : ℕ) (q : State) → Counts s e r p q → Counts s e r p (answer_ends n q)
unfolding answer_ends
c_answer s e r p n q c = at_cond (λ (x : State). Counts s e r p x) (is_remote_closed n q.streams) (without_live_stream n q) (record q { streams = with_local_closed n q.streams }) (c_closed s e r p n q c) c

c_answers : (s e r p : ℕ) (ns : List ℕ) (q : State) → Counts s e r p q → Counts s e r p (answers_end ns q)
c_answers s e r p [] q c = c
c_answers s e r p (n ∷ ns) q c = c_answers s e r p ns (answer_ends n q) (c_answer s e r p n q c)

c_after : (s e r p : ℕ) (q : State) (x : PullResult) → Counts s e r p q → Counts s e (cond (ends_reset_count q x) 0 r) p (after_pull q x)
unfolding after_pull
c_after s e r p q x c =
    c_answers s e (cond (ends_reset_count q x) 0 r) p x.ended (record q { outbox = x.left; rapid_reset_count = cond (ends_reset_count q x) 0 q.rapid_reset_count })
    (c.0, c.1, ap (λ (m : ℕ). cond (ends_reset_count q x) 0 m) c.2, c.3)

c_cond : (s e r p : ℕ) (b : Bool) (q : State) (o : Out) → Counts s e r p q → Counts s e r p (cond b (record q { outbox = o }) q)
c_cond s e r p b q o c = at_cond (λ (x : State). Counts s e r p x) b (record q { outbox = o }) q c c

c_head : (s e r p n : ℕ) (block : List ℕ) (q : State) → Counts s e r p q → Counts s e r p (with_head_on n block q)
unfolding with_head_on
c_head s e r p n block q c = c_cond s e r p (takes n q) q (with_head n block q.outbox) c

c_last : (s e r p n : ℕ) (block : List ℕ) (q : State) → Counts s e r p q → Counts s e r p (with_trailers_on n block q)
unfolding with_trailers_on
c_last s e r p n block q c = c_cond s e r p (takes n q) q (with_trailers n block q.outbox) c

c_message : (s e r p n : ℕ) (message : List ℕ) (q : State) → Counts s e r p q → Counts s e r p (with_message_on n message q)
unfolding with_message_on
c_message s e r p n message q c = c_cond s e r p (takes n q) q (with_message n message q.outbox) c

c_left : (s e r p n : ℕ) (q : State) → Counts s e r p q → Counts s e r p (without_waiting_on n q)
unfolding without_waiting_on
c_left s e r p n q c = c_cond s e r p (takes n q) q (without_waiting n q.outbox) c

c_refuse : (s e r p n code : ℕ) (q : State) → Counts s e r p q → Counts s e r p (after_reset n code q)
unfolding after_reset
c_refuse s e r p n code q c = at_cond (λ (x : State). Counts s e r p x) (is_live n q.streams) (without_live_stream n (with_control_frame n (Reset code) q)) q (c_closed s e r p n (with_control_frame n (Reset code) q) c) c

-- ---- sums

one_more : (b : Bool) (n : ℕ) → cond b 1 0 + n ≡ cond b (n + 1) n
one_more true n = omega arith
one_more false n = zero-add n

count_cond : (counts : Step → Bool) (step : Step) (steps : List Step) (end : Bool) → count_by counts (cond (not end) (step ∷ steps) []) ≡ cond end 0 (cond (counts step) (count_by counts steps + 1) (count_by counts steps))
count_cond counts step steps true = refl
count_cond counts step steps false = sum_by-cons (λ x. cond (counts x) 1 0) step steps ∙ one_more (counts step) (count_by counts steps)

-- one step more
next : (Step → Bool) → (Step → Bool) → Step → List Step → ℕ
next ends counts step before = cond (ends step) 0 (cond (counts step) (since ends counts before + 1) (since ends counts before))

since_next : (ends counts : Step → Bool) (step : Step) (before : List Step) → since ends counts (step ∷ before) ≡ next ends counts step before
unfolding next
since_next ends counts step before =
    ap (λ (steps : List Step). count_by counts steps) (take_while-cons (λ x. not (ends x)) step before)
    ∙ count_cond counts step (take_while (λ x. not (ends x)) before) (ends step)

abbrev Sums : List Step → State → Type 0
Sums steps q = Counts (since restarts (is_arrival is_settings) steps) (since restarts (is_arrival is_empty) steps) (since ends_resets is_early_reset steps) (since (is_arrival is_head) (is_arrival is_continuation) steps) q

abbrev Nexts : Step → List Step → State → Type 0
Nexts step before q = Counts (next restarts (is_arrival is_settings) step before) (next restarts (is_arrival is_empty) step before) (next ends_resets is_early_reset step before) (next (is_arrival is_head) (is_arrival is_continuation) step before) q

from_nexts : (step : Step) (before : List Step) (q : State) → Nexts step before q → Sums (step ∷ before) q
from_nexts step before q c =
    rw (since_next restarts (is_arrival is_settings) step before, since_next restarts (is_arrival is_empty) step before, since_next ends_resets is_early_reset step before, since_next (is_arrival is_head) (is_arrival is_continuation) step before) c

came_next : (f : Frame) (told : Option Happening) (early : Bool) (before : List Step) (old new : State) → early ≡ is_early old f.stream f.body → peer old f ≡ goes new told → Sums before old → Nexts (Came f told early) before new
unfolding next
came_next f told early before old new same due c =
    let s = since restarts (is_arrival is_settings) before in
    let e = since restarts (is_arrival is_empty) before in
    let r = since ends_resets is_early_reset before in
    let p = since (is_arrival is_head) (is_arrival is_continuation) before in
    let h = counts_of _ _ _ _ (peer old f) (keeps_peer s e r p old f c) in
    rw same (rw due at h)

step_nexts : (step : Step) (before : List Step) (old new : State) → Sums before old → Leads step old new → Nexts step before new
unfolding next
step_nexts (Came f told early) before old new c l = came_next f told early before old new l.1 l.0 c
step_nexts (Wrote sent ends) before old new c l = rw (l.1, l.2) (c_after _ _ _ _ old (pull_of old.outbox) c)
step_nexts (Head n block) before old new c l = rw l (c_head _ _ _ _ n block old c)
step_nexts (Finish n block) before old new c l = rw l (c_last _ _ _ _ n block old c)
step_nexts (Offer n message) before old new c l = rw l (c_message _ _ _ _ n message old c)
step_nexts (Withdraw n) before old new c l = rw l (c_left _ _ _ _ n old c)
step_nexts (Refuse n code) before old new c l = rw l (c_refuse _ _ _ _ n code old c)

reached : (steps : List Step) (q : State) → Reaches steps q → Sums steps q
reached [] q e = rw e (refl, refl, refl, tt)
reached (step ∷ before) q r = from_nexts step before q (step_nexts step before r.0 q (reached before r.0 r.1) r.2)

pub reached_counts : (steps : List Step) (q : State) → Reaches steps q → HasCounts steps q
reached_counts steps q r = let c = reached steps q r in record { settings_count = c.0; empty_data_count = c.1; rapid_reset_count = c.2; continuations = c.3 }
