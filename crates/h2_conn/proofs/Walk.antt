-- One walk of the connection's table: what holds of the states on the way, and of what each row gives, holds of what a frame does.
use Rattle.std.proofs.Common.{◌≡◌, ℕ, ◌+◌, ◌<◌, ◌==◌, ◌^◌, ◌%◌, Bool, true, false, not, cond, ◌&&◌, nat_lt, List, [], ◌∷◌, ◌++◌, length, Option, Some, None, Result, Ok, Err, refl, arith}
use Rattle.h2_conn.proofs.Common.{Header, REFUSED_STREAM, HpackFault, Standing, Body, Bytes, Headers, Priority, Reset, Settings, SettingsAck, PushPromise, Ping, GoAway, WindowUpdate, Continuation, Unknown, Frame, Setting, Overflow, Out, has_size_update, with_stream, with_size_update, with_step, set_initial_window, State, OpenBlock, is_live, is_remote_closed, Outcome, goes, fault, nothing, with_control_frame, without_live_stream, stream_error, request_ends, with_window, is_idle, has_come, is_frame_size, after_table_size, set_one, after_setting, set_all, set_frame, BlockFragment, first_fragment, next_fragment, grows, decoding, with_decoder, closed_stream_row, ended_stream_row, or_else, peer, guard_rows, header_list_rows, fragment_rows, kind_rows, settings_rows, window_rows}
use Rattle.h2_headers.specs.Heads.{are_good_trailers}
use Rattle.h2_wire.specs.declared.error_code.TheConstants.{PROTOCOL_ERROR, FLOW_CONTROL_ERROR, STREAM_CLOSED}
use Rattle.h2_wire.specs.declared.frame_type.TheConstants.{DATA, RST_STREAM, SETTINGS, CONTINUATION}
use Rattle.h2_wire.specs.declared.limit.TheConstants.{MAX_WINDOW_SIZE, INITIAL_HEADER_TABLE_SIZE, MAX_LIVE_STREAMS}
use Rattle.h2_wire.specs.declared.setting.TheConstants as setting
use Rattle.h2_flow.specs.Outboxes.{is_written}
use Rattle.h2_conn.specs.declared.fault.ConnCause.{ConnCause}
use Rattle.h2_conn.specs.declared.fault.ConnCause.TheVariants as cause
use Rattle.h2_conn.specs.declared.happening.Happening.TheVariants as happening
use Rattle.h2_conn.specs.declared.limits.TheConstants.{MAX_BLOCK_SIZE, MAX_CONTINUATIONS, MAX_SETTINGS, MAX_EMPTY_DATA, MAX_RAPID_RESETS}
use Rattle.h2_conn.specs.Peer.{with_window_update, is_settings, is_continuation, interrupts, is_none, is_misplaced, continuations_of, is_empty_data, is_rapid, reset_frame, data_on, with_data_count, with_new_stream, after_trailers, when}
use Rattle.h2_conn.specs.Kinds.{headers_rows, block_rows, data_rows, reset_rows, ping_rows, head_rows, continuation_rows}
use Rattle.h2_conn.proofs.Choice.{peer_is}

-- ---- tests

pub at_cond : {X : Type 0} (P : X → Type 0) (b : Bool) (x y : X) → P x → P y → P (cond b x y)
at_cond P true x y h k = h
at_cond P false x y h k = k

lift_true : (b : Bool) → not b ≡ false → b ≡ true
lift_true true e = refl
lift_true false e = absurd (cc)

window_given : (P : State → Type 0) (n size : ℕ) (q : State) → P q → P (with_control_frame n (WindowUpdate size) q) → P (with_window_update n size q)
unfolding with_window_update
window_given P n size q x y = at_cond P (size == 0) q (with_control_frame n (WindowUpdate size) q) x y

data_counted : (P : State → Type 0) (bytes : List ℕ) (ended : Bool) (q : State) → P q → P (record q { empty_data_count = q.empty_data_count + 1 }) → P (record q { settings_count = 0; empty_data_count = 0 }) → P (with_data_count bytes ended q)
unfolding with_data_count
data_counted P bytes ended q x y z =
    at_cond P (length bytes == 0) (cond ended q (record q { empty_data_count = q.empty_data_count + 1 })) (record q { settings_count = 0; empty_data_count = 0 })
    (at_cond P ended q (record q { empty_data_count = q.empty_data_count + 1 }) x y) z

-- ---- what is walked

abbrev pub IfOpen : (ℕ → Type 0) → Option OpenBlock → Type 0
IfOpen N None = Unit {0}
IfOpen N (Some u) = N u.stream

-- L of the streams of frames, Z of the sizes of DATA, N of the streams of header blocks
abbrev pub IsNumbered : (ℕ → Type 0) → (ℕ → Type 0) → (ℕ → Type 0) → Option OpenBlock → ℕ → Body → Type 0
IsNumbered L Z N block n (Bytes bytes size ended) = L n × Z size
IsNumbered L Z N block n (Headers bytes ended whole) = N n
IsNumbered L Z N block n (Continuation bytes whole) = IfOpen N block
IsNumbered L Z N block n (WindowUpdate step) = L n
IsNumbered L Z N block n body = Unit {0}

pub are_numbered : (L Z N : ℕ → Type 0) (block : Option OpenBlock) (n : ℕ) (body : Body) → L n → ((size : ℕ) → Z size) → N n → IfOpen N block → IsNumbered L Z N block n body
are_numbered L Z N block n (Bytes bytes size ended) low small own there = (low, small size)
are_numbered L Z N block n (Headers bytes ended whole) low small own there = own
are_numbered L Z N block n Priority low small own there = tt
are_numbered L Z N block n (Reset code) low small own there = tt
are_numbered L Z N block n (Settings pairs) low small own there = tt
are_numbered L Z N block n SettingsAck low small own there = tt
are_numbered L Z N block n PushPromise low small own there = tt
are_numbered L Z N block n (Ping ack word) low small own there = tt
are_numbered L Z N block n (GoAway last code) low small own there = tt
are_numbered L Z N block n (WindowUpdate step) low small own there = low
are_numbered L Z N block n (Continuation bytes whole) low small own there = there
are_numbered L Z N block n (Unknown kind) low small own there = tt

-- of any stream and size
abbrev pub Any : ℕ → Type 0
Any n = Unit {0}

pub any_open : (block : Option OpenBlock) → IfOpen Any block
any_open None = tt
any_open (Some u) = tt

-- S holds of the states on the way, and R of what a row gives
pub record Rows (L Z N : ℕ → Type 0) (S : State → Type 0) (R : Outcome → Type 0) : Type 0 where
  pub root : L 0
  pub low : (n : ℕ) → N n → L n
  -- what no stream sees
  pub counts : (q : State) (first : Bool) (settings empty rapid : ℕ) → S q → S (record q { settings_received = first; settings_count = settings; empty_data_count = empty; rapid_reset_count = rapid })
  pub goaway : (q : State) → S q → S (record q { goaway_received = true })
  pub decoder : (q : State) (d : Standing) → S q → S (with_decoder d q)
  pub block : (q : State) (block : Option OpenBlock) → IfOpen N block → S q → S (record q { open_block = block })
  pub pong : (q : State) (word : ℕ) → S q → S (with_control_frame 0 (Ping true word) q)
  pub grant : (q : State) (n size : ℕ) → L n → Z size → S q → S (with_control_frame n (WindowUpdate size) q)
  -- what comes out
  pub falls : (q : State) (why : ConnCause) → S q → R (fault q why)
  pub quiet : (q : State) → S q → R (nothing q)
  pub opened : (q : State) (u : OpenBlock) (headers : List Header) → N u.stream → nat_lt q.last_stream_id u.stream ≡ true → S q → R (goes (record q { last_stream_id = u.stream; streams = q.streams ++ record { number = u.stream; remote_closed = u.ended; local_closed = false } ∷ []; outbox = with_stream u.stream q.outbox }) (Some (happening.Head u.stream headers u.ended)))
  pub refused : (q : State) (u : OpenBlock) → N u.stream → nat_lt q.last_stream_id u.stream ≡ true → S q → R (nothing (with_control_frame u.stream (Reset REFUSED_STREAM) (record q { last_stream_id = u.stream })))
  pub content : (q : State) (n : ℕ) (bytes : List ℕ) → is_live n q.streams ≡ true → S q → R (goes q (Some (happening.Body n bytes false)))
  pub last : (q : State) (n : ℕ) (bytes : List ℕ) → is_live n q.streams ≡ true → S q → R (goes (request_ends n q) (Some (happening.Body n bytes true)))
  pub ended : (q : State) (n : ℕ) → is_live n q.streams ≡ true → S q → R (goes (request_ends n q) (Some (happening.End n)))
  pub gone : (q : State) (n : ℕ) → is_live n q.streams ≡ true → S q → R (goes (without_live_stream n q) (Some (happening.Gone n)))
  pub reset : (q : State) (n code : ℕ) → L n → code < 2 ^ 32 → is_live n q.streams ≡ true → S q → R (goes (without_live_stream n (with_control_frame n (Reset code) q)) (Some (happening.Gone n)))

-- the same of SETTINGS and WINDOW_UPDATE
pub record Windows (S : State → Type 0) (R : Outcome → Type 0) : Type 0 where
  pub ack : (q : State) → S q → S (with_control_frame 0 SettingsAck q)
  pub shrunk : (q : State) → S q → S (record q { outbox = with_size_update q.outbox })
  pub started : (q : State) (value : ℕ) (o : Out) → set_initial_window value q.outbox ≡ Ok o → S q → S (record q { outbox = o })
  pub stepped : (q : State) (n step : ℕ) (o : Out) → with_step n step q.outbox ≡ Ok o → S q → R (nothing (record q { outbox = o }))

module _ (R : Outcome → Type 0) where
  pub at_row : (b : Bool) (o rest : Outcome) → (b ≡ true → R o) → (b ≡ false → R rest) → R (or_else (when b o) rest)
  at_row true o rest x y = x refl
  at_row false o rest x y = y refl

  pub at_if : (b : Bool) (o rest : Outcome) → (b ≡ true → R o) → (b ≡ false → R rest) → R (cond b o rest)
  at_if true o rest x y = x refl
  at_if false o rest x y = y refl

  -- the rows that look at several kinds
  pub at_guards : (q : State) (n : ℕ) (body : Body) (rest : Outcome) → ((why : ConnCause) → R (fault q why)) → R rest → R (guard_rows q n body rest)
  at_guards q n body rest falls k =
      at_row (not (is_settings body) && not q.settings_received) (fault q cause.FirstFrame) _ (λ e. falls cause.FirstFrame) (λ e.
      at_row (interrupts q.open_block n (is_continuation body)) (fault q cause.BlockOpen) _ (λ e. falls cause.BlockOpen) (λ e.
      at_row (is_continuation body && is_none q.open_block) (fault q cause.NoBlock) _ (λ e. falls cause.NoBlock) (λ e.
      at_row (is_misplaced n body) (fault q cause.StreamZero) rest (λ e. falls cause.StreamZero) (λ e. k))))

module _ (L Z N : ℕ → Type 0) (S : State → Type 0) (R : Outcome → Type 0) (w : Rows L Z N S R) where
  at_fault : (b : Bool) (q : State) (why : ConnCause) (rest : Outcome) → S q → (b ≡ false → R rest) → R (or_else (when b (fault q why)) rest)
  at_fault b q why rest h y = at_row R b (fault q why) rest (λ e. w.falls q why h) y

  pub at_reset : (q : State) (n code : ℕ) → L n → code < 2 ^ 32 → is_live n q.streams ≡ true → S q → R (stream_error q n code)
  unfolding stream_error
  at_reset q n code low small live h = rw live (w.reset q n code low small live h)

  -- ---- DATA and RST_STREAM

  at_grant : (q : State) (n size : ℕ) → L n → Z size → S q → S (with_window_update n size q)
  at_grant q n size low small h = window_given S n size q h (w.grant q n size low small h)

  at_count : (q : State) (bytes : List ℕ) (ended : Bool) → S q → S (with_data_count bytes ended q)
  at_count q bytes ended h =
      data_counted S bytes ended q h (w.counts q q.settings_received q.settings_count (q.empty_data_count + 1) q.rapid_reset_count h)
      (w.counts q q.settings_received 0 0 q.rapid_reset_count h)

  at_body : (q : State) (n : ℕ) (bytes : List ℕ) (size : ℕ) (ended : Bool) → L n → Z size → is_live n q.streams ≡ true → S q → R (goes (cond ended (request_ends n q) (with_window_update n size q)) (Some (happening.Body n bytes ended)))
  at_body q n bytes size true low small live h = w.last q n bytes live h
  at_body q n bytes size false low small live h =
      w.content (with_window_update n size q) n bytes (window_given (λ (r : State). is_live n r.streams ≡ true) n size q live live) (at_grant q n size low small h)

  at_data_on : (q : State) (n : ℕ) (bytes : List ℕ) (size : ℕ) (ended : Bool) → L n → Z size → S q → R (data_on q n bytes size ended)
  unfolding data_on
  at_data_on q n bytes size ended low small h =
      at_if R (not (is_live n q.streams)) _ _ (λ e. w.quiet q h) (λ e.
      let live = lift_true (is_live n q.streams) e in
      at_if R (is_remote_closed n q.streams) _ _ (λ f. at_reset q n STREAM_CLOSED low (omega arith) live h)
      (λ f. at_body q n bytes size ended low small live h))

  pub at_data : (q : State) (n : ℕ) (bytes : List ℕ) (size : ℕ) (ended : Bool) → L n → Z size → S q → R (data_rows q n bytes size ended)
  at_data q n bytes size ended low small h =
      at_fault (is_empty_data bytes ended && has_come MAX_EMPTY_DATA q.empty_data_count) q (cause.Flood DATA (MAX_EMPTY_DATA + 1)) _ h (λ e.
      at_fault (is_idle q n) q cause.Idle _ h (λ e.
      at_data_on (with_window_update 0 size (with_data_count bytes ended q)) n bytes size ended low small (at_grant (with_data_count bytes ended q) 0 size w.root small (at_count q bytes ended h))))

  pub at_resets : (q : State) (n code : ℕ) → S q → R (reset_rows q n code)
  unfolding reset_frame
  at_resets q n code h =
      let r = record q { rapid_reset_count = q.rapid_reset_count + 1 } in
      at_fault (is_rapid q n && has_come MAX_RAPID_RESETS q.rapid_reset_count) q (cause.Flood RST_STREAM (MAX_RAPID_RESETS + 1)) _ h (λ e.
      at_fault (is_idle q n) q cause.Idle _ h (λ e.
      at_if R (is_live n q.streams) _ _
      (λ live. w.gone (cond (is_written n q.outbox) q r) n (at_cond (λ (x : State). is_live n x.streams ≡ true) (is_written n q.outbox) q r live live)
      (at_cond S (is_written n q.outbox) q r h (w.counts q q.settings_received q.settings_count q.empty_data_count (q.rapid_reset_count + 1) h)))
      (λ e. w.quiet q h)))

  pub at_ping : (q : State) (n : ℕ) (ack : Bool) (word : ℕ) → S q → R (ping_rows q n ack word)
  at_ping q n true word h = w.quiet q h
  at_ping q n false word h = w.quiet (with_control_frame 0 (Ping true word) q) (w.pong q word h)

  -- ---- header blocks

  at_head_on : (q : State) (u : OpenBlock) (headers : List Header) → N u.stream → nat_lt q.last_stream_id u.stream ≡ true → S q → R (with_new_stream q u headers)
  unfolding with_new_stream
  at_head_on q u headers own above h =
      at_if R (nat_lt (length q.streams) MAX_LIVE_STREAMS) _ _ (λ e. w.opened q u headers own above h) (λ e. w.refused q u own above h)

  at_trailers : (q : State) (u : OpenBlock) (headers : List Header) → N u.stream → is_live u.stream q.streams ≡ true → S q → R (after_trailers q u headers)
  unfolding after_trailers
  at_trailers q u headers own live h =
      at_if R (u.ended && are_good_trailers headers) _ _ (λ e. w.ended q u.stream live h) (λ e. at_reset q u.stream PROTOCOL_ERROR (w.low u.stream own) (omega arith) live h)

  at_headers : (q : State) (u : OpenBlock) (headers : List Header) → N u.stream → S q → R (headers_rows q u headers)
  at_headers q u headers own h =
      at_row R (nat_lt q.last_stream_id u.stream) (with_new_stream q u headers) (or_else (closed_stream_row q u headers) (or_else (ended_stream_row q u headers) (after_trailers q u headers))) (λ e. at_head_on q u headers own e h) (λ e.
      at_row R (not (is_live u.stream q.streams)) (nothing q) (or_else (ended_stream_row q u headers) (after_trailers q u headers)) (λ e. w.quiet q h) (λ e.
      let live = lift_true (is_live u.stream q.streams) e in
      at_row R (is_remote_closed u.stream q.streams) (stream_error q u.stream STREAM_CLOSED) (after_trailers q u headers) (λ e. at_reset q u.stream STREAM_CLOSED (w.low u.stream own) (omega arith) live h) (λ e.
      at_trailers q u headers own live h)))

  at_decoded : (g : BlockFragment) (r : Result (List Header) HpackFault) (d : Standing) → N g.block.stream → S g.state → R (header_list_rows g r d)
  at_decoded g (Err f) d own h = w.falls g.state (cause.Hpack f) h
  at_decoded g (Ok headers) d own h = at_headers (with_decoder d g.state) g.block headers own (w.decoder g.state d h)

  at_block : (g : BlockFragment) → N g.block.stream → S g.state → R (block_rows g)
  at_block g own h =
      at_row R (nat_lt MAX_BLOCK_SIZE (length g.block.bytes)) (fault g.state cause.BlockTooLong) (or_else (grows g) (header_list_rows g (decoding g).0 (decoding g).1)) (λ e. w.falls g.state cause.BlockTooLong h) (λ e.
      at_row R (not g.whole) (nothing (record g.state { open_block = Some g.block })) (header_list_rows g (decoding g).0 (decoding g).1) (λ e. w.quiet (record g.state { open_block = Some g.block }) (w.block g.state (Some g.block) own h)) (λ e.
      at_decoded g (decoding g).0 (decoding g).1 own h))

  pub at_head : (q : State) (n : ℕ) (bytes : List ℕ) (ended whole : Bool) → N n → S q → R (head_rows q n bytes ended whole)
  at_head q n bytes ended whole own h =
      at_row R (n % 2 == 0) _ (block_rows (first_fragment q n bytes ended whole)) (λ e. w.falls q cause.EvenStream h) (λ e.
      at_block (first_fragment q n bytes ended whole) own (w.block (record q { settings_count = 0; empty_data_count = 0 }) None tt (w.counts q q.settings_received 0 0 q.rapid_reset_count h)))

  at_gathered : (q : State) (block : Option OpenBlock) (bytes : List ℕ) (whole : Bool) → IfOpen N block → S q → R (fragment_rows q (next_fragment q block bytes whole))
  at_gathered q None bytes whole own h = w.quiet q h
  at_gathered q (Some u) bytes whole own h =
      at_block (record { state = record q { open_block = None }; block = record u { bytes = u.bytes ++ bytes; continuations = u.continuations + 1 }; whole = whole }) own (w.block q None tt h)

  pub at_continuation : (q : State) (n : ℕ) (bytes : List ℕ) (whole : Bool) → IfOpen N q.open_block → S q → R (continuation_rows q n bytes whole)
  at_continuation q n bytes whole own h =
      at_fault (has_come MAX_CONTINUATIONS (continuations_of q.open_block)) q (cause.Flood CONTINUATION (MAX_CONTINUATIONS + 1)) (fragment_rows q (next_fragment q q.open_block bytes whole)) h
      (λ e. at_gathered q q.open_block bytes whole own h)

module _ (L Z N : ℕ → Type 0) (S : State → Type 0) (R : Outcome → Type 0) (w : Rows L Z N S R) (v : Windows S R) where
  -- ---- SETTINGS

  at_moved : (q : State) (r : Result Out Overflow) (go_on : State → Outcome) → S q → ((o : Out) → r ≡ Ok o → S (record q { outbox = o })) → ((x : State) → S x → R (go_on x)) → R (after_setting (with_window q r (fault q cause.Overflow)) go_on)
  at_moved q (Ok o) go_on h moves k = k (record q { outbox = o }) (moves o refl)
  at_moved q (Err e) go_on h moves k = w.falls q cause.Overflow h

  after_if : (b : Bool) (x y : Outcome) (go_on : State → Outcome) → R (after_setting x go_on) → R (after_setting y go_on) → R (after_setting (cond b x y) go_on)
  after_if true x y go_on h k = h
  after_if false x y go_on h k = k

  at_table : (q : State) (value : ℕ) → S q → S (after_table_size value q)
  unfolding after_table_size
  at_table q value h = at_cond S (nat_lt value INITIAL_HEADER_TABLE_SIZE && not (has_size_update q.outbox)) (record q { outbox = with_size_update q.outbox }) q (v.shrunk q h) h

  at_setting : (q : State) (p : Setting) (go_on : State → Outcome) → S q → ((x : State) → S x → R (go_on x)) → R (after_setting (set_one q p) go_on)
  unfolding set_one
  at_setting q p go_on h k =
      after_if (p.id == setting.HEADER_TABLE_SIZE) _ _ go_on (k (after_table_size p.value q) (at_table q p.value h)) (
      after_if (p.id == setting.ENABLE_PUSH) _ _ go_on (after_if (nat_lt 1 p.value) (fault q (cause.Setting setting.ENABLE_PUSH)) (nothing q) go_on (w.falls q (cause.Setting setting.ENABLE_PUSH) h) (k q h)) (
      after_if (p.id == setting.INITIAL_WINDOW_SIZE) _ _ go_on (
      after_if (nat_lt MAX_WINDOW_SIZE p.value) (fault q (cause.Setting setting.INITIAL_WINDOW_SIZE)) _ go_on (w.falls q (cause.Setting setting.INITIAL_WINDOW_SIZE) h)
      (at_moved q (set_initial_window p.value q.outbox) go_on h (λ o e. v.started q p.value o e h) k)) (
      after_if (p.id == setting.MAX_FRAME_SIZE) _ _ go_on (after_if (is_frame_size p.value) (nothing q) (fault q (cause.Setting setting.MAX_FRAME_SIZE)) go_on (k q h) (w.falls q (cause.Setting setting.MAX_FRAME_SIZE) h)) (k q h))))

  at_pairs : (pairs : List Setting) (q : State) → S q → R (set_all pairs q)
  at_pairs [] q h = w.quiet (with_control_frame 0 SettingsAck q) (v.ack q h)
  at_pairs (p ∷ ps) q h = at_setting q p (set_all ps) h (λ x k. at_pairs ps x k)

  at_settings : (q : State) (n : ℕ) (pairs : List Setting) → S q → R (settings_rows q n pairs)
  unfolding set_frame
  at_settings q n pairs h =
      at_row R (has_come MAX_SETTINGS q.settings_count) (fault q (cause.Flood SETTINGS (MAX_SETTINGS + 1))) _ (λ e. w.falls q (cause.Flood SETTINGS (MAX_SETTINGS + 1)) h)
      (λ e. at_pairs pairs (record q { settings_received = true; settings_count = q.settings_count + 1 }) (w.counts q true (q.settings_count + 1) q.empty_data_count q.rapid_reset_count h))

  -- ---- WINDOW_UPDATE

  at_step : (q : State) (n step : ℕ) (r : Result Out Overflow) (over : Outcome) → with_step n step q.outbox ≡ r → S q → R over → R (with_window q r over)
  at_step q n step (Ok o) over e h k = v.stepped q n step o e h
  at_step q n step (Err f) over e h k = k

  at_windows : (q : State) (n step : ℕ) → L n → S q → R (window_rows q n step)
  at_windows q n step low h =
      at_row R (n == 0) _ _
      (λ e. at_if R (step == 0) _ _ (λ f. w.falls q cause.ZeroStep h) (λ f. at_step q 0 step (with_step 0 step q.outbox) (fault q cause.Overflow) refl h (w.falls q cause.Overflow h))) (λ e.
      at_row R (is_idle q n) (fault q cause.Idle) _ (λ f. w.falls q cause.Idle h) (λ f.
      at_if R (not (is_live n q.streams)) _ _ (λ g. w.quiet q h) (λ g.
      let live = lift_true (is_live n q.streams) g in
      at_if R (step == 0) _ _ (λ i. at_reset L Z N S R w q n PROTOCOL_ERROR low (omega arith) live h)
      (λ i. at_step q n step (with_step n step q.outbox) (stream_error q n FLOW_CONTROL_ERROR) refl h (at_reset L Z N S R w q n FLOW_CONTROL_ERROR low (omega arith) live h)))))

  -- ---- the table

  at_kind : (q : State) (n : ℕ) (body : Body) → IsNumbered L Z N q.open_block n body → S q → R (kind_rows q n body)
  at_kind q n (Bytes bytes size ended) own h = at_data L Z N S R w q n bytes size ended own.0 own.1 h
  at_kind q n (Headers bytes ended whole) own h = at_head L Z N S R w q n bytes ended whole own h
  at_kind q n Priority own h = w.quiet q h
  at_kind q n (Reset code) own h = at_resets L Z N S R w q n code h
  at_kind q n (Settings pairs) own h = at_settings q n pairs h
  at_kind q n SettingsAck own h = w.quiet q h
  at_kind q n PushPromise own h = w.falls q cause.Push h
  at_kind q n (Ping ack word) own h = at_ping L Z N S R w q n ack word h
  at_kind q n (GoAway last code) own h = w.quiet (record q { goaway_received = true }) (w.goaway q h)
  at_kind q n (WindowUpdate step) own h = at_windows q n step own h
  at_kind q n (Continuation bytes whole) own h = at_continuation L Z N S R w q n bytes whole own h
  at_kind q n (Unknown kind) own h = w.quiet q h

  pub walk : (q : State) (f : Frame) → IsNumbered L Z N q.open_block f.stream f.body → S q → R (peer q f)
  walk q f own h = rw (peer_is q f) (at_guards R q f.stream f.body (kind_rows q f.stream f.body) (λ why. w.falls q why h) (at_kind q f.stream f.body own h))
