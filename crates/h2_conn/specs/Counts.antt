-- What came to a connection and what it wrote, and the four flood counts as sums over that.
use Rattle.std.specs.Prelude.{◌≡◌, ℕ, ◌==◌, Bool, true, false, not, ◌||◌, List, [], ◌∷◌, length, count_by, Option, Some, None}
use Rattle.std.specs.List.{take_while}
use Rattle.h2_flow.specs.Outboxes.{pull_of}
use Rattle.h2_flow.specs.Streams.{Sent}
use Rattle.h2_frame.specs.declared.frame.Body.{Body}
use Rattle.h2_frame.specs.declared.frame.Body.TheVariants.{Bytes, Headers, Reset}
use Rattle.h2_frame.specs.declared.frame.Frame.{Frame}
use Rattle.h2_conn.specs.declared.happening.Happening.{Happening}
use Rattle.h2_conn.specs.declared.state.State.{State}
use Rattle.h2_conn.specs.declared.state.OpenBlock.{OpenBlock}
use Rattle.h2_conn.specs.Peer.{goes, is_settings, is_continuation, is_empty_data, is_rapid, peer}
use Rattle.h2_conn.specs.Conns.{new_state, with_head_on, with_trailers_on, with_message_on, without_waiting_on, after_reset, ends_reset_count, after_pull}

-- ---- histories

-- What happened to a connection that goes on: a frame came and told this, and it was a RST_STREAM on a live stream on which no
-- frame was written, or not; a flush wrote these frames after the control frames, and a message began in it or END_STREAM was
-- written, or not; or the server said something.
pub data Step : Type 0 where
  Came : Frame → Option Happening → Bool → Step
  Wrote : List Sent → Bool → Step
  Head : ℕ → List ℕ → Step
  Finish : ℕ → List ℕ → Step
  Offer : ℕ → List ℕ → Step
  Withdraw : ℕ → Step
  Refuse : ℕ → ℕ → Step

abbrev pub is_early : State → ℕ → Body → Bool
is_early q n (Reset code) = is_rapid q n
is_early q n body = false

abbrev pub Leads : Step → State → State → Type 0
Leads (Came f told early) old new = (peer old f ≡ goes new told) × (early ≡ is_early old f.stream f.body)
Leads (Wrote sent ends) old new =
    (sent ≡ (pull_of old.outbox).sent) × (ends ≡ ends_reset_count old (pull_of old.outbox)) × (new ≡ after_pull old (pull_of old.outbox))
Leads (Head n block) old new = new ≡ with_head_on n block old
Leads (Finish n block) old new = new ≡ with_trailers_on n block old
Leads (Offer n message) old new = new ≡ with_message_on n message old
Leads (Withdraw n) old new = new ≡ without_waiting_on n old
Leads (Refuse n code) old new = new ≡ after_reset n code old

-- these steps, the last one first, took a new connection to this state
abbrev pub Reaches : List Step → State → Type 0
Reaches [] q = q ≡ new_state
Reaches (step ∷ before) q = (old : State) × Reaches before old × Leads step old q

-- ---- what counts

abbrev pub is_data : Body → Bool
is_data (Bytes bytes size ended) = not (length bytes == 0)
is_data body = false

abbrev pub is_head : Body → Bool
is_head (Headers block ended whole) = true
is_head body = false

abbrev pub is_empty : Body → Bool
is_empty (Bytes bytes size ended) = is_empty_data bytes ended
is_empty body = false

-- a frame of this sort
abbrev pub is_arrival : (Body → Bool) → Step → Bool
is_arrival sort (Came f told early) = sort f.body
is_arrival sort _ = false

abbrev pub is_early_reset : Step → Bool
is_early_reset (Came f told early) = early
is_early_reset _ = false

abbrev pub ends_resets : Step → Bool
ends_resets (Wrote sent ends) = ends
ends_resets _ = false

-- HEADERS, or DATA with bytes
abbrev pub restarts : Step → Bool
restarts (Came f told early) = is_data f.body || is_head f.body
restarts _ = false

-- how many steps count, since the last one that ends the count, or the start
abbrev pub since : (Step → Bool) → (Step → Bool) → List Step → ℕ
since ends counts steps = count_by counts (take_while (λ step. not (ends step)) steps)

-- ---- the counts as sums

abbrev pub ContinuationsAre : ℕ → Option OpenBlock → Type 0
ContinuationsAre n None = Unit {0}
ContinuationsAre n (Some u) = u.continuations ≡ n

-- own rule: what the flood rows count
pub record HasCounts (steps : List Step) (q : State) : Type 0 where
  pub settings_count : q.settings_count ≡ since restarts (is_arrival is_settings) steps
  pub empty_data_count : q.empty_data_count ≡ since restarts (is_arrival is_empty) steps
  pub rapid_reset_count : q.rapid_reset_count ≡ since ends_resets is_early_reset steps
  pub continuations : ContinuationsAre (since (is_arrival is_head) (is_arrival is_continuation) steps) q.open_block
