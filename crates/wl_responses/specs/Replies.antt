-- What was written on a stream, as the messages that began there, each with the turn of which it is (own rules).
use Rattle.std.specs.Prelude.{ℕ, ◌-◌, ◌==◌, nat_lt, Bool, false, if◌then◌else◌, List, [], ◌∷◌, ◌++◌, length, drop, find, Option, Some, None}
use Rattle.h2_flow.specs.declared.stream.Stream.{Stream}
use Rattle.h2_flow.specs.Progress.{all_data_on, find_stream}
use Rattle.h2_conn.specs.declared.phase.Phase.{Phase}
use Rattle.h2_conn.specs.declared.phase.Phase.TheVariants.{Open, Failed, OutOfMemory}
use Rattle.wl_entry.specs.declared.tokens.JwtToken.{JwtToken}
use Rattle.wl_snapshot.specs.Snapshots.{Publication}
use Rattle.wl_session.specs.declared.asks.JwtOutcome.{JwtOutcome}
use Rattle.wl_session.specs.declared.asks.JwtOutcome.TheVariants.{Token, Failed as NoToken, Unfit}
use Rattle.wl_session.specs.declared.served.CallKind.{CallKind}
use Rattle.wl_session.specs.declared.served.Stage.{Stage}
use Rattle.wl_session.specs.declared.served.Stage.TheVariants.{Unnamed, Ready, Asking}
use Rattle.wl_session.specs.declared.served.ServedCall.{ServedCall}
use Rattle.wl_session.specs.Tokens.{is_asking, stream_of}
use Rattle.wl_session.specs.Talks.{Talking}
use Rattle.wl_responses.specs.Steps.{Step, FrameCame, BytesBroke, CallAttested, TurnTaken, OutcomeCame, talk_after, unwritten, frames_of}

-- ---- the turn that answered a stream last

-- the publication that it read, what the call asks for, the selectors with which the call was attested, and the tokens that
-- came since for the asks of the call, the first one first
pub record AnsweringTurn : Type 0 where
  pub publication : Publication
  pub kind : CallKind
  pub selectors : List (List ℕ)
  pub tokens : List JwtToken

-- how far the ready call on a stream is, if there is one
abbrev pub stage_on : ℕ → List ServedCall → Option Stage
stage_on n [] = None
stage_on n (c ∷ cs) = if c.stream == n then Some c.stage else stage_on n cs

-- a turn answers each call that was attested and does not wait for tokens
abbrev pub answering : Publication → Option Stage → Option AnsweringTurn → Option AnsweringTurn
answering x None last = last
answering x (Some (Unnamed kind)) last = last
answering x (Some (Ready kind selectors seen headed)) last = Some (record { publication = x; kind = kind; selectors = selectors; tokens = [] })
answering x (Some (Asking first rest got)) last = last

abbrev pub one_token_more : JwtToken → Option AnsweringTurn → Option AnsweringTurn
one_token_more t None = None
one_token_more t (Some last) = Some (record last { tokens = last.tokens ++ t ∷ [] })

abbrev pub with_outcome : JwtOutcome → Option AnsweringTurn → Option AnsweringTurn
with_outcome (Token t) last = one_token_more t last
with_outcome NoToken last = last
with_outcome (Unfit why) last = last

-- the first call that waits for tokens is on this stream
abbrev pub is_on : ℕ → Option ℕ → Bool
is_on n None = false
is_on n (Some m) = m == n

abbrev pub asks_first : ℕ → List ServedCall → Bool
asks_first n cs = is_on n (stream_of (find is_asking cs))

abbrev pub turn_after : ℕ → Step → Talking → Option AnsweringTurn → Option AnsweringTurn
turn_after n (FrameCame f) t last = last
turn_after n (BytesBroke why) t last = last
turn_after n (CallAttested caller) t last = last
turn_after n (TurnTaken x) t last = answering x (stage_on n t.served) last
turn_after n (OutcomeCame o) t last = if asks_first n t.served then with_outcome o last else last

-- the latest turn that answered a stream; no number of a stream is used twice
abbrev pub turn_on : ℕ → List Step → Option AnsweringTurn
turn_on n [] = None
turn_on n (step ∷ before) = turn_after n step (talk_after before) (turn_on n before)

-- ---- what was written on a stream

-- a message that began, and the latest turn that answered the stream before
pub record Response : Type 0 where
  pub bytes : List ℕ
  pub turn : Option AnsweringTurn

-- the responses that began, the last one first; the bytes of DATA that were written; and what is left of the response that
-- began last
pub record Replies : Type 0 where
  pub begun : List Response
  pub written : List ℕ
  pub left : List ℕ

abbrev pub no_replies : Replies
no_replies = record { begun = []; written = []; left = [] }

-- more bytes were written than were left: the message that waited began
abbrev pub begin_with : List ℕ → Option AnsweringTurn → Option (List ℕ) → Replies → Replies
begin_with bytes turn None r = record r { written = r.written ++ bytes }
begin_with bytes turn (Some m) r = record { begun = record { bytes = m; turn = turn } ∷ r.begun; written = r.written ++ bytes; left = drop (length bytes - length r.left) m }

-- a message begins with its first byte
unfoldable pub replies_with : List ℕ → Option AnsweringTurn → Option (List ℕ) → Replies → Replies
replies_with bytes turn waiting r =
    if nat_lt (length r.left) (length bytes) then begin_with bytes turn waiting r
    else record r { written = r.written ++ bytes; left = drop (length bytes) r.left }

-- the message that waits on a stream
abbrev pub waits_in : Option Stream → Option (List ℕ)
waits_in None = None
waits_in (Some s) = s.waiting

abbrev pub waiting_on : ℕ → Phase → Option (List ℕ)
waiting_on n (Open q) = waits_in (find_stream n q.outbox.streams)
waiting_on n (Failed fault left totals) = None
waiting_on n (OutOfMemory totals) = None

abbrev pub replies_after : ℕ → Step → Talking → Option AnsweringTurn → Replies → Replies
replies_after n step t turn r = replies_with (all_data_on n (frames_of step t)) turn (waiting_on n (unwritten step t)) r

-- what was written on a stream, by what was read off the frames
abbrev pub replies_on : ℕ → List Step → Replies
replies_on n [] = no_replies
replies_on n (step ∷ before) = replies_after n step (talk_after before) (turn_on n (step ∷ before)) (replies_on n before)
