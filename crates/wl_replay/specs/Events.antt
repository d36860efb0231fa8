-- The lines of a script: a first word that names an event, and the words that belong to it (own format). On a line of this
-- number the first wrong word decides; before it, whether there are as many words as there have to be.
use Rattle.std.specs.Prelude.{ℕ, if◌then◌else◌, List, [], ◌∷◌, codes, Option, Some, None, Result, Ok, Err}
use Rattle.std.specs.Str.{bytes_eq}
use Rattle.list_laws.specs.Results.{◌>>=◌}
use Rattle.wl_entry.specs.declared.signing.Signed.{Signed}
use Rattle.wl_entry.specs.declared.tokens.JwtToken.{JwtToken}
use Rattle.wl_core.specs.declared.events.Event.{Event}
use Rattle.wl_core.specs.declared.events.Event.TheVariants as events
use Rattle.wl_replay.specs.declared.kinds.EventKind.{EventKind}
use Rattle.wl_replay.specs.declared.kinds.EventKind.TheVariants as kind
use Rattle.wl_replay.specs.declared.fault.ScriptFault.{ScriptFault}
use Rattle.wl_replay.specs.declared.fault.ScriptFault.TheVariants.{Line, Kind}
use Rattle.wl_replay.specs.Words.{Numbered, words_of, or_fault, number_at, conn_at, hex_at, selectors_at}

-- what a first word names of the store
unfoldable pub store_kind : List ℕ → Option EventKind
store_kind word =
    if bytes_eq word (codes "sync") then Some kind.Sync
    else if bytes_eq word (codes "strict") then Some kind.Strict
    else if bytes_eq word (codes "claim") then Some kind.Claim
    else if bytes_eq word (codes "signed") then Some kind.Signed
    else if bytes_eq word (codes "failed") then Some kind.Failed
    else None

-- what it names of a session
unfoldable pub session_kind : List ℕ → Option EventKind
session_kind word =
    if bytes_eq word (codes "join") then Some kind.Join
    else if bytes_eq word (codes "name") then Some kind.Name
    else if bytes_eq word (codes "namefail") then Some kind.NameFail
    else if bytes_eq word (codes "feed") then Some kind.Feed
    else if bytes_eq word (codes "turn") then Some kind.Turn
    else if bytes_eq word (codes "token") then Some kind.Token
    else if bytes_eq word (codes "tokenfail") then Some kind.TokenFail
    else if bytes_eq word (codes "close") then Some kind.Close
    else None

abbrev pub or_kind : Option EventKind → Option EventKind → Option EventKind
or_kind (Some k) other = Some k
or_kind None other = other

-- what a first word names
unfoldable pub kind_of : List ℕ → Option EventKind
kind_of word = or_kind (store_kind word) (session_kind word)

-- `sync HEX`
unfoldable pub sync_of : ℕ → List (List ℕ) → Result Event ScriptFault
sync_of n (w ∷ []) = do
  document ← hex_at n w
  Ok (events.Sync document)
sync_of n ws = Err (Line n)

-- `claim NOW`
unfoldable pub claim_of : ℕ → List (List ℕ) → Result Event ScriptFault
claim_of n (w ∷ []) = do
  now ← number_at n w
  Ok (events.Claim now)
claim_of n ws = Err (Line n)

-- `CHAIN KEY NOT_BEFORE NOT_AFTER`
unfoldable pub identity_at : ℕ → List ℕ → List ℕ → List ℕ → List ℕ → Result Signed ScriptFault
identity_at n w1 w2 w3 w4 = do
  chain ← hex_at n w1
  key ← hex_at n w2
  not_before ← number_at n w3
  not_after ← number_at n w4
  Ok (record { chain = chain; key = key; not_before = not_before; not_after = not_after })

-- `signed TICKET CHAIN KEY NOT_BEFORE NOT_AFTER NOW`
unfoldable pub signed_of : ℕ → List (List ℕ) → Result Event ScriptFault
signed_of n (w1 ∷ w2 ∷ w3 ∷ w4 ∷ w5 ∷ w6 ∷ []) = do
  ticket ← number_at n w1
  signed ← identity_at n w2 w3 w4 w5
  now ← number_at n w6
  Ok (events.Signed ticket signed now)
signed_of n ws = Err (Line n)

-- `failed TICKET`
unfoldable pub failed_of : ℕ → List (List ℕ) → Result Event ScriptFault
failed_of n (w ∷ []) = do
  ticket ← number_at n w
  Ok (events.Failed ticket)
failed_of n ws = Err (Line n)

-- `join CONN SELECTOR..`, at least one selector
unfoldable pub join_of : ℕ → List (List ℕ) → Result Event ScriptFault
join_of n (w ∷ v ∷ vs) = do
  conn ← conn_at n w
  selectors ← selectors_at n (v ∷ vs)
  Ok (events.Join conn selectors)
join_of n ws = Err (Line n)

-- `name CONN SELECTOR..`, at least one selector
unfoldable pub name_of : ℕ → List (List ℕ) → Result Event ScriptFault
name_of n (w ∷ v ∷ vs) = do
  conn ← conn_at n w
  selectors ← selectors_at n (v ∷ vs)
  Ok (events.Name conn (Some selectors))
name_of n ws = Err (Line n)

-- `namefail CONN`
unfoldable pub namefail_of : ℕ → List (List ℕ) → Result Event ScriptFault
namefail_of n (w ∷ []) = do
  conn ← conn_at n w
  Ok (events.Name conn None)
namefail_of n ws = Err (Line n)

-- `feed CONN HEX`
unfoldable pub feed_of : ℕ → List (List ℕ) → Result Event ScriptFault
feed_of n (w ∷ v ∷ []) = do
  conn ← conn_at n w
  piece ← hex_at n v
  Ok (events.Feed conn piece)
feed_of n ws = Err (Line n)

-- `turn CONN`
unfoldable pub turn_of : ℕ → List (List ℕ) → Result Event ScriptFault
turn_of n (w ∷ []) = do
  conn ← conn_at n w
  Ok (events.Turn conn)
turn_of n ws = Err (Line n)

-- `TOKEN ISSUED EXPIRES`, the token's bytes in hexadecimal
unfoldable pub token_at : ℕ → List ℕ → List ℕ → List ℕ → Result JwtToken ScriptFault
token_at n w1 w2 w3 = do
  token ← hex_at n w1
  issued_at ← number_at n w2
  expires_at ← number_at n w3
  Ok (record { token = token; issued_at = issued_at; expires_at = expires_at })

-- `token CONN NOW TOKEN ISSUED EXPIRES`
unfoldable pub token_of : ℕ → List (List ℕ) → Result Event ScriptFault
token_of n (w1 ∷ w2 ∷ w3 ∷ w4 ∷ w5 ∷ []) = do
  conn ← conn_at n w1
  now ← number_at n w2
  token ← token_at n w3 w4 w5
  Ok (events.Token conn now (Some token))
token_of n ws = Err (Line n)

-- `tokenfail CONN NOW`
unfoldable pub tokenfail_of : ℕ → List (List ℕ) → Result Event ScriptFault
tokenfail_of n (w ∷ v ∷ []) = do
  conn ← conn_at n w
  now ← number_at n v
  Ok (events.Token conn now None)
tokenfail_of n ws = Err (Line n)

-- `close CONN`
unfoldable pub close_of : ℕ → List (List ℕ) → Result Event ScriptFault
close_of n (w ∷ []) = do
  conn ← conn_at n w
  Ok (events.Close conn)
close_of n ws = Err (Line n)

-- the words after the first
unfoldable pub event_by : EventKind → ℕ → List (List ℕ) → Result Event ScriptFault
event_by kind.Sync n ws = sync_of n ws
event_by kind.Strict n ws = Err (Line n)
event_by kind.Claim n ws = claim_of n ws
event_by kind.Signed n ws = signed_of n ws
event_by kind.Failed n ws = failed_of n ws
event_by kind.Join n ws = join_of n ws
event_by kind.Name n ws = name_of n ws
event_by kind.NameFail n ws = namefail_of n ws
event_by kind.Feed n ws = feed_of n ws
event_by kind.Turn n ws = turn_of n ws
event_by kind.Token n ws = token_of n ws
event_by kind.TokenFail n ws = tokenfail_of n ws
event_by kind.Close n ws = close_of n ws

-- all words of a line
unfoldable pub event_in : ℕ → List (List ℕ) → Result Event ScriptFault
event_in n [] = Err (Kind n)
event_in n (w ∷ ws) = do
  kind ← or_fault (Kind n) (kind_of w)
  event_by kind n ws

abbrev pub event_of : Numbered → Result Event ScriptFault
event_of l = event_in l.number (words_of l.line)
