-- The messages of a stream: which began, what was written of them, and what is left.
use Rattle.std.specs.Prelude.{◌≡◌, ◌⊎◌, ℕ, ◌+◌, ◌-◌, ◌==◌, nat_lt, bytes_eq, Bool, true, if◌then◌else◌, List, [], ◌∷◌, ◌++◌, length, drop, Option, Some, None}
use Rattle.std.specs.List.{AllByRecursion, flat_map}
use Rattle.h2_flow.specs.declared.stream.Stream.{Stream}
use Rattle.h2_flow.specs.Streams.{Sent, headers, content}
use Rattle.h2_flow.specs.Outboxes.{Out}
use Rattle.h2_flow.specs.Histories.{Step, Add, Remove, Initial, Grow, Control, Shrink, Give, Offer, Withdraw, Finish, Pull}

-- ---- the bytes of DATA that frames bring on a stream

abbrev pub data_bytes_on : ℕ → Sent → List ℕ
data_bytes_on n (headers stream block ended) = []
data_bytes_on n (content stream bytes) = if n == stream then bytes else []

abbrev pub all_data_on : ℕ → List Sent → List ℕ
all_data_on n sent = flat_map (data_bytes_on n) sent

-- ---- how far the messages of a stream are

-- the messages that began, the last one first; the bytes of DATA that were written; what is left of the message that began
-- last; and the message that waits
pub record Progress : Type 0 where
  pub begun : List (List ℕ)
  pub written : List ℕ
  pub left : List ℕ
  pub waiting : Option (List ℕ)

abbrev pub no_progress : Progress
no_progress = record { begun = []; written = []; left = []; waiting = None }

abbrev pub last_of : List (List ℕ) → List ℕ
last_of [] = []
last_of (m ∷ ms) = m

-- messages as one text, in the order in which they began
abbrev pub all_messages : List (List ℕ) → List ℕ
all_messages [] = []
all_messages (m ∷ ms) = all_messages ms ++ m

-- more bytes were written than were left: the waiting message began
abbrev pub begin_with : List ℕ → Progress → Option (List ℕ) → Progress
begin_with bytes p None = record p { written = p.written ++ bytes }
begin_with bytes p (Some m) = record {
  begun = m ∷ p.begun;
  written = p.written ++ bytes;
  left = drop (length bytes - length p.left) m;
  waiting = None;
}

abbrev pub IsMore : List ℕ → Progress → Type 0
IsMore bytes p = nat_lt (length p.left) (length bytes) ≡ true

-- own rule: a message begins with its first byte
unfoldable pub after_writing : List ℕ → Progress → Progress
after_writing bytes p =
    if nat_lt (length p.left) (length bytes) then begin_with bytes p p.waiting
    else record p { written = p.written ++ bytes; left = drop (length bytes) p.left }

-- own rule, as `with_offer`: a message equal to the one that began last withdraws an older one
abbrev pub after_offer : List ℕ → Progress → Progress
after_offer m p = record p { waiting = if bytes_eq m (last_of p.begun) then None else Some m }

abbrev pub after_step : ℕ → Step → Progress → Progress
after_step n (Add k) p = if k == n then no_progress else p
after_step n (Remove k) p = if k == n then record p { waiting = None } else p
after_step n (Initial value) p = p
after_step n (Grow k step) p = p
after_step n (Control frame) p = p
after_step n Shrink p = p
after_step n (Give k block) p = p
after_step n (Offer k m) p = if k == n then after_offer m p else p
after_step n (Withdraw k) p = if k == n then record p { waiting = None } else p
after_step n (Finish k block) p = p
after_step n (Pull sent) p = after_writing (all_data_on n sent) p

-- how far the stream of this number is since it came, by these calls, the last one first
abbrev pub progress_on : ℕ → List Step → Progress
progress_on n [] = no_progress
progress_on n (step ∷ before) = after_step n step (progress_on n before)

-- no two messages that follow each other are equal, nor is the first one empty
abbrev pub AllDiffer : List (List ℕ) → Type 0
AllDiffer [] = Unit {0}
AllDiffer (m ∷ ms) = (m ≡ last_of ms → ⊥) × AllDiffer ms

-- ---- what was offered

-- the message was offered to this stream
abbrev pub IsOffer : ℕ → List ℕ → Step → Type 0
IsOffer n m (Add k) = ⊥
IsOffer n m (Remove k) = ⊥
IsOffer n m (Initial value) = ⊥
IsOffer n m (Grow k step) = ⊥
IsOffer n m (Control frame) = ⊥
IsOffer n m Shrink = ⊥
IsOffer n m (Give k block) = ⊥
IsOffer n m (Offer k x) = (k ≡ n) × (x ≡ m)
IsOffer n m (Withdraw k) = ⊥
IsOffer n m (Finish k block) = ⊥
IsOffer n m (Pull sent) = ⊥

abbrev pub WasOffered : ℕ → List Step → List ℕ → Type 0
WasOffered n [] m = ⊥
WasOffered n (step ∷ before) m = IsOffer n m step ⊎ WasOffered n before m

-- ---- what the outbox holds of it

abbrev pub find_stream : ℕ → List Stream → Option Stream
find_stream n [] = None
find_stream n (s ∷ ss) = if s.number == n then Some s else find_stream n ss

-- what is left of the message that began last
abbrev pub left_of : Stream → List ℕ
left_of s = drop s.sent s.last

abbrev pub Matches : Progress → Option Stream → Type 0
Matches p None = Unit {0}
Matches p (Some s) = (p.left ≡ left_of s) × (p.waiting ≡ s.waiting) × (last_of p.begun ≡ s.last)

-- What was written on the stream is a prefix of the messages that began on it, in their order: with what is left of the last
-- one it is all of them. Each was offered to it, and the outbox goes on from there.
pub record WritesWhatBegan (n : ℕ) (steps : List Step) (o : Out) : Type 0 where
  pub front : (progress_on n steps).written ++ (progress_on n steps).left ≡ all_messages (progress_on n steps).begun
  pub offered : AllByRecursion (WasOffered n steps) (progress_on n steps).begun
  pub there : Matches (progress_on n steps) (find_stream n o.streams)

-- a message begins after the whole of the one before: all that was left was written first, and a message waited
abbrev pub Finishes : List ℕ → Progress → Type 0
Finishes bytes p = (m : List ℕ) × (rest : List ℕ) × (p.waiting ≡ Some m) × (bytes ≡ p.left ++ rest)

-- ---- how many began

-- what waited before a pull and does not after it
abbrev pub count_begun : Option (List ℕ) → Option (List ℕ) → ℕ
count_begun None w = 0
count_begun (Some m) None = 1
count_begun (Some m) (Some x) = 0

-- the same of streams, pair by pair
abbrev pub count_all_begun : List Stream → List Stream → ℕ
count_all_begun [] ts = 0
count_all_begun (s ∷ ss) [] = 0
count_all_begun (s ∷ ss) (t ∷ ts) = count_begun s.waiting t.waiting + count_all_begun ss ts
