-- What holds of each state is kept by each row, and what a row tells names live streams.
use Rattle.std.proofs.Common.{◌≡◌, ℕ, ◌+◌, ◌<◌, ◌≤◌, ◌==◌, ◌^◌, ◌∙◌, Bool, true, false, not, cond, ◌||◌, nat_lt, List, [], ◌∷◌, ◌++◌, length, map, filter, Option, Some, None, Result, Ok, Err, OnOk, refl, sym, ap, subst, inl, inr, arith}
use Rattle.std.specs.List.{list_any, AllByRecursion}
use Rattle.std.proofs.lemmas.Bool.{cases_Bool, ltb-true}
use Rattle.std.proofs.lemmas.Bool.Decides.{nat_tests}
use Rattle.std.proofs.lemmas.List.{map-append, length-map}
use Rattle.std.proofs.lemmas.List.Folds.{list_any-append}
use Rattle.h2_conn.proofs.Common.{all_filter, Header, REFUSED_STREAM, Body, Reset, SettingsAck, Ping, WindowUpdate, Frame, Overflow, Out, is_number, RisesFrom, with_stream, with_control, with_size_update, with_step, set_initial_window, with_head, with_message, without_waiting, with_trailers, pull_of, rises_from, ConnFault, Happening, Phase, Open, Failed, OutOfMemory, State, OpenBlock, is_live, is_local_closed, with_remote_closed, with_local_closed, Outcome, goes, fails, fault, with_control_frame, without_live_stream, request_ends, peer, takes, with_head_on, with_trailers_on, with_message_on, without_waiting_on, after_reset, Sound}
use Rattle.list_laws.proofs.Elements.{all_append}
use Rattle.h2_frame.specs.Writing.{frame_encoding}
use Rattle.h2_flow.specs.declared.stream.Stream as other
use Rattle.h2_flow.specs.Outboxes.{has_stream, numbers, IsAbove}
use Rattle.h2_flow.proofs.Numbers.{KeepsNumbers, numbers_added, numbers_removed, numbers_controlled, numbers_shrunk, numbers_grown, numbers_initialed, numbers_headed, numbers_offered, numbers_withdrawn, numbers_closed, numbers_pulled}
use Rattle.h2_conn.specs.declared.fault.ConnError.{ConnError}
use Rattle.h2_conn.specs.declared.happening.Happening.TheVariants as happening
use Rattle.h2_conn.specs.declared.streams.Stream.{Stream}
use Rattle.h2_conn.specs.Streams.{without, remote_closed_if, local_closed_if}
use Rattle.h2_conn.specs.Kinds.{Steps, Fits}
use Rattle.h2_conn.specs.Sound.{number_of, IsLow, Ties, SoundPhase, SoundAfter}
use Rattle.h2_conn.specs.Naming.{Names, NamesAfter, NamesOn}
use Rattle.h2_conn.proofs.Walk.{at_cond, IfOpen, Rows, Windows, Any, are_numbered, walk}

-- ---- lists of numbers

all_below : (a b : ℕ) → a ≤ b → (ns : List ℕ) → AllByRecursion (λ n. n < a) ns → AllByRecursion (λ n. n < b) ns
all_below a b le [] h = tt
all_below a b le (n ∷ ns) h = let below : n < a = h.0 in (omega (arith, below), all_below a b le ns h.1)

rises_kept : (m : ℕ) (test : ℕ → Bool) (ns : List ℕ) → RisesFrom m ns → RisesFrom m (filter test ns)
rises_kept m test [] h = tt
rises_kept m test (n ∷ ns) h =
    elim (cases_Bool (test n)) [
      | inl keeps ↦ rw keeps (h.0, rises_kept n test ns h.1)
      | inr keeps ↦ rw keeps (rises_kept m test ns (rises_from m n ns (omega (arith, h.0)) h.1))
    ]

rises_push : (m a n : ℕ) (ns : List ℕ) → m < n → a ≤ n → AllByRecursion (λ k. k < a) ns → RisesFrom m ns → RisesFrom m (ns ++ n ∷ [])
rises_push m a n [] lt le below h = (lt, tt)
rises_push m a n (k ∷ ns) lt le below h = (h.0, rises_push k a n ns (omega (arith, below.0, le)) le below.1 h.1)

without_numbers : (n : ℕ) (ss : List Stream) → filter (λ m. not (m == n)) (map number_of ss) ≡ map number_of (without n ss)
without_numbers n [] = refl
without_numbers n (s ∷ ss) =
    elim (cases_Bool (s.number == n)) [
      | inl here ↦ rw here (without_numbers n ss)
      | inr here ↦ rw here (ap (λ (ns : List ℕ). s.number ∷ ns) (without_numbers n ss))
    ]

kept_numbers : (f : Stream → Stream) → ((s : Stream) → (f s).number ≡ s.number) → (ss : List Stream) → map number_of (map f ss) ≡ map number_of ss
kept_numbers f keeps [] = refl
kept_numbers f keeps (s ∷ ss) = rw (keeps s, kept_numbers f keeps ss) refl

number_cond : (b : Bool) (x y : Stream) → x.number ≡ y.number → (cond b x y).number ≡ y.number
number_cond true x y e = e
number_cond false x y e = refl

-- what is gone is live no more
pub gone : (n : ℕ) (ss : List Stream) → is_live n (without n ss) ≡ false
gone n [] = refl
gone n (s ∷ ss) =
    elim (cases_Bool (s.number == n)) [
      | inl here ↦ rw here (gone n ss)
      | inr here ↦ rw here (rw here (gone n ss))
    ]

same_number : (n : ℕ) → (n == n) ≡ true
same_number n = grind (arith, nat_tests)

or_true : (b : Bool) → (b || true) ≡ true
or_true true = refl
or_true false = refl

comes : (n : ℕ) (ended answered : Bool) (ss : List Stream) → is_live n (ss ++ record { number = n; remote_closed = ended; local_closed = answered } ∷ []) ≡ true
comes n ended answered ss = list_any-append (λ (s : Stream). s.number == n) ss (record { number = n; remote_closed = ended; local_closed = answered } ∷ []) ∙ rw (same_number n) (or_true (is_live n ss))

-- ---- what an outbox asks for

there_by_numbers : (n : ℕ) (os : List other.Stream) (ss : List Stream) → map (λ (s : other.Stream). s.number) os ≡ map number_of ss → list_any (is_number n) os ≡ is_live n ss
there_by_numbers n [] [] e = refl
there_by_numbers n [] (s ∷ ss) e = absurd (cc e)
there_by_numbers n (o ∷ os) [] e = absurd (cc e)
there_by_numbers n (o ∷ os) (s ∷ ss) e =
    let first : o.number ≡ s.number = cc in
    let rest : map (λ (s : other.Stream). s.number) os ≡ map number_of ss = cc in
    rw (first, there_by_numbers n os ss rest) refl

pub there_is : (q : State) (n : ℕ) → Sound q → list_any (is_number n) q.outbox.streams ≡ is_live n q.streams
there_is q n s = there_by_numbers n q.outbox.streams q.streams s.same

pub is_there : (q : State) (n : ℕ) → Sound q → is_live n q.streams ≡ true → has_stream n q.outbox ≡ true
is_there q n s live = there_by_numbers n q.outbox.streams q.streams s.same ∙ live

pub has_room : (q : State) → Sound q → length q.outbox.streams ≡ length q.streams
has_room q s = sym (length-map q.outbox.streams (λ (s : other.Stream). s.number)) ∙ (ap (λ (ns : List ℕ). length ns) s.same ∙ length-map q.streams number_of)

above_by_numbers : (n : ℕ) (os : List other.Stream) → AllByRecursion (λ m. m < n) (map (λ (s : other.Stream). s.number) os) → IsAbove n os
above_by_numbers n [] h = tt
above_by_numbers n (o ∷ os) h = (h.0, above_by_numbers n os h.1)

pub is_above : (q : State) (n : ℕ) → q.last_stream_id < n → Sound q → IsAbove n q.outbox.streams
is_above q n above s = above_by_numbers n q.outbox.streams (all_below (q.last_stream_id + 1) n (omega (arith, above)) (numbers q.outbox) s.below)

-- ---- states

pub s_outbox : (q : State) (o : Out) → numbers o ≡ numbers q.outbox → Sound q → Sound (record q { outbox = o })
s_outbox q o e s = rw e s

s_queued : (n : ℕ) (body : Body) (q : State) → Sound q → Sound (with_control_frame n body q)
s_queued n body q s = s_outbox q (with_control (frame_encoding (record { stream = n; body = body })) q.outbox) (numbers_controlled (frame_encoding (record { stream = n; body = body })) q.outbox) s

pub s_closed : (n : ℕ) (q : State) → Sound q → Sound (without_live_stream n q)
unfolding without_live_stream
s_closed n q s = record {
  same = numbers_removed n q.outbox ∙ (ap (λ (ns : List ℕ). filter (λ m. not (m == n)) ns) s.same ∙ without_numbers n q.streams);
  below = rw (numbers_removed n q.outbox) (all_filter (λ m. m < q.last_stream_id + 1) (λ m. not (m == n)) (numbers q.outbox) s.below);
  low = s.low;
  rises = rw (numbers_removed n q.outbox) (rises_kept 0 (λ m. not (m == n)) (numbers q.outbox) s.rises);
}

s_streams : (f : Stream → Stream) → ((s : Stream) → (f s).number ≡ s.number) → (q : State) → Sound q → Sound (record q { streams = map f q.streams })
s_streams f keeps q s = record { same = s.same ∙ sym (kept_numbers f keeps q.streams); below = s.below; low = s.low; rises = s.rises }

s_ending : (n : ℕ) (q : State) → Sound q → Sound (record q { streams = with_remote_closed n q.streams })
s_ending n q s = s_streams (remote_closed_if n) (λ x. number_cond (x.number == n) (record x { remote_closed = true }) x refl) q s

pub s_answering : (n : ℕ) (q : State) → Sound q → Sound (record q { streams = with_local_closed n q.streams })
s_answering n q s = s_streams (local_closed_if n) (λ x. number_cond (x.number == n) (record x { local_closed = true }) x refl) q s

s_raised : (q : State) (n : ℕ) → q.last_stream_id < n → Sound q → Sound (record q { last_stream_id = n })
s_raised q n above s = record { same = s.same; below = all_below (q.last_stream_id + 1) (n + 1) (omega (arith, above)) (numbers q.outbox) s.below; low = s.low; rises = s.rises }

s_added : (q : State) (n : ℕ) (ended : Bool) → q.last_stream_id < n → Sound q → Sound (record q { last_stream_id = n; streams = q.streams ++ record { number = n; remote_closed = ended; local_closed = false } ∷ []; outbox = with_stream n q.outbox })
s_added q n ended above s = record {
  same = numbers_added n q.outbox ∙ (ap (λ (ns : List ℕ). ns ++ n ∷ []) s.same ∙ sym (map-append number_of q.streams (record { number = n; remote_closed = ended; local_closed = false } ∷ [])));
  below = rw (numbers_added n q.outbox) (all_append (λ m. m < n + 1) (numbers q.outbox) (n ∷ []) (all_below (q.last_stream_id + 1) (n + 1) (omega (arith, above)) (numbers q.outbox) s.below) (omega arith, tt));
  low = s.low;
  rises = rw (numbers_added n q.outbox) (rises_push 0 (q.last_stream_id + 1) n (numbers q.outbox) (omega (arith, above)) (omega (arith, above)) s.below s.rises);
}

-- the state without its unfinished block, or with another
pub s_unblocked : (last_stream_id : ℕ) (streams : List Stream) (others : List ℕ) (u : Option OpenBlock) → Ties last_stream_id streams others u → Ties last_stream_id streams others None
s_unblocked last_stream_id streams others u s = record { same = s.same; below = s.below; low = tt; rises = s.rises }

pub s_blocked : (q : State) (u : OpenBlock) → u.stream < 2 ^ 31 → Sound q → Sound (record q { open_block = Some u })
s_blocked q u low s = record { same = s.same; below = s.below; low = low; rises = s.rises }

low_of : (h : Option OpenBlock) (u : OpenBlock) → h ≡ Some u → IsLow h → u.stream < 2 ^ 31
low_of h u e l = rw e at l

pub is_low : (q : State) (u : OpenBlock) → q.open_block ≡ Some u → Sound q → u.stream < 2 ^ 31
is_low q u e s = low_of q.open_block u e s.low

s_request : (n : ℕ) (q : State) → Sound q → Sound (request_ends n q)
unfolding request_ends
s_request n q s = at_cond (λ (r : State). Sound r) (is_local_closed n q.streams) (without_live_stream n q) (record q { streams = with_remote_closed n q.streams }) (s_closed n q s) (s_ending n q s)

-- ---- answers and a pull

s_cond : (b : Bool) (q : State) (o : Out) → numbers o ≡ numbers q.outbox → Sound q → Sound (cond b (record q { outbox = o }) q)
s_cond b q o e s = at_cond (λ (r : State). Sound r) b (record q { outbox = o }) q (s_outbox q o e s) s

pub s_headed_on : (n : ℕ) (block : List ℕ) (q : State) → Sound q → Sound (with_head_on n block q)
unfolding with_head_on
s_headed_on n block q s = s_cond (takes n q) q (with_head n block q.outbox) (numbers_headed n block q.outbox) s

pub s_finished_on : (n : ℕ) (block : List ℕ) (q : State) → Sound q → Sound (with_trailers_on n block q)
unfolding with_trailers_on
s_finished_on n block q s = s_cond (takes n q) q (with_trailers n block q.outbox) (numbers_closed n block q.outbox) s

pub s_offered_on : (n : ℕ) (message : List ℕ) (q : State) → Sound q → Sound (with_message_on n message q)
unfolding with_message_on
s_offered_on n message q s = s_cond (takes n q) q (with_message n message q.outbox) (numbers_offered n message q.outbox) s

pub s_withdrawn_on : (n : ℕ) (q : State) → Sound q → Sound (without_waiting_on n q)
unfolding without_waiting_on
s_withdrawn_on n q s = s_cond (takes n q) q (without_waiting n q.outbox) (numbers_withdrawn n q.outbox) s

pub s_reset_by : (n code : ℕ) (q : State) → Sound q → Sound (after_reset n code q)
unfolding after_reset
s_reset_by n code q s = at_cond (λ (r : State). Sound r) (is_live n q.streams) (without_live_stream n (with_control_frame n (Reset code) q)) q (s_closed n (with_control_frame n (Reset code) q) (s_queued n (Reset code) q s)) s

pub s_pulled : (last_stream_id : ℕ) (streams : List Stream) (o left : Out) (u : Option OpenBlock) → left ≡ (pull_of o).left → Ties last_stream_id streams (numbers o) u → Ties last_stream_id streams (numbers left) u
s_pulled last_stream_id streams o left u e s = rw (e, numbers_pulled o) s

-- ---- outcomes

-- the state holds, and what was told names streams that were live, by what was live before
pub data Good (last_stream_id : ℕ) (before : List Stream) : Outcome → Type 0 where
  silent : (q : State) → Sound q → Good last_stream_id before (goes q None)
  tells : (q : State) (told : Happening) → Sound q → Names last_stream_id before told q.streams → Good last_stream_id before (goes q (Some told))
  fell : (control : List ℕ) (f : ConnFault) → Good last_stream_id before (fails control f)

good_sound : (last_stream_id : ℕ) (before : List Stream) (o : Outcome) → Good last_stream_id before o → SoundAfter o
good_sound last_stream_id before _ (silent q s) = s
good_sound last_stream_id before _ (tells q told s n) = s
good_sound last_stream_id before _ (fell control f) = tt

good_names : (q : State) (o : Outcome) → Good q.last_stream_id q.streams o → NamesAfter q o
good_names q _ (silent r s) = tt
good_names q _ (tells r told s n) = n
good_names q _ (fell control f) = tt

-- on the way the state holds, and no stream comes or goes
abbrev Still : ℕ → List Stream → State → Type 0
Still last before q = Sound q × (q.streams ≡ before) × (q.last_stream_id ≡ last)

abbrev pub IsLowNumber : ℕ → Type 0
IsLowNumber n = n < 2 ^ 31

pub low_open : (block : Option OpenBlock) → IsLow block → IfOpen IsLowNumber block
low_open None low = tt
low_open (Some u) low = low

s_block : (q : State) (block : Option OpenBlock) → IfOpen IsLowNumber block → Sound q → Sound (record q { open_block = block })
s_block q None low s = s_unblocked q.last_stream_id q.streams (numbers q.outbox) q.open_block s
s_block q (Some u) low s = s_blocked q u low s

was_live : (last : ℕ) (before : List Stream) (q : State) (n : ℕ) → is_live n q.streams ≡ true → Still last before q → is_live n before ≡ true
was_live last before q n live h = subst (λ (ss : List Stream). is_live n ss ≡ true) h.1 live

goes_with : (last : ℕ) (before : List Stream) (q : State) (n : ℕ) → is_live n q.streams ≡ true → Still last before q → Good last before (goes (without_live_stream n q) (Some (happening.Gone n)))
unfolding without_live_stream
goes_with last before q n live h = tells (without_live_stream n q) (happening.Gone n) (s_closed n q h.0) (was_live last before q n live h, gone n q.streams)

opens_with : (last : ℕ) (before : List Stream) (q : State) (u : OpenBlock) (headers : List Header) → nat_lt q.last_stream_id u.stream ≡ true → Still last before q
    → Good last before (goes (record q { last_stream_id = u.stream; streams = q.streams ++ record { number = u.stream; remote_closed = u.ended; local_closed = false } ∷ []; outbox = with_stream u.stream q.outbox }) (Some (happening.Head u.stream headers u.ended)))
opens_with last before q u headers e h =
    tells _ (happening.Head u.stream headers u.ended) (s_added q u.stream u.ended (ltb-true q.last_stream_id u.stream e) h.0)
    (subst (λ (n : ℕ). nat_lt n u.stream ≡ true) h.2 e, comes u.stream u.ended false q.streams)

s_stepped : (q : State) (r : Result Out Overflow) (o : Out) → KeepsNumbers r q.outbox → r ≡ Ok o → Sound q → Sound (record q { outbox = o })
s_stepped q r o keeps e s = s_outbox q o (rw e at keeps) s

rows : (last : ℕ) (before : List Stream) → Rows IsLowNumber Any IsLowNumber (Still last before) (Good last before)
rows last before = record {
  root = omega arith;
  low = λ n own. own;
  counts = λ q first settings empty rapid h. h;
  goaway = λ q h. h;
  decoder = λ q d h. h;
  block = λ q block own h. (s_block q block own h.0, h.1, h.2);
  pong = λ q word h. (s_queued 0 (Ping true word) q h.0, h.1, h.2);
  grant = λ q n size low small h. (s_queued n (WindowUpdate size) q h.0, h.1, h.2);
  falls = λ q why h. fell _ _;
  quiet = λ q h. silent q h.0;
  opened = λ q u headers own e h. opens_with last before q u headers e h;
  refused = λ q u own e h. silent _ (s_queued u.stream (Reset REFUSED_STREAM) (record q { last_stream_id = u.stream }) (s_raised q u.stream (ltb-true q.last_stream_id u.stream e) h.0));
  content = λ q n bytes live h. tells q (happening.Body n bytes false) h.0 (was_live last before q n live h);
  last = λ q n bytes live h. tells (request_ends n q) (happening.Body n bytes true) (s_request n q h.0) (was_live last before q n live h);
  ended = λ q n live h. tells (request_ends n q) (happening.End n) (s_request n q h.0) (was_live last before q n live h);
  gone = λ q n live h. goes_with last before q n live h;
  reset = λ q n code low small live h. goes_with last before (with_control_frame n (Reset code) q) n live (s_queued n (Reset code) q h.0, h.1, h.2);
}

windows : (last : ℕ) (before : List Stream) → Windows (Still last before) (Good last before)
windows last before = record {
  ack = λ q h. (s_queued 0 SettingsAck q h.0, h.1, h.2);
  shrunk = λ q h. (s_outbox q (with_size_update q.outbox) (numbers_shrunk q.outbox) h.0, h.1, h.2);
  started = λ q value o e h. (s_stepped q (set_initial_window value q.outbox) o (numbers_initialed value q.outbox) e h.0, h.1, h.2);
  stepped = λ q n step o e h. silent (record q { outbox = o }) (s_stepped q (with_step n step q.outbox) o (numbers_grown n step q.outbox) e h.0);
}

good_peer : (q : State) (f : Frame) → f.stream < 2 ^ 31 → Sound q → Good q.last_stream_id q.streams (peer q f)
good_peer q f low s =
    walk IsLowNumber Any IsLowNumber (Still q.last_stream_id q.streams) (Good q.last_stream_id q.streams) (rows q.last_stream_id q.streams) (windows q.last_stream_id q.streams)
    q f (are_numbered IsLowNumber Any IsLowNumber q.open_block f.stream f.body low (λ size. tt) low (low_open q.open_block s.low)) (s, refl, refl)

pub peer_sound : (q : State) (f : Frame) → f.stream < 2 ^ 31 → Sound q → SoundAfter (peer q f)
peer_sound q f low s = good_sound q.last_stream_id q.streams (peer q f) (good_peer q f low s)

pub peer_names : (q : State) (f : Frame) → f.stream < 2 ^ 31 → Sound q → NamesAfter q (peer q f)
peer_names q f low s = good_names q (peer q f) (good_peer q f low s)

pub steps_sound : (q : State) (f : Frame) (result : Result (Option Happening) ConnError) (new : State) → Steps (peer q f) result new → Fits f → Sound q → OnOk result (Sound new)
steps_sound q f (Err e) new h fits s = tt
steps_sound q f (Ok told) new h fits s = rw h at (peer_sound q f fits.0 s)

pub names_on : (l : Phase) (f : Frame) → Fits f → SoundPhase l → NamesOn l f
names_on (Open q) f fits s = peer_names q f fits.0 s
names_on (Failed fault left totals) f fits s = tt
names_on (OutOfMemory totals) f fits s = tt
