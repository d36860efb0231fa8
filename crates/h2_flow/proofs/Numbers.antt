-- What each call does to the numbers of the streams.
use Rattle.std.proofs.Common.{◌≡◌, inl, inr, ℕ, zero, suc, ◌+◌, ◌==◌, Bool, true, false, not, cond, nat_lt, pos, ◌+ℤ◌, List, [], ◌∷◌, ◌++◌, map, filter, length, take, drop, get_or, set, Option, Some, None, Result, Ok, Err, refl, sym, ap, ◌∙◌, int_lt}
use Rattle.std.proofs.lemmas.Bool.{cases_Bool}
use Rattle.std.proofs.lemmas.List.{map-append, take-append-drop}
use Rattle.std.proofs.Math.Seq.{map-set_same}
use Rattle.h2_flow.proofs.Common.{MAX_WINDOW_SIZE, Flow, Stream, window_of, allowed_of, Sent, Turn, headers_turn, data_turn, last_turn, next_turn, body_turn, head_turn, turn, Round, round, rounds, all_work, all_rounds, Out, is_number, update_stream, new_stream, with_offer, with_stream, without_stream, with_control, with_size_update, with_head, with_message, without_waiting, with_trailers, credit_of, with_connection_step, with_stream_step, with_step, first_over, with_initial, set_initial_window, pull_of, numbers}
use Rattle.h2_flow.specs.declared.overflow.Overflow.{Overflow}
use Rattle.h2_flow.proofs.Rounds.{SoFar, Left}

-- ---- one stream is changed

pub changed_numbers : (n : ℕ) (f : Stream → Stream) → ((s : Stream) → (f s).number ≡ s.number) → (ss : List Stream) → map (λ s. s.number) (update_stream n f ss) ≡ map (λ s. s.number) ss
changed_numbers n f keeps [] = refl
changed_numbers n f keeps (s ∷ ss) =
    elim (cases_Bool (s.number == n)) [
      | inl here ↦ rw (here, keeps s) refl
      | inr here ↦ rw (here, changed_numbers n f keeps ss) refl
    ]

pub numbers_added : (n : ℕ) (o : Out) → numbers (with_stream n o) ≡ numbers o ++ n ∷ []
unfolding with_stream
numbers_added n o = map-append (λ s. s.number) o.streams (new_stream n ∷ [])

filter_numbers : (n : ℕ) (ss : List Stream) → map (λ s. s.number) (filter (λ s. not (is_number n s)) ss) ≡ filter (λ m. not (m == n)) (map (λ s. s.number) ss)
filter_numbers n [] = refl
filter_numbers n (s ∷ ss) =
    elim (cases_Bool (s.number == n)) [
      | inl here ↦ rw here (filter_numbers n ss)
      | inr here ↦ rw (here, filter_numbers n ss) refl
    ]

pub numbers_removed : (n : ℕ) (o : Out) → numbers (without_stream n o) ≡ filter (λ m. not (m == n)) (numbers o)
unfolding without_stream
numbers_removed n o = filter_numbers n o.streams

pub numbers_controlled : (frame : List ℕ) (o : Out) → numbers (with_control frame o) ≡ numbers o
unfolding with_control
numbers_controlled frame o = refl

pub numbers_shrunk : (o : Out) → numbers (with_size_update o) ≡ numbers o
unfolding with_size_update
numbers_shrunk o = refl

pub numbers_headed : (n : ℕ) (block : List ℕ) (o : Out) → numbers (with_head n block o) ≡ numbers o
unfolding with_head
numbers_headed n block o = changed_numbers n (λ s. record s { head = Some block }) (λ s. refl) o.streams

pub numbers_offered : (n : ℕ) (message : List ℕ) (o : Out) → numbers (with_message n message o) ≡ numbers o
unfolding with_message
numbers_offered n message o = changed_numbers n (with_offer message) (λ s. refl) o.streams

pub numbers_withdrawn : (n : ℕ) (o : Out) → numbers (without_waiting n o) ≡ numbers o
unfolding without_waiting
numbers_withdrawn n o = changed_numbers n (λ s. record s { waiting = None }) (λ s. refl) o.streams

pub numbers_closed : (n : ℕ) (block : List ℕ) (o : Out) → numbers (with_trailers n block o) ≡ numbers o
unfolding with_trailers
numbers_closed n block o = changed_numbers n (λ s. record s { trailers = Some block; finished = true }) (λ s. refl) o.streams

-- ---- windows

abbrev pub KeepsNumbers : Result Out Overflow → Out → Type 0
KeepsNumbers (Ok new) o = numbers new ≡ numbers o
KeepsNumbers (Err e) o = Unit {0}

keeps_cond : (b : Bool) (x y : Result Out Overflow) (o : Out) → KeepsNumbers x o → KeepsNumbers y o → KeepsNumbers (cond b x y) o
keeps_cond true x y o h k = h
keeps_cond false x y o h k = k

keeps_room : (step : ℕ) (o : Out) → KeepsNumbers (with_connection_step step o) o
unfolding with_connection_step
keeps_room step o = keeps_cond (nat_lt MAX_WINDOW_SIZE (o.flow.connection_window + step)) _ _ o tt refl

keeps_stream : (n step : ℕ) (o : Out) → KeepsNumbers (with_stream_step n step o) o
unfolding with_stream_step
keeps_stream n step o = keeps_cond (int_lt (pos MAX_WINDOW_SIZE) (window_of o.flow.initial_window_size (credit_of n o.streams) +ℤ pos step)) _ _ o tt (changed_numbers n (λ s. record s { credit = s.credit +ℤ pos step }) (λ s. refl) o.streams)

pub numbers_grown : (n step : ℕ) (o : Out) → KeepsNumbers (with_step n step o) o
unfolding with_step
numbers_grown n step o = keeps_cond (n == 0) (with_connection_step step o) (with_stream_step n step o) o (keeps_room step o) (keeps_stream n step o)

keeps_initial : (value : ℕ) (o : Out) (first : Option ℕ) → KeepsNumbers (with_initial value o first) o
keeps_initial value o None = refl
keeps_initial value o (Some n) = tt

pub numbers_initialed : (value : ℕ) (o : Out) → KeepsNumbers (set_initial_window value o) o
unfolding set_initial_window
numbers_initialed value o = keeps_initial value o (first_over value o.streams)

-- ---- a pull

turn_cond : (b : Bool) (x y : Turn) (n : ℕ) → x.stream.number ≡ n → y.stream.number ≡ n → (cond b x y).stream.number ≡ n
turn_cond true x y n h k = h
turn_cond false x y n h k = k

number_headers : (f : Flow) (s : Stream) (block : List ℕ) (ended : Bool) → (headers_turn f s block ended).stream.number ≡ s.number
unfolding headers_turn
number_headers f s block ended = refl

number_data : (f : Flow) (s : Stream) → (data_turn f s).stream.number ≡ s.number
unfolding data_turn
number_data f s = turn_cond (allowed_of f s.credit (length (drop s.sent s.last)) == 0) _ _ s.number refl refl

number_last : (f : Flow) (s : Stream) (t : Option (List ℕ)) → (last_turn f s t).stream.number ≡ s.number
unfolding last_turn
number_last f s None = refl
number_last f s (Some block) = number_headers f (record s { trailers = None }) block true

pub number_next : (f : Flow) (s : Stream) (w : Option (List ℕ)) → (next_turn f s w).stream.number ≡ s.number
unfolding next_turn
number_next f s None = number_last f s s.trailers
number_next f s (Some message) = turn_cond (allowed_of f s.credit (length message) == 0) _ _ s.number refl (number_data (record f { begun = f.begun + 1 }) (record s { last = message; sent = 0; waiting = None }))

number_body : (f : Flow) (s : Stream) → (body_turn f s).stream.number ≡ s.number
unfolding body_turn
number_body f s = turn_cond (nat_lt s.sent (length s.last)) _ _ s.number (number_data f s) (number_next f s s.waiting)

number_head : (f : Flow) (s : Stream) (h : Option (List ℕ)) → (head_turn f s h).stream.number ≡ s.number
number_head f s None = number_body f s
number_head f s (Some block) = number_headers f (record s { head = None }) block false

pub number_turn : (f : Flow) (s : Stream) → (turn f s).stream.number ≡ s.number
unfolding turn
number_turn f s = number_head f s s.head

pub numbers_round : (f : Flow) (ss : List Stream) → map (λ s. s.number) (round f ss).streams ≡ map (λ s. s.number) ss
unfolding round
numbers_round f [] = refl
numbers_round f (s ∷ ss) = rw (number_turn f s, numbers_round (turn f s).flow ss) refl

round_cond : (b : Bool) (x y : Round) (ns : List ℕ) → map (λ s. s.number) x.streams ≡ ns → map (λ s. s.number) y.streams ≡ ns → map (λ s. s.number) (cond b x y).streams ≡ ns
round_cond true x y ns h k = h
round_cond false x y ns h k = k

pub numbers_rounds : (n : ℕ) (f : Flow) (ss : List Stream) → map (λ s. s.number) (rounds n f ss).streams ≡ map (λ s. s.number) ss
unfolding rounds
numbers_rounds zero f ss = refl
numbers_rounds (suc n) f ss = round_cond (length (round f ss).sent == 0) _ _ _ (numbers_round f ss) (numbers_rounds n (round f ss).flow (round f ss).streams ∙ numbers_round f ss)

pub numbers_all : (f : Flow) (ss : List Stream) → map (λ s. s.number) (all_rounds f ss).streams ≡ map (λ s. s.number) ss
unfolding all_rounds
numbers_all f ss = numbers_rounds (all_work ss + 1) f ss

-- in a round that did not come to its end
pub so_far_numbers : (f : Flow) (ss : List Stream) (done : List Sent) (xs : List Stream) (i : ℕ) (g : Flow) (d new : Stream) → new.number ≡ (turn g (get_or xs i d)).stream.number → SoFar f ss done (take i xs) (drop i xs) g → map (λ s. s.number) (set xs i new) ≡ map (λ s. s.number) (round f ss).streams
so_far_numbers f ss done xs i g d new same so =
    map-set_same (λ (s : Stream). s.number) xs i new d (same ∙ number_turn g (get_or xs i d)) ∙ whole
  where
    parts : map (λ (s : Stream). s.number) xs ≡ map (λ (s : Stream). s.number) (take i xs) ++ map (λ (s : Stream). s.number) (drop i xs)
    parts = ap (map (λ (s : Stream). s.number)) (sym (take-append-drop i xs)) ∙ map-append (λ (s : Stream). s.number) (take i xs) (drop i xs)

    whole : map (λ (s : Stream). s.number) xs ≡ map (λ (s : Stream). s.number) (round f ss).streams
    whole = rw so.whole (parts ∙ ap (λ ns. map (λ (s : Stream). s.number) (take i xs) ++ ns) (sym (numbers_round g (drop i xs))) ∙ sym (map-append (λ (s : Stream). s.number) (take i xs) (round g (drop i xs)).streams))

pub left_numbers : (f : Flow) (ss : List Stream) (done : List Sent) (g : Flow) (left new : List Stream) → Left f ss done g left → map (λ s. s.number) new ≡ map (λ s. s.number) (round g left).streams → map (λ s. s.number) new ≡ map (λ s. s.number) (all_rounds f ss).streams
left_numbers f ss done g left new so same = same ∙ numbers_round g left ∙ sym (rw so.whole (numbers_all g left))

pub numbers_pulled : (o : Out) → numbers (pull_of o).left ≡ numbers o
unfolding pull_of all_rounds
numbers_pulled o = numbers_rounds (all_work o.streams + 1) o.flow o.streams
