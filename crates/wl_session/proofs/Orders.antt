-- What is said on one stream and on another may be said in either order.
use Rattle.std.proofs.Common.{◌≡◌, inl, inr, ℕ, ◌==◌, Bool, true, false, not, ◌&&◌, ◌||◌, cond, if◌then◌else◌, List, [], ◌∷◌, Option, Some, None, refl, sym, ap, ◌∙◌, eqb-true}
use Rattle.std.proofs.lemmas.Bool.{cases_Bool}
use Rattle.std.specs.List.{list_any}
use Rattle.wl_session.proofs.Common.{block_bytes, Phase, Open, Failed, OutOfMemory, State, is_live, with_head_on, with_trailers_on, on_open, offers, withdraws, framed, response_fields, trailer_fields, refused_fields, Refusal, NoIdentity, LongResponse, UnknownService, spell_state, Publication, ViewModel, view_in, answer_of, asks_of, Answer, Denied, Wait, TooLong, Message, Method3, Wanted, CallKind, Stage, Unnamed, Ready, Asking, ServedCall, was_seen, Turned, goes_on, has_ended, with_last_message, with_refusal, stream_answer, health_of, token_answer, call_answer, stage_turn, call_turn, calls_turn}
use Rattle.h2_flow.specs.declared.stream.Stream.{Stream}
use Rattle.h2_flow.specs.Outboxes.{is_number, update_stream, with_offer, with_head, with_message, without_waiting, with_trailers}
use Rattle.h2_conn.specs.Conns.{takes, with_message_on, without_waiting_on}
use Rattle.h2_flow.proofs.Offers.{changed_here, changed_past}
use Rattle.wl_session.specs.declared.served.CallKind.TheVariants as kinds
use Rattle.wl_session.specs.Answering.{with_head as with_first_head, with_message as with_message_behind}

-- ---- two streams of an outbox

abbrev Renumbers : (Stream → Stream) → Type 0
Renumbers f = (s : Stream) → (f s).number ≡ s.number

unlike : (m n k : ℕ) → (n ≡ k → ⊥) → (m == n) ≡ true → (m == k) ≡ false
unlike m n k other here =
    elim (cases_Bool (m == k)) [
      | inl there ↦ absurd (other (sym (eqb-true m n here) ∙ eqb-true m k there))
      | inr past ↦ past
    ]

-- two streams are changed in either order
both_changed : (n k : ℕ) (f g : Stream → Stream) → Renumbers f → Renumbers g → (n ≡ k → ⊥) → (ss : List Stream) → update_stream n f (update_stream k g ss) ≡ update_stream k g (update_stream n f ss)
both_changed n k f g keeps stays other [] = refl
both_changed n k f g keeps stays other (s ∷ ss) =
    elim (cases_Bool (s.number == n)) [
      | inl here ↦
          let past : (s.number == k) ≡ false = unlike s.number n k other here in
          let still : ((f s).number == k) ≡ false = ap (λ (m : ℕ). m == k) (keeps s) ∙ past in
          ap (update_stream n f) (changed_past k g s ss past) ∙ (changed_here n f s (update_stream k g ss) here
          ∙ sym (ap (update_stream k g) (changed_here n f s ss here) ∙ changed_past k g (f s) ss still))
      | inr past ↦ elim (cases_Bool (s.number == k)) [
        | inl here ↦
            let still : ((g s).number == n) ≡ false = ap (λ (m : ℕ). m == n) (stays s) ∙ past in
            ap (update_stream n f) (changed_here k g s ss here) ∙ (changed_past n f (g s) ss still
            ∙ sym (ap (update_stream k g) (changed_past n f s ss past) ∙ changed_here k g s (update_stream n f ss) here))
        | inr behind ↦
            ap (update_stream n f) (changed_past k g s ss behind) ∙ (changed_past n f s (update_stream k g ss) past
            ∙ (ap (λ (xs : List Stream). s ∷ xs) (both_changed n k f g keeps stays other ss)
            ∙ sym (ap (update_stream k g) (changed_past n f s ss past) ∙ changed_past k g s (update_stream n f ss) behind)))
      ]
    ]

abbrev is_open_at : ℕ → Stream → Bool
is_open_at n s = is_number n s && not s.finished

not_there : (n : ℕ) (s : Stream) → (s.number == n) ≡ false → is_open_at n s ≡ false
not_there n s past = rw past refl

-- a change of one stream leaves another one open or not
open_still : (n k : ℕ) (g : Stream → Stream) → Renumbers g → (n ≡ k → ⊥) → (ss : List Stream) → list_any (is_open_at n) (update_stream k g ss) ≡ list_any (is_open_at n) ss
open_still n k g stays other [] = refl
open_still n k g stays other (s ∷ ss) =
    elim (cases_Bool (s.number == k)) [
      | inl here ↦
          let past : (s.number == n) ≡ false = unlike s.number k n (λ e. other (sym e)) here in
          let still : ((g s).number == n) ≡ false = ap (λ (m : ℕ). m == n) (stays s) ∙ past in
          ap (list_any (is_open_at n)) (changed_here k g s ss here) ∙ ap (λ (b : Bool). b || list_any (is_open_at n) ss) (not_there n (g s) still ∙ sym (not_there n s past))
      | inr past ↦
          ap (list_any (is_open_at n)) (changed_past k g s ss past) ∙ ap (λ (b : Bool). is_open_at n s || b) (open_still n k g stays other ss)
    ]

-- ---- two streams of a connection

abbrev changed : ℕ → (Stream → Stream) → State → State
changed k f q = record q { outbox = record q.outbox { streams = update_stream k f q.outbox.streams } }

abbrev on_stream : ℕ → (Stream → Stream) → State → State
on_stream k f q = if takes k q then changed k f q else q

abbrev on_phase : ℕ → (Stream → Stream) → Phase → Phase
on_phase k f p = on_open (on_stream k f) p

takes_still : (n k : ℕ) (g : Stream → Stream) → Renumbers g → (n ≡ k → ⊥) → (q : State) → takes n (changed k g q) ≡ takes n q
takes_still n k g stays other q = ap (λ (b : Bool). is_live n q.streams && b) (open_still n k g stays other q.outbox.streams)

behind : (n k : ℕ) (f g : Stream → Stream) → Renumbers g → (n ≡ k → ⊥) → (q : State) (b : Bool) → on_stream n f (cond b (changed k g q) q) ≡ cond (takes n q) (cond b (changed n f (changed k g q)) (changed n f q)) (cond b (changed k g q) q)
behind n k f g stays other q true = ap (λ (a : Bool). cond a (changed n f (changed k g q)) (changed k g q)) (takes_still n k g stays other q)
behind n k f g stays other q false = refl

crossed : (a b : Bool) (both one other none : State) → cond a (cond b both one) (cond b other none) ≡ cond b (cond a both other) (cond a one none)
crossed true true both one other none = refl
crossed true false both one other none = refl
crossed false true both one other none = refl
crossed false false both one other none = refl

states_commute : (n k : ℕ) (f g : Stream → Stream) → Renumbers f → Renumbers g → (n ≡ k → ⊥) → (q : State) → on_stream n f (on_stream k g q) ≡ on_stream k g (on_stream n f q)
states_commute n k f g keeps stays other q =
    behind n k f g stays other q (takes k q)
    ∙ (crossed (takes n q) (takes k q) (changed n f (changed k g q)) (changed n f q) (changed k g q) q
    ∙ (ap (λ (r : State). cond (takes k q) (cond (takes n q) r (changed k g q)) (cond (takes n q) (changed n f q) q)) (ap (λ (ss : List Stream). record q { outbox = record q.outbox { streams = ss } }) (both_changed n k f g keeps stays other q.outbox.streams))
    ∙ sym (behind k n g f keeps (λ e. other (sym e)) q (takes n q))))

phases_commute : (n k : ℕ) (f g : Stream → Stream) → Renumbers f → Renumbers g → (n ≡ k → ⊥) → (p : Phase) → on_phase n f (on_phase k g p) ≡ on_phase k g (on_phase n f p)
phases_commute n k f g keeps stays other (Open q) = ap Open (states_commute n k f g keeps stays other q)
phases_commute n k f g keeps stays other (Failed fault left totals) = refl
phases_commute n k f g keeps stays other (OutOfMemory totals) = refl

-- ---- what speaks on one stream

-- it may be done before or after each change of this stream
abbrev Apart : ℕ → (Phase → Phase) → Type 0
Apart k act = (g : Stream → Stream) → Renumbers g → (p : Phase) → act (on_phase k g p) ≡ on_phase k g (act p)

-- it is made of changes of this stream
abbrev Speaks : ℕ → (Phase → Phase) → Type 0
Speaks k say = (act : Phase → Phase) → Apart k act → (p : Phase) → act (say p) ≡ say (act p)

speaks_once : (k : ℕ) (g : Stream → Stream) → Renumbers g → Speaks k (on_phase k g)
speaks_once k g stays act apart p = apart g stays p

says_nothing : (k : ℕ) → Speaks k (λ p. p)
says_nothing k act apart p = refl

speaks_twice : (k : ℕ) (say more : Phase → Phase) → Speaks k say → Speaks k more → Speaks k (λ p. more (say p))
speaks_twice k say more one two act apart p = two act apart (say p) ∙ ap more (one act apart p)

-- what speaks on another stream is apart
is_apart : (n k : ℕ) (say : Phase → Phase) → Speaks n say → (n ≡ k → ⊥) → Apart k say
is_apart n k say speaks other g stays p = sym (speaks (on_phase k g) (λ f keeps r. phases_commute k n g f stays keeps (λ e. other (sym e)) r) p)

either_order : (n k : ℕ) (say more : Phase → Phase) → Speaks n say → Speaks k more → (n ≡ k → ⊥) → (p : Phase) → say (more p) ≡ more (say p)
either_order n k say more one two other p = two say (is_apart n k say one other) p

-- ---- answers

withdrawal_speaks : (n : ℕ) → Speaks n (withdraws n)
unfolding without_waiting_on without_waiting
withdrawal_speaks n = speaks_once n (λ s. record s { waiting = None }) (λ s. refl)

trailers_speak : (n : ℕ) (block : List ℕ) → Speaks n (λ p. on_open (with_trailers_on n block) p)
unfolding with_trailers_on with_trailers
trailers_speak n block = speaks_once n (λ s. record s { trailers = Some block; finished = true }) (λ s. refl)

head_speaks : (n : ℕ) (block : List ℕ) → Speaks n (λ p. on_open (with_head_on n block) p)
unfolding with_head_on with_head
head_speaks n block = speaks_once n (λ s. record s { head = Some block }) (λ s. refl)

offer_speaks : (n : ℕ) (m : List ℕ) → Speaks n (offers n m)
unfolding with_message_on with_message
offer_speaks n m = speaks_once n (with_offer m) (λ s. refl)

first_speaks : (n : ℕ) (headed : Bool) → Speaks n (λ p. with_first_head n headed p)
unfolding with_first_head
first_speaks n true = says_nothing n
first_speaks n false = head_speaks n (block_bytes response_fields)

message_speaks : (n : ℕ) (headed : Bool) (m : List ℕ) → Speaks n (λ p. with_message_behind n headed m p)
unfolding with_message_behind
message_speaks n headed m = speaks_twice n (λ p. with_first_head n headed p) (offers n (framed m)) (first_speaks n headed) (offer_speaks n (framed m))

last_speaks : (n : ℕ) (headed : Bool) (m : List ℕ) → Speaks n (λ p. with_last_message n headed m p)
unfolding with_last_message
last_speaks n headed m = speaks_twice n (λ p. with_message_behind n headed m p) (λ p. on_open (with_trailers_on n (block_bytes (trailer_fields 0 [] false))) p) (message_speaks n headed m) (trailers_speak n (block_bytes (trailer_fields 0 [] false)))

refusal_speaks : (n : ℕ) (headed : Bool) (r : Refusal) → Speaks n (λ p. with_refusal n headed r p)
unfolding with_refusal
refusal_speaks n headed r = speaks_twice n (withdraws n) (λ p. on_open (with_trailers_on n (block_bytes (refused_fields r (not headed)))) p) (withdrawal_speaks n) (trailers_speak n (block_bytes (refused_fields r (not headed))))

-- ---- a call's turn

-- what it says is said on its stream, and what becomes of the call is the same on every connection
record Alone (n : ℕ) (turn : Phase → Turned) : Type 0 where
  speaks : Speaks n (λ p. (turn p).phase)
  kept : (p q : Phase) → (turn p).kept ≡ (turn q).kept

stream_alone : (n : ℕ) (method : Method3) (sel : List (List ℕ)) (v : ViewModel) (headed : Bool) (a : Answer) → Alone n (stream_answer n method sel v headed a)
stream_alone n method sel v headed Denied = record { speaks = refusal_speaks n headed NoIdentity; kept = λ p q. refl }
stream_alone n method sel v headed Wait = record { speaks = withdrawal_speaks n; kept = λ p q. refl }
stream_alone n method sel v headed (TooLong size) = record { speaks = refusal_speaks n headed LongResponse; kept = λ p q. refl }
stream_alone n method sel v headed (Message m) = record { speaks = message_speaks n headed m; kept = λ p q. refl }

token_alone : (n : ℕ) (headed : Bool) (audience : List (List ℕ)) (ws : List Wanted) → Alone n (token_answer n headed audience ws)
token_alone n headed audience [] = record { speaks = refusal_speaks n headed NoIdentity; kept = λ p q. refl }
token_alone n headed audience (w ∷ ws) = record { speaks = says_nothing n; kept = λ p q. refl }

check_alone : (n : ℕ) (headed : Bool) (state : ℕ) (b : Bool) → Alone n (λ p. if b then has_ended (with_refusal n headed UnknownService p) else has_ended (with_last_message n headed (spell_state state) p))
check_alone n headed state true = record { speaks = refusal_speaks n headed UnknownService; kept = λ p q. refl }
check_alone n headed state false = record { speaks = last_speaks n headed (spell_state state); kept = λ p q. refl }

answer_alone : (n : ℕ) (kind : CallKind) (sel : List (List ℕ)) (headed : Bool) (v : ViewModel) → Alone n (λ p. call_answer n kind sel headed v p)
unfolding call_answer
answer_alone n (kinds.Stream method) sel headed v = stream_alone n method sel v headed (answer_of method v)
answer_alone n (kinds.Tokens audience id) sel headed v = token_alone n headed audience (asks_of id v)
answer_alone n (kinds.Check service) sel headed v = check_alone n headed (health_of service v) (health_of service v == 3)
answer_alone n (kinds.Watch service) sel headed v = record { speaks = message_speaks n headed (spell_state (health_of service v)); kept = λ p q. refl }

new_alone : (n : ℕ) (kind : CallKind) (sel : List (List ℕ)) (seen : Option ViewModel) (headed : Bool) (v : ViewModel) (b : Bool) → Alone n (λ p. if b then goes_on n (Ready kind sel seen headed) p else call_answer n kind sel headed v p)
new_alone n kind sel seen headed v true = record { speaks = says_nothing n; kept = λ p q. refl }
new_alone n kind sel seen headed v false = answer_alone n kind sel headed v

stage_alone : (x : Publication) (n : ℕ) (s : Stage) → Alone n (stage_turn x n s)
stage_alone x n (Unnamed kind) = record { speaks = says_nothing n; kept = λ p q. refl }
stage_alone x n (Ready kind sel seen headed) = new_alone n kind sel seen headed (view_in x sel) (was_seen seen (view_in x sel))
stage_alone x n (Asking first rest got) = record { speaks = says_nothing n; kept = λ p q. refl }

call_alone : (x : Publication) (c : ServedCall) → Alone c.stream (λ p. call_turn x c p)
unfolding call_turn
call_alone x c = stage_alone x c.stream c.stage

-- ---- turns

-- what becomes of a call does not depend on the connection
pub kept_alone : (x : Publication) (c : ServedCall) (p q : Phase) → (call_turn x c p).kept ≡ (call_turn x c q).kept
kept_alone x c p q = (call_alone x c).kept p q

-- calls on two streams take their turns in either order
pub turns_commute : (x y : Publication) (c d : ServedCall) (p : Phase) → (c.stream ≡ d.stream → ⊥) → (call_turn x c (call_turn y d p).phase).phase ≡ (call_turn y d (call_turn x c p).phase).phase
turns_commute x y c d p other = either_order c.stream d.stream (λ r. (call_turn x c r).phase) (λ r. (call_turn y d r).phase) (call_alone x c).speaks (call_alone y d).speaks other p

-- also where others take theirs after them
pub calls_commute : (x : Publication) (c d : ServedCall) (cs : List ServedCall) (p : Phase) → (c.stream ≡ d.stream → ⊥) → (calls_turn x (d ∷ c ∷ cs) p).phase ≡ (calls_turn x (c ∷ d ∷ cs) p).phase
unfolding calls_turn
calls_commute x c d cs p other = ap (λ (r : Phase). (calls_turn x cs r).phase) (turns_commute x x c d p other)
