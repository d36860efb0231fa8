-- Which calls are refused on a view, and what the others are offered.
use Rattle.std.specs.Prelude.{◌≡◌, ℕ, ◌==◌, nat_lt, Bool, true, false, if◌then◌else◌, List, [], ◌∷◌, length, Some, None}
use Rattle.std.proofs.Common.{refl, ◌∙◌, ap, arith}
use Rattle.std.proofs.lemmas.Bool.Decides.{nat_tests}
use Rattle.wl_session.proofs.Common.{Phase, Refusal, NoIdentity, LongResponse, UnknownService, capped, ViewModel, answer_of, asks_of, Answer, Denied, Wait, TooLong, Message, Method3, Wanted, Stream, Tokens, Check, Watch, call_answer, stream_answer, token_answer, has_ended, with_refusal, with_last_message, health_of, spell_state}
use Rattle.workload_proto.specs.declared.limits.TheConstants.{MAX_RESPONSE_LEN}
use Rattle.wl_snapshot.specs.Answers.{message_of, waits, within_limit}
use Rattle.wl_session.specs.Refusing.{stream_refusal, token_refusal, RefusedCallEnds, NoIdentityExactly, UnknownServiceExactly, MessageIsOfView, HealthIsOfView}

-- ---- a call that is refused ends so

stream_ends : (n : ℕ) (method : Method3) (sel : List (List ℕ)) (headed : Bool) (v : ViewModel) (p : Phase) (r : Refusal) (a : Answer) → stream_refusal a ≡ Some r → stream_answer n method sel v headed a p ≡ has_ended (with_refusal n headed r p)
stream_ends n method sel headed v p r Denied is = let same : NoIdentity ≡ r = cc is in ap (λ (s : Refusal). has_ended (with_refusal n headed s p)) same
stream_ends n method sel headed v p r Wait is = cc is
stream_ends n method sel headed v p r (TooLong size) is = let same : LongResponse ≡ r = cc is in ap (λ (s : Refusal). has_ended (with_refusal n headed s p)) same
stream_ends n method sel headed v p r (Message m) is = cc is

tokens_end : (n : ℕ) (headed : Bool) (audience : List (List ℕ)) (p : Phase) (r : Refusal) (ws : List Wanted) → token_refusal ws ≡ Some r → token_answer n headed audience ws p ≡ has_ended (with_refusal n headed r p)
tokens_end n headed audience p r [] is = let same : NoIdentity ≡ r = cc is in ap (λ (s : Refusal). has_ended (with_refusal n headed s p)) same
tokens_end n headed audience p r (w ∷ ws) is = cc is

check_ends : (n : ℕ) (headed : Bool) (state : ℕ) (p : Phase) (r : Refusal) (b : Bool) → (if b then Some UnknownService else None) ≡ Some r
    → (if b then has_ended (with_refusal n headed UnknownService p) else has_ended (with_last_message n headed (spell_state state) p)) ≡ has_ended (with_refusal n headed r p)
check_ends n headed state p r true is = let same : UnknownService ≡ r = cc is in ap (λ (s : Refusal). has_ended (with_refusal n headed s p)) same
check_ends n headed state p r false is = cc is

pub refused_ends : RefusedCallEnds
unfolding call_answer
refused_ends n (Stream method) sel headed v p r is = stream_ends n method sel headed v p r (answer_of method v) is
refused_ends n (Tokens audience id) sel headed v p r is = tokens_end n headed audience p r (asks_of id v) is
refused_ends n (Check service) sel headed v p r is = check_ends n headed (health_of service v) p r (health_of service v == 3) is
refused_ends n (Watch service) sel headed v p r is = cc is

-- ---- status 7

none_there : {X : Type 0} (xs : List X) → (length xs == 0) ≡ true → xs ≡ []
none_there [] is = refl
none_there (x ∷ xs) is = absurd (grind (arith, nat_tests, is))

within_refusal : (m : List ℕ) (b : Bool) → stream_refusal (if b then TooLong (capped (length m)) else Message m) ≡ Some NoIdentity → ⊥
within_refusal m true is = cc is
within_refusal m false is = cc is

seen_refusal : (w : Bool) (m : List ℕ) → stream_refusal (if w then Wait else within_limit m) ≡ Some NoIdentity → ⊥
seen_refusal true m is = cc is
seen_refusal false m is = within_refusal m (nat_lt MAX_RESPONSE_LEN (capped (length m))) is

stream_seven : (method : Method3) (v : ViewModel) (b : Bool) → (length v.held == 0) ≡ b → stream_refusal (if b then Denied else if waits method v then Wait else within_limit (message_of method v)) ≡ Some NoIdentity → v.held ≡ []
stream_seven method v true at is = none_there v.held at
stream_seven method v false at is = absurd (seen_refusal (waits method v) (message_of method v) is)

denied : (method : Method3) (v : ViewModel) → v.held ≡ [] → answer_of method v ≡ Denied
unfolding answer_of
denied method v none = ap (λ (b : Bool). if b then Denied else if waits method v then Wait else within_limit (message_of method v)) (ap (λ (hs : List _). length hs == 0) none)

seven_of : (method : Method3) (v : ViewModel) → stream_refusal (answer_of method v) ≡ Some NoIdentity → v.held ≡ []
unfolding answer_of
seven_of method v is = stream_seven method v (length v.held == 0) refl is

tokens_seven : (ws : List Wanted) → token_refusal ws ≡ Some NoIdentity → ws ≡ []
tokens_seven [] is = refl
tokens_seven (w ∷ ws) is = cc is

check_seven : (b : Bool) → (if b then Some UnknownService else None) ≡ Some NoIdentity → ⊥
check_seven true is = cc is
check_seven false is = cc is

pub no_identity : NoIdentityExactly
no_identity (Stream method) v = (seven_of method v, λ none. ap stream_refusal (denied method v none))
no_identity (Tokens audience id) v = (tokens_seven (asks_of id v), λ none. ap token_refusal none)
no_identity (Check service) v = (check_seven (health_of service v == 3), λ none. absurd none)
no_identity (Watch service) v = ((λ is. cc is), λ none. absurd none)

-- ---- status 5

stream_five : (a : Answer) → stream_refusal a ≡ Some UnknownService → ⊥
stream_five Denied is = cc is
stream_five Wait is = cc is
stream_five (TooLong size) is = cc is
stream_five (Message m) is = cc is

tokens_five : (ws : List Wanted) → token_refusal ws ≡ Some UnknownService → ⊥
tokens_five [] is = cc is
tokens_five (w ∷ ws) is = cc is

check_five : (state : ℕ) (b : Bool) → (state == 3) ≡ b → (if b then Some UnknownService else None) ≡ Some UnknownService → state ≡ 3
check_five state true at is = grind (arith, nat_tests, at)
check_five state false at is = cc is

pub unknown_service : UnknownServiceExactly
unknown_service (Stream method) v = (stream_five (answer_of method v), λ none. absurd none)
unknown_service (Tokens audience id) v = (tokens_five (asks_of id v), λ none. absurd none)
unknown_service (Check service) v = (check_five (health_of service v) (health_of service v == 3) refl, λ three. ap (λ (state : ℕ). if state == 3 then Some UnknownService else None) three)
unknown_service (Watch service) v = ((λ is. cc is), λ none. absurd none)

-- ---- messages

limited_is : (m w : List ℕ) (b : Bool) → (if b then TooLong (capped (length w)) else Message w) ≡ Message m → m ≡ w
limited_is m w true is = cc is
limited_is m w false is = cc is

waited_is : (m w : List ℕ) (b : Bool) → (if b then Wait else within_limit w) ≡ Message m → m ≡ w
waited_is m w true is = cc is
waited_is m w false is = limited_is m w (nat_lt MAX_RESPONSE_LEN (capped (length w))) is

answered_is : (m w : List ℕ) (b c : Bool) → (if b then Denied else if c then Wait else within_limit w) ≡ Message m → m ≡ w
answered_is m w true c is = cc is
answered_is m w false c is = waited_is m w c is

message_is : (method : Method3) (v : ViewModel) (m : List ℕ) → answer_of method v ≡ Message m → m ≡ message_of method v
unfolding answer_of
message_is method v m is = answered_is m (message_of method v) (length v.held == 0) (waits method v) is

pub of_view : MessageIsOfView
unfolding call_answer
of_view n method sel headed v p m is =
    let same = message_is method v m is in (same, ap (λ (a : Answer). stream_answer n method sel v headed a p) (is ∙ ap Message same))

pub health_of_view : HealthIsOfView
unfolding call_answer
health_of_view n service sel headed v p = (refl, λ other. ap (λ (b : Bool). if b then has_ended (with_refusal n headed UnknownService p) else has_ended (with_last_message n headed (spell_state (health_of service v)) p)) other)
