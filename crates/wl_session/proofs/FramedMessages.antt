-- Messages after their gRPC prefix.
use Rattle.std.proofs.Common.{◌≡◌, ℕ, ◌<◌, Bool, true, List, [], length, Some, arith, sym, ap, subst}
use Rattle.wl_session.proofs.Common.{framed, Phase, ViewModel, answer_of, Answer, Denied, Wait, TooLong, Message, Method3, Stream, Ready, stream_answer, with_message}
use Rattle.wl_snapshot.specs.Answers.{with_prefix}
use Rattle.wl_session.specs.Answering.{kept_of}
use Rattle.wl_session.specs.Making.{IsMessageOf}

-- a framed message is not empty
pub framed_some : (m : List ℕ) → 0 < length (framed m)
unfolding framed
framed_some m = omega arith

-- the bytes of a message
abbrev message_in : Answer → List ℕ
message_in Denied = []
message_in Wait = []
message_in (TooLong n) = []
message_in (Message m) = m

answered_some : (a : Answer) (m : List ℕ) → with_prefix a ≡ Message m → 0 < length m
answered_some Denied m is = grind (arith, is)
answered_some Wait m is = grind (arith, is)
answered_some (TooLong n) m is = grind (arith, is)
answered_some (Message bare) m is = subst (λ (xs : List ℕ). 0 < length xs) (ap message_in is) (framed_some bare)

-- the message of a method on a view is not empty
pub message_some : (method : Method3) (v : ViewModel) (m : List ℕ) → IsMessageOf method v m → 0 < length m
message_some method v m is = answered_some (answer_of method v) m is

-- a call whose answer is this message was offered it, and goes on
pub offered_message : (n : ℕ) (method : Method3) (sel : List (List ℕ)) (v : ViewModel) (headed : Bool) (a : Answer) (m : List ℕ) (p q : Phase)
    → with_prefix a ≡ Message m → ((bare : List ℕ) → m ≡ framed bare → q ≡ with_message n headed bare p)
    → stream_answer n method sel v headed a p ≡ record { phase = q; kept = kept_of n (Some (Ready (Stream method) sel (Some v) true)) }
offered_message n method sel v headed Denied m p q is goes = grind (arith, is)
offered_message n method sel v headed Wait m p q is goes = grind (arith, is)
offered_message n method sel v headed (TooLong size) m p q is goes = grind (arith, is)
offered_message n method sel v headed (Message bare) m p q is goes =
    ap (λ (x : Phase). record { phase = x; kept = kept_of n (Some (Ready (Stream method) sel (Some v) true)) }) (sym (goes bare (sym (ap message_in is))))
