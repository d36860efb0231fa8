-- Offering the same message again changes nothing more.
use Rattle.std.proofs.Common.{◌≡◌, inl, inr, ℕ, ◌==◌, true, false, List, [], ◌∷◌, refl, sym, ap, ◌∙◌}
use Rattle.std.proofs.lemmas.Bool.{cases_Bool}
use Rattle.h2_flow.proofs.Common.{Stream, Out, update_stream, with_offer, with_message}

pub changed_here : (n : ℕ) (f : Stream → Stream) (s : Stream) (ss : List Stream) → (s.number == n) ≡ true → update_stream n f (s ∷ ss) ≡ f s ∷ ss
changed_here n f s ss here = rw here refl

pub changed_past : (n : ℕ) (f : Stream → Stream) (s : Stream) (ss : List Stream) → (s.number == n) ≡ false → update_stream n f (s ∷ ss) ≡ s ∷ update_stream n f ss
changed_past n f s ss past = rw past refl

changed_twice : (n : ℕ) (f : Stream → Stream) → ((s : Stream) → (f s).number ≡ s.number) → ((s : Stream) → f (f s) ≡ f s) → (ss : List Stream) → update_stream n f (update_stream n f ss) ≡ update_stream n f ss
changed_twice n f keeps again [] = refl
changed_twice n f keeps again (s ∷ ss) =
    elim (cases_Bool (s.number == n)) [
      | inl here ↦
          let still : ((f s).number == n) ≡ true = rw (keeps s) here in
          ap (update_stream n f) (changed_here n f s ss here) ∙ changed_here n f (f s) ss still ∙ ap (λ x. x ∷ ss) (again s) ∙ sym (changed_here n f s ss here)
      | inr past ↦
          ap (update_stream n f) (changed_past n f s ss past) ∙ changed_past n f s (update_stream n f ss) past ∙ ap (λ xs. s ∷ xs) (changed_twice n f keeps again ss) ∙ sym (changed_past n f s ss past)
    ]

pub offers_once : (n : ℕ) (message : List ℕ) (o : Out) → with_message n message (with_message n message o) ≡ with_message n message o
unfolding with_message
offers_once n message o = ap (λ (ss : List Stream). record o { streams = ss }) (changed_twice n (with_offer message) (λ s. refl) (λ s. refl) o.streams)
