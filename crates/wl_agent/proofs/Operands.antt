-- Three words or more have no sole operand.
use Rattle.std.specs.Prelude.{◌≡◌, ℕ, ◌≤◌, Bool, true, false, if◌then◌else◌, List, [], ◌∷◌, map, length, codes, Option, Some, None, option_map, option_and_then}
use Rattle.std.specs.Str.{bytes_eq}
use Rattle.std.proofs.Common.{arith, refl}
use Rattle.clap_words.specs.Operands.{operands, is_option}
use Rattle.wl_agent.specs.ServeWords.{sole}

abbrev Words : Type 0
Words = List (List ℕ)

abbrev after : List ℕ → Option Words → Option Words
after w o = option_map {U = Words} (λ ops. w ∷ ops) o

at_second : (marker option : Bool) (w v x : List ℕ) (xs : Words) (o : Option Words) → None ≡ option_and_then sole (after w (if marker then Some (x ∷ xs) else (if option then None else after v o)))
at_second true option w v x xs o = refl
at_second false true w v x xs o = refl
at_second false false w v x xs None = refl
at_second false false w v x xs (Some ops) = refl

at_first : (marker option : Bool) (w v x : List ℕ) (xs : Words) (o : Option Words) → None ≡ option_and_then sole (after w o) → None ≡ option_and_then sole (if marker then Some (v ∷ x ∷ xs) else (if option then None else after w o))
at_first true option w v x xs o none = refl
at_first false true w v x xs o none = refl
at_first false false w v x xs o none = none

pub no_sole : {A : Type 0} (f : A → List ℕ) (xs : List A) → 3 ≤ length xs → None ≡ option_and_then sole (operands (map f xs))
no_sole f [] long = absurd (omega (arith, long))
no_sole f (a ∷ []) long = absurd (omega (arith, long))
no_sole f (a ∷ b ∷ []) long = absurd (omega (arith, long))
no_sole f (a ∷ b ∷ c ∷ xs) long =
    let rest = at_second (bytes_eq (f b) (codes "--")) (is_option (f b)) (f a) (f b) (f c) (map f xs) (operands (f c ∷ map f xs)) in
    at_first (bytes_eq (f a) (codes "--")) (is_option (f a)) (f a) (f b) (f c) (map f xs) (operands (f b ∷ f c ∷ map f xs)) rest
