-- What holds of each item of a list holds of each item of what is made from it.
use Rattle.std.specs.Prelude.{◌≡◌, ℕ, ◌≤◌, Bool, true, false, if◌then◌else◌, List, [], ◌∷◌, ◌++◌, map, filter, take, drop, length, slice_get, option_to_list, zero, suc}
use Rattle.std.specs.List.{AllByRecursion}
use Rattle.std.proofs.Common.{arith, refl, sym}
use Rattle.list_laws.specs.Lists.{at_places}

all_go : {X : Type 0} (P : X → Type 0) (x : X) (rest : List X) (b : Bool) → P x → AllByRecursion P rest → AllByRecursion P (if b then x ∷ rest else rest)
all_go P x rest true here there = (here, there)
all_go P x rest false here there = there

pub all_filter : {X : Type 0} (P : X → Type 0) (p : X → Bool) (xs : List X) → AllByRecursion P xs → AllByRecursion P (filter p xs)
all_filter P p [] all = tt
all_filter P p (x ∷ xs) all = all_go P x (filter p xs) (p x) all.0 (all_filter P p xs all.1)

length_go : {X : Type 0} (x : X) (rest : List X) (n : ℕ) (b : Bool) → length rest ≤ n → length (if b then x ∷ rest else rest) ≤ suc n
length_go x rest n true few = omega (arith, few)
length_go x rest n false few = omega (arith, few)

pub length_filter : {X : Type 0} (p : X → Bool) (xs : List X) → length (filter p xs) ≤ length xs
length_filter p [] = omega arith
length_filter p (x ∷ xs) = length_go x (filter p xs) (length xs) (p x) (length_filter p xs)

pub all_map : {X Y : Type 0} (P : X → Type 0) (Q : Y → Type 0) (f : X → Y) → ((x : X) → P x → Q (f x)) → (xs : List X) → AllByRecursion P xs → AllByRecursion Q (map f xs)
all_map P Q f step [] all = tt
all_map P Q f step (x ∷ xs) all = (step x all.0, all_map P Q f step xs all.1)

pub both_all : {X : Type 0} (P Q : X → Type 0) (xs : List X) → AllByRecursion P xs → AllByRecursion Q xs → AllByRecursion (λ x. P x × Q x) xs
both_all P Q [] p q = tt
both_all P Q (x ∷ xs) p q = ((p.0, q.0), both_all P Q xs p.1 q.1)

pub all_such : {X : Type 0} (P Q : X → Type 0) (xs : List X) → ((x : X) → P x → Q x) → AllByRecursion P xs → AllByRecursion Q xs
all_such P Q [] step all = tt
all_such P Q (x ∷ xs) step all = (step x all.0, all_such P Q xs step all.1)

all_at : {X : Type 0} (P : X → Type 0) (xs : List X) (n : ℕ) → AllByRecursion P xs → AllByRecursion P (option_to_list (slice_get xs n))
all_at P [] n all = tt
all_at P (x ∷ xs) zero all = (all.0, tt)
all_at P (x ∷ xs) (suc n) all = all_at P xs n all.1

pub all_append : {X : Type 0} (P : X → Type 0) (xs ys : List X) → AllByRecursion P xs → AllByRecursion P ys → AllByRecursion P (xs ++ ys)
all_append P [] ys a b = b
all_append P (x ∷ xs) ys a b = (a.0, all_append P xs ys a.1 b)

-- what holds of all items of two lists holds of those of each
pub all_front : {X : Type 0} (P : X → Type 0) (xs ys : List X) → AllByRecursion P (xs ++ ys) → AllByRecursion P xs
all_front P [] ys all = tt
all_front P (x ∷ xs) ys all = (all.0, all_front P xs ys all.1)

pub all_back : {X : Type 0} (P : X → Type 0) (xs ys : List X) → AllByRecursion P (xs ++ ys) → AllByRecursion P ys
all_back P [] ys all = all
all_back P (x ∷ xs) ys all = all_back P xs ys all.1

pub all_take : {X : Type 0} (P : X → Type 0) (n : ℕ) (xs : List X) → AllByRecursion P xs → AllByRecursion P (take n xs)
all_take P zero [] all = tt
all_take P (suc n) [] all = tt
all_take P zero (x ∷ xs) all = tt
all_take P (suc n) (x ∷ xs) all = (all.0, all_take P n xs all.1)

pub all_drop : {X : Type 0} (P : X → Type 0) (n : ℕ) (xs : List X) → AllByRecursion P xs → AllByRecursion P (drop n xs)
all_drop P zero [] all = tt
all_drop P (suc n) [] all = tt
all_drop P zero (x ∷ xs) all = all
all_drop P (suc n) (x ∷ xs) all = all_drop P n xs all.1

passes_go : {X : Type 0} (p : X → Bool) (x : X) (rest : List X) (b : Bool) → b ≡ p x → AllByRecursion (λ y. p y ≡ true) rest → AllByRecursion (λ y. p y ≡ true) (if b then x ∷ rest else rest)
passes_go p x rest true is there = (sym is, there)
passes_go p x rest false is there = there

-- what is chosen passes the test
pub all_pass : {X : Type 0} (p : X → Bool) (xs : List X) → AllByRecursion (λ x. p x ≡ true) (filter p xs)
all_pass p [] = tt
all_pass p (x ∷ xs) = passes_go p x (filter p xs) (p x) refl (all_pass p xs)

pub all_places : {X : Type 0} (P : X → Type 0) (xs : List X) (places : List ℕ) → AllByRecursion P xs → AllByRecursion P (at_places xs places)
all_places P xs [] all = tt
all_places P xs (n ∷ ns) all = all_append P (option_to_list (slice_get xs n)) (at_places xs ns) (all_at P xs n all) (all_places P xs ns all)
