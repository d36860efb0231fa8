-- Filters, and what is found, through a map.
use Rattle.std.proofs.Common.{◌≡◌, Bool, true, false, cond, List, [], ◌∷◌, map, filter, Option, Some, option_map, refl, sym, ap, ◌∙◌}
use Rattle.std.specs.Prelude.{find}
use Rattle.std.specs.List.{AllByRecursion}

-- a test that a map leaves alone goes through it
map_go : {X Y : Type 0} (f : X → Y) (x : X) (xs : List X) (ys : List Y) (b : Bool) → map f xs ≡ ys → map f (cond b (x ∷ xs) xs) ≡ cond b (f x ∷ ys) ys
map_go f x xs ys true is = ap (λ zs. f x ∷ zs) is
map_go f x xs ys false is = is

pub filter_through : {X Y : Type 0} (f : X → Y) (p : X → Bool) (q : Y → Bool) → ((x : X) → q (f x) ≡ p x) → (xs : List X) → map f (filter p xs) ≡ filter q (map f xs)
filter_through f p q same [] = refl
filter_through f p q same (x ∷ xs) =
    map_go f x (filter p xs) (filter q (map f xs)) (p x) (filter_through f p q same xs) ∙ ap (λ (b : Bool). cond b (f x ∷ filter q (map f xs)) (filter q (map f xs))) (sym (same x))

find_go : {X Y : Type 0} (f : X → Y) (x : X) (o : Option X) (r : Option Y) (b : Bool) → option_map f o ≡ r → option_map f (cond b (Some x) o) ≡ cond b (Some (f x)) r
find_go f x o r true is = refl
find_go f x o r false is = is

pub find_through : {X Y : Type 0} (f : X → Y) (p : X → Bool) (q : Y → Bool) → ((x : X) → q (f x) ≡ p x) → (xs : List X) → option_map f (find p xs) ≡ find q (map f xs)
find_through f p q same [] = refl
find_through f p q same (x ∷ xs) =
    find_go f x (find p xs) (find q (map f xs)) (p x) (find_through f p q same xs) ∙ ap (λ (b : Bool). cond b (Some (f x)) (find q (map f xs))) (sym (same x))

-- a filter finds the same after one that lets through all that it does
sub_go : {X : Type 0} (p : X → Bool) (x : X) (xs ys : List X) (a b : Bool) → p x ≡ a → (a ≡ true → b ≡ true) → filter p xs ≡ ys → filter p (cond b (x ∷ xs) xs) ≡ cond a (x ∷ ys) ys
sub_go p x xs ys true true at lets is = ap (λ (c : Bool). cond c (x ∷ filter p xs) (filter p xs)) at ∙ ap (λ zs. x ∷ zs) is
sub_go p x xs ys true false at lets is = absurd (cc (lets refl))
sub_go p x xs ys false true at lets is = ap (λ (c : Bool). cond c (x ∷ filter p xs) (filter p xs)) at ∙ is
sub_go p x xs ys false false at lets is = is

pub filter_behind : {X : Type 0} (p q : X → Bool) → ((x : X) → p x ≡ true → q x ≡ true) → (xs : List X) → filter p (filter q xs) ≡ filter p xs
filter_behind p q lets [] = refl
filter_behind p q lets (x ∷ xs) = sub_go p x (filter q xs) (filter p xs) (p x) (q x) refl (lets x) (filter_behind p q lets xs)

-- two filters in either order
turn_go : {X : Type 0} (p q : X → Bool) (x : X) (xs ys : List X) (a b : Bool) → p x ≡ a → q x ≡ b → filter p xs ≡ filter q ys
    → filter p (cond b (x ∷ xs) xs) ≡ filter q (cond a (x ∷ ys) ys)
turn_go p q x xs ys true true ap_is aq_is is =
    ap (λ (c : Bool). cond c (x ∷ filter p xs) (filter p xs)) ap_is ∙ ap (λ zs. x ∷ zs) is ∙ sym (ap (λ (c : Bool). cond c (x ∷ filter q ys) (filter q ys)) aq_is)
turn_go p q x xs ys true false ap_is aq_is is = is ∙ sym (ap (λ (c : Bool). cond c (x ∷ filter q ys) (filter q ys)) aq_is)
turn_go p q x xs ys false true ap_is aq_is is = ap (λ (c : Bool). cond c (x ∷ filter p xs) (filter p xs)) ap_is ∙ is
turn_go p q x xs ys false false ap_is aq_is is = is

pub filter_turned : {X : Type 0} (p q : X → Bool) (xs : List X) → filter p (filter q xs) ≡ filter q (filter p xs)
filter_turned p q [] = refl
filter_turned p q (x ∷ xs) = turn_go p q x (filter q xs) (filter p xs) (p x) (q x) refl refl (filter_turned p q xs)

-- each item that is left passes the test
pub all_pass : {X : Type 0} (p : X → Bool) (P : X → Type 0) (xs : List X) → AllByRecursion (λ x. p x ≡ true → P x) xs → AllByRecursion P (filter p xs)
all_pass p P [] all = tt
all_pass p P (x ∷ xs) all = go (p x) all.0 (all_pass p P xs all.1)
  where
    go : (b : Bool) → (b ≡ true → P x) → AllByRecursion P (filter p xs) → AllByRecursion P (cond b (x ∷ filter p xs) (filter p xs))
    go true is rest = (is refl, rest)
    go false is rest = rest
