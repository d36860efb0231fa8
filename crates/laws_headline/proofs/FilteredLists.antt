-- What is found in a list of which a filter leaves it.
use Rattle.std.proofs.Common.{◌≡◌, Bool, true, false, cond, List, [], ◌∷◌, ◌++◌, map, filter, Some, refl, sym, ap, ◌∙◌}
use Rattle.std.specs.Prelude.{◌||◌, find, IfSome}
use Rattle.std.specs.List.{list_any, AllByRecursion}
use Rattle.list_laws.proofs.Elements.{all_such}

-- ---- a filter passes over what it does not let through

pub passed_over : {X : Type 0} (own : X → Bool) (front back : List X) (x : X) → own x ≡ false → filter own (front ++ back) ≡ filter own (front ++ x ∷ back)
passed_over own [] back x foreign = sym (ap (λ (c : Bool). cond c (x ∷ filter own back) (filter own back)) foreign)
passed_over own (z ∷ front) back x foreign = ap (λ rest. cond (own z) (z ∷ rest) rest) (passed_over own front back x foreign)

pub replaced : {X : Type 0} (own : X → Bool) (front back : List X) (x y : X) → own x ≡ false → own y ≡ false → filter own (front ++ x ∷ back) ≡ filter own (front ++ y ∷ back)
replaced own front back x y one two = sym (passed_over own front back x one) ∙ passed_over own front back y two

-- ---- the item that is found passes the filter

kept_go : {X : Type 0} (q t : X → Bool) (x : X) (xs : List X) (a b : Bool) → q x ≡ a → t x ≡ b → IfSome (cond a (Some x) (find q xs)) (λ y. t y ≡ true)
    → (IfSome (find q xs) (λ y. t y ≡ true) → find q (filter t xs) ≡ find q xs) → find q (cond b (x ∷ filter t xs) (filter t xs)) ≡ cond a (Some x) (find q xs)
kept_go q t x xs true true at by ok rest = ap (λ (c : Bool). cond c (Some x) (find q (filter t xs))) at
kept_go q t x xs true false at by ok rest = absurd (cc (sym by ∙ ok))
kept_go q t x xs false true at by ok rest = ap (λ (c : Bool). cond c (Some x) (find q (filter t xs))) at ∙ rest ok
kept_go q t x xs false false at by ok rest = rest ok

pub found_kept : {X : Type 0} (q t : X → Bool) (xs : List X) → IfSome (find q xs) (λ y. t y ≡ true) → find q (filter t xs) ≡ find q xs
found_kept q t [] ok = refl
found_kept q t (x ∷ xs) ok = kept_go q t x xs (q x) (t x) refl refl ok (found_kept q t xs)

-- ---- an item of a list is one of its items

here : (a b : Bool) → a ≡ true → (a || b) ≡ true
here true b is = refl
here false b is = absurd (cc is)

there : (a b : Bool) → b ≡ true → (a || b) ≡ true
there true b is = refl
there false b is = is

-- what is so of this item is so of some item
abbrev pub IsAmong : {X : Type 0} → List X → X → Type 0
IsAmong {X} xs x = (t : X → Bool) → t x ≡ true → list_any t xs ≡ true

pub all_among : {X : Type 0} (xs : List X) → AllByRecursion (IsAmong xs) xs
all_among [] = tt
all_among (x ∷ xs) = (λ t is. here (t x) (list_any t xs) is, all_such (IsAmong xs) (IsAmong (x ∷ xs)) xs (λ y among t is. there (t x) (list_any t xs) (among t is)) (all_among xs))

any_go : {X : Type 0} (t : X → Bool) (x : X) (xs ys : List X) (b : Bool) → (list_any t ys ≡ true → list_any t xs ≡ true) → list_any t (cond b (x ∷ ys) ys) ≡ true → list_any t (x ∷ xs) ≡ true
any_go t x xs ys true rest is = first (t x) is
  where
    first : (c : Bool) → (c || list_any t ys) ≡ true → (c || list_any t xs) ≡ true
    first true is = refl
    first false is = rest is
any_go t x xs ys false rest is = there (t x) (list_any t xs) (rest is)

-- what is so of an item that a filter leaves is so of one of the list
pub any_filtered : {X : Type 0} (t p : X → Bool) (xs : List X) → list_any t (filter p xs) ≡ true → list_any t xs ≡ true
any_filtered t p [] is = is
any_filtered t p (x ∷ xs) is = any_go t x xs (filter p xs) (p x) (any_filtered t p xs) is

pub any_map : {X Y : Type 0} (t : Y → Bool) (f : X → Y) (xs : List X) → list_any t (map f xs) ≡ list_any (λ x. t (f x)) xs
any_map t f [] = refl
any_map t f (x ∷ xs) = ap (λ (b : Bool). t (f x) || b) (any_map t f xs)
