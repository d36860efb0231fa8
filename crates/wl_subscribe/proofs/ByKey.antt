-- What lists by ascending key have at a key, and that two with the same item of each key are equal.
use Rattle.std.specs.Prelude.{◌≡◌, ℕ, Bool, true, false, if◌then◌else◌, List, [], ◌∷◌, map, filter, find, slice_get, zero, suc, Option, Some, None, option_map}
use Rattle.std.specs.Str.{bytes_eq}
use Rattle.std.specs.List.{AllByRecursion}
use Rattle.std.specs.List.Sorted.{IsStrictlySortedBy}
use Rattle.std.specs.Ordering.{is_eq, ordering_reverse}
use Rattle.std.specs.Cmp.Lexicographic.{nat_list_cmp_total}
use Rattle.std.proofs.Common.{Ordering, Less, Equal, Greater, refl, sym, ◌∙◌, ap, subst}
use Rattle.std.proofs.lemmas.Map.Text.{is_eq-slice_cmp}
use Rattle.list_laws.specs.Lists.{Rises}
use Rattle.wl_subscribe.proofs.Common.{item_at, bytes_are, same_bytes}
use Rattle.list_laws.proofs.Keys.{found_all}
use Rattle.list_laws.proofs.Order.{order, not_same, turned}
use Rattle.sorted_blocks.proofs.OneMoreItem.{all_past}

-- an item, where it passes a test
abbrev pub kept : {X : Type 0} → (X → Bool) → Option X → Option X
kept t None = None
kept t (Some x) = if t x then Some x else None

pub above_none : {X : Type 0} (key : X → List ℕ) (k : List ℕ) (xs : List X) → AllByRecursion (λ z. order k z ≡ Less) (map key xs) → item_at key xs k ≡ None
unfolding item_at
above_none key k [] all = refl
above_none key k (x ∷ xs) all = rw (not_same (key x) k Greater (turned k (key x) all.0) refl) (above_none key k xs all.1)

-- ---- the item of a key among those that pass a test

filter_go : {X : Type 0} (key : X → List ℕ) (t : X → Bool) (k : List ℕ) (x : X) (found passing : Option X) (rest : List X) (b c : Bool) → bytes_eq (key x) k ≡ b → t x ≡ c
    → item_at key rest k ≡ passing → (b ≡ true → passing ≡ None) → passing ≡ kept t found
    → item_at key (if c then x ∷ rest else rest) k ≡ kept t (if b then Some x else found)
unfolding item_at
filter_go key t k x found passing rest true true at is there none same = rw (at, is) refl
filter_go key t k x found passing rest true false at is there none same = there ∙ none refl ∙ sym (ap (λ y. if y then Some x else None) is)
filter_go key t k x found passing rest false true at is there none same = rw at (there ∙ same)
filter_go key t k x found passing rest false false at is there none same = there ∙ same

pub item_filter : {X : Type 0} (key : X → List ℕ) (t : X → Bool) (xs : List X) (k : List ℕ) → Rises (map key xs) → item_at key (filter t xs) k ≡ kept t (item_at key xs k)
unfolding item_at IsStrictlySortedBy
item_filter key t [] k rises = refl
item_filter key t (x ∷ xs) k rises =
    let rest = item_filter key t xs k rises.1 in
    filter_go key t k x (find (λ y. bytes_eq (key y) k) xs) (find (λ y. bytes_eq (key y) k) (filter t xs)) (filter t xs) (bytes_eq (key x) k) (t x) refl refl refl
    (λ same. rest ∙ ap (kept t) (above_none key k xs (subst (λ l. AllByRecursion (λ z. order l z ≡ Less) (map key xs)) (bytes_are (key x) k same) rises.0))) rest

-- ---- the item of a key among what is made of each

map_go : {X Y : Type 0} (f : X → Y) (x : X) (found : Option X) (made : Option Y) (b : Bool) → made ≡ option_map f found → (if b then Some (f x) else made) ≡ option_map f (if b then Some x else found)
map_go f x found made true same = refl
map_go f x found made false same = same

pub item_map : {X Y : Type 0} (key : X → List ℕ) (key' : Y → List ℕ) (f : X → Y) → ((x : X) → key' (f x) ≡ key x) → (xs : List X) (k : List ℕ) → item_at key' (map f xs) k ≡ option_map f (item_at key xs k)
unfolding item_at
item_map key key' f same [] k = refl
item_map key key' f same (x ∷ xs) k =
    ap (λ l. if bytes_eq l k then Some (f x) else find (λ y. bytes_eq (key' y) k) (map f xs)) (same x)
    ∙ map_go f x (find (λ y. bytes_eq (key y) k) xs) (find (λ y. bytes_eq (key' y) k) (map f xs)) (bytes_eq (key x) k) (item_map key key' f same xs k)

-- ---- the item of a key has the key

key_go : {X : Type 0} (key : X → List ℕ) (k : List ℕ) (x y : X) (found : Option X) (b : Bool) → bytes_eq (key x) k ≡ b → (if b then Some x else found) ≡ Some y → (found ≡ Some y → key y ≡ k) → key y ≡ k
key_go key k x y found true at there later = ap key (let same : y ≡ x = cc there in same) ∙ bytes_are (key x) k at
key_go key k x y found false at there later = later there

pub key_found : {X : Type 0} (key : X → List ℕ) (xs : List X) (k : List ℕ) (y : X) → item_at key xs k ≡ Some y → key y ≡ k
unfolding item_at
key_found key [] k y there = cc there
key_found key (x ∷ xs) k y there = key_go key k x y (find (λ z. bytes_eq (key z) k) xs) (bytes_eq (key x) k) refl there (key_found key xs k y)

-- ---- two lists with the same item of each key

equal_same : (a b : List ℕ) → order a b ≡ Equal → bytes_eq a b ≡ true
equal_same a b at = sym (is_eq-slice_cmp a b) ∙ ap is_eq at

turned_back : (a b : List ℕ) → order a b ≡ Greater → order b a ≡ Less
turned_back a b greater = nat_list_cmp_total.antisymm b a ∙ ap ordering_reverse greater

first_found : {X : Type 0} (key : X → List ℕ) (x : X) (xs : List X) (k : List ℕ) → key x ≡ k → item_at key (x ∷ xs) k ≡ Some x
unfolding item_at
first_found key x xs k is = rw (ap (λ l. bytes_eq l k) is ∙ same_bytes k) refl

first_passed : {X : Type 0} (key : X → List ℕ) (x : X) (xs : List X) (k : List ℕ) → bytes_eq (key x) k ≡ false → item_at key (x ∷ xs) k ≡ item_at key xs k
unfolding item_at
first_passed key x xs k other = rw other refl

-- nothing has a key that is below the first one
below_none : {X : Type 0} (key : X → List ℕ) (y : X) (ys : List X) (k : List ℕ) → order k (key y) ≡ Less → AllByRecursion (λ z. order (key y) z ≡ Less) (map key ys) → item_at key (y ∷ ys) k ≡ None
below_none key y ys k less above = above_none key k (y ∷ ys) (less, all_past k (key y) (map key ys) less above)

none_behind : {X : Type 0} (key : X → List ℕ) (x : X) (xs : List X) (k : List ℕ) → bytes_eq (key x) k ≡ true → AllByRecursion (λ z. order (key x) z ≡ Less) (map key xs) → item_at key xs k ≡ None
none_behind key x xs k at over = above_none key k xs (subst (λ l. AllByRecursion (λ z. order l z ≡ Less) (map key xs)) (bytes_are (key x) k at) over)

tail_by : {X : Type 0} (key : X → List ℕ) (x : X) (xs ys : List X) (k : List ℕ) (b : Bool) → bytes_eq (key x) k ≡ b → AllByRecursion (λ z. order (key x) z ≡ Less) (map key xs) → AllByRecursion (λ z. order (key x) z ≡ Less) (map key ys)
    → item_at key (x ∷ xs) k ≡ item_at key (x ∷ ys) k → item_at key xs k ≡ item_at key ys k
tail_by key x xs ys k true at over above same = none_behind key x xs k at over ∙ sym (none_behind key x ys k at above)
tail_by key x xs ys k false at over above same = sym (first_passed key x xs k at) ∙ same ∙ first_passed key x ys k at

nothing_found : {X : Type 0} (key : X → List ℕ) (k : List ℕ) → item_at key [] k ≡ None
unfolding item_at
nothing_found key k = refl

some_is_none : {X P : Type 0} {x : X} → ◌≡◌ {A = Option X} (Some x) None → P
some_is_none same = cc same

-- the first items of both have the same key
firsts_are : {X : Type 0} (key : X → List ℕ) (x y : X) (xs ys : List X) (o : Ordering) → order (key x) (key y) ≡ o
    → AllByRecursion (λ z. order (key x) z ≡ Less) (map key xs) → AllByRecursion (λ z. order (key y) z ≡ Less) (map key ys)
    → ((k : List ℕ) → item_at key (x ∷ xs) k ≡ item_at key (y ∷ ys) k) → x ≡ y
firsts_are key x y xs ys Less at over above same = some_is_none (sym (first_found key x xs (key x) refl) ∙ same (key x) ∙ below_none key y ys (key x) at above)
firsts_are key x y xs ys Equal at over above same =
    let is : key y ≡ key x = sym (bytes_are (key x) (key y) (equal_same (key x) (key y) at)) in
    let found : Some x ≡ Some y = sym (first_found key x xs (key x) refl) ∙ same (key x) ∙ first_found key y ys (key x) is in cc found
firsts_are key x y xs ys Greater at over above same =
    let less : order (key y) (key x) ≡ Less = turned_back (key x) (key y) at in
    some_is_none (sym (first_found key y ys (key y) refl) ∙ sym (same (key y)) ∙ below_none key x xs (key y) less over)

pub lists_same : {X : Type 0} (key : X → List ℕ) (xs ys : List X) → Rises (map key xs) → Rises (map key ys) → ((k : List ℕ) → item_at key xs k ≡ item_at key ys k) → xs ≡ ys
unfolding IsStrictlySortedBy
lists_same key [] [] over above same = refl
lists_same key [] (y ∷ ys) over above same = some_is_none (sym (first_found key y ys (key y) refl) ∙ sym (same (key y)) ∙ nothing_found key (key y))
lists_same key (x ∷ xs) [] over above same = some_is_none (sym (first_found key x xs (key x) refl) ∙ same (key x) ∙ nothing_found key (key x))
lists_same key (x ∷ xs) (y ∷ ys) over above same =
    let is = firsts_are key x y xs ys (order (key x) (key y)) refl over.0 above.0 same in
    let again = subst (λ z. (k : List ℕ) → item_at key (x ∷ xs) k ≡ item_at key (z ∷ ys) k) (sym is) same in
    let later = subst (λ z. AllByRecursion (λ w. order (key z) w ≡ Less) (map key ys)) (sym is) above.0 in
    λ i. is i ∷ lists_same key xs ys over.1 above.1 (λ k. tail_by key x xs ys k (bytes_eq (key x) k) refl over.0 later (again k)) i

-- ---- the item at a place

each_at : {X : Type 0} (P : X → Type 0) (xs : List X) (n : ℕ) (x : X) → AllByRecursion P xs → slice_get xs n ≡ Some x → P x
each_at P [] n x all at = cc at
each_at P (y ∷ ys) zero x all at = subst P (let same : y ≡ x = cc at in same) all.0
each_at P (y ∷ ys) (suc n) x all at = each_at P ys n x all.1 at

pub there_at : {X : Type 0} (key : X → List ℕ) (xs : List X) (n : ℕ) (x : X) (k : List ℕ) → Rises (map key xs) → slice_get xs n ≡ Some x → bytes_eq (key x) k ≡ true → item_at key xs k ≡ Some x
there_at key xs n x k rises at same =
    ap (item_at key xs) (sym (bytes_are (key x) k same)) ∙ each_at (λ y. item_at key xs (key y) ≡ Some y) xs n x (found_all key xs rises) at
