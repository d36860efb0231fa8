-- In a list by ascending key, what passes a test that only the item of one key can pass.
use Rattle.std.specs.Prelude.{◌≡◌, ◌||◌, ℕ, Bool, true, false, if◌then◌else◌, List, [], ◌∷◌, map, find, Option, Some, None}
use Rattle.std.specs.Str.{bytes_eq}
use Rattle.std.specs.List.{list_any, AllByRecursion}
use Rattle.std.specs.List.Sorted.{IsStrictlySortedBy}
use Rattle.std.specs.Ordering.{nat_cmp}
use Rattle.std.specs.Cmp.Lexicographic.{slice_cmp}
use Rattle.std.proofs.Common.{Less, arith, refl, sym, ◌∙◌, ap, subst}
use Rattle.std.proofs.lemmas.Slice.Eq.{bytes_eq-Decides}
use Rattle.svid_cache.proofs.Common.{Rises, ask_key, svid_key, same_ask, Ask, Svid, level_self, kept_for}
use Rattle.list_laws.specs.Keys.{item_at}
use Rattle.svid_cache.specs.Caches.{only, is_listed}

-- whether there is one that passes
abbrev pub passes : {X : Type 0} → (X → Bool) → Option X → Bool
passes t None = false
passes t (Some x) = t x

-- no byte string above k is k
pub above_is_other : (k x : List ℕ) → slice_cmp nat_cmp k x ≡ Less → (b : Bool) → b ≡ bytes_eq x k → b ≡ false
above_is_other k x less false is = refl
above_is_other k x less true is =
    let at : slice_cmp nat_cmp k k ≡ Less = subst (λ y. slice_cmp nat_cmp k y ≡ Less) ((bytes_eq-Decides x k).0 (sym is)) less in
    grind (arith, sym at ∙ level_self k)

-- a test that only the item of the key k can pass
abbrev OnlyAt : {X : Type 0} → (X → List ℕ) → (X → Bool) → List ℕ → Type 0
OnlyAt {X} key t k = (x : X) → bytes_eq (key x) k ≡ false → t x ≡ false

none_find : {X : Type 0} (key : X → List ℕ) (t : X → Bool) (k : List ℕ) → OnlyAt key t k → (xs : List X) → AllByRecursion (λ y. slice_cmp nat_cmp k y ≡ Less) (map key xs) → find t xs ≡ None
none_find key t k at [] above = refl
none_find key t k at (x ∷ xs) above = rw (at x (above_is_other k (key x) above.0 (bytes_eq (key x) k) refl)) (none_find key t k at xs above.1)

none_any : {X : Type 0} (key : X → List ℕ) (t : X → Bool) (k : List ℕ) → OnlyAt key t k → (xs : List X) → AllByRecursion (λ y. slice_cmp nat_cmp k y ≡ Less) (map key xs) → list_any t xs ≡ false
none_any key t k at [] above = refl
none_any key t k at (x ∷ xs) above = rw (at x (above_is_other k (key x) above.0 (bytes_eq (key x) k) refl)) (none_any key t k at xs above.1)

find_step : {X : Type 0} (t : X → Bool) (x : X) (rest found : Option X) (b : Bool) → (b ≡ false → t x ≡ false) → (b ≡ true → rest ≡ None) → rest ≡ only t found → (if t x then Some x else rest) ≡ only t (if b then Some x else found)
find_step t x rest found true at none same = ap (λ o. if t x then Some x else o) (none refl)
find_step t x rest found false at none same = rw (at refl) same

pub find_at : {X : Type 0} (key : X → List ℕ) (t : X → Bool) (k : List ℕ) → OnlyAt key t k → (xs : List X) → Rises (map key xs) → find t xs ≡ only t (item_at key xs k)
unfolding item_at IsStrictlySortedBy
find_at key t k at [] rises = refl
find_at key t k at (x ∷ xs) rises =
    find_step t x (find t xs) (find (λ y. bytes_eq (key y) k) xs) (bytes_eq (key x) k) (at x)
    (λ is. none_find key t k at xs (subst (λ z. AllByRecursion (λ y. slice_cmp nat_cmp z y ≡ Less) (map key xs)) ((bytes_eq-Decides (key x) k).0 is) rises.0))
    (find_at key t k at xs rises.1)

or_false : (b : Bool) → (b || false) ≡ b
or_false true = refl
or_false false = refl

any_step : {X : Type 0} (t : X → Bool) (x : X) (rest : Bool) (found : Option X) (b : Bool) → (b ≡ false → t x ≡ false) → (b ≡ true → rest ≡ false) → rest ≡ passes t found → (t x || rest) ≡ passes t (if b then Some x else found)
any_step t x rest found true at none same = ap (λ o. t x || o) (none refl) ∙ or_false (t x)
any_step t x rest found false at none same = rw (at refl) same

pub any_at : {X : Type 0} (key : X → List ℕ) (t : X → Bool) (k : List ℕ) → OnlyAt key t k → (xs : List X) → Rises (map key xs) → list_any t xs ≡ passes t (item_at key xs k)
unfolding item_at IsStrictlySortedBy
any_at key t k at [] rises = refl
any_at key t k at (x ∷ xs) rises =
    any_step t x (list_any t xs) (find (λ y. bytes_eq (key y) k) xs) (bytes_eq (key x) k) (at x)
    (λ is. none_any key t k at xs (subst (λ z. AllByRecursion (λ y. slice_cmp nat_cmp z y ≡ Less) (map key xs)) ((bytes_eq-Decides (key x) k).0 is) rises.0))
    (any_at key t k at xs rises.1)

-- only the SVID of the ask's entry can have the ask
pub kept_found : (svids : List Svid) (a : Ask) → Rises (map svid_key svids) → kept_for svids a ≡ only (λ s. same_ask s.ask a) (item_at svid_key svids a.entry_id)
unfolding kept_for
kept_found svids a rises = find_at svid_key (λ s. same_ask s.ask a) a.entry_id (λ s other. rw other refl) svids rises

-- only the ask of its entry can be the ask
pub listed_found : (asks : List Ask) (a : Ask) → Rises (map ask_key asks) → is_listed asks a ≡ passes (λ b. same_ask b a) (item_at ask_key asks a.entry_id)
unfolding is_listed
listed_found asks a rises = any_at ask_key (λ b. same_ask b a) a.entry_id (λ b other. rw other refl) asks rises
