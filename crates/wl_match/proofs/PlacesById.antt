-- Where an id stands in a list by ascending id.
use Rattle.std.proofs.Common.{◌≡◌, ℕ, zero, suc, ◌==◌, Bool, true, false, if◌then◌else◌, List, [], ◌∷◌, map, slice_get, Option, Some, None, option_map, Less, Greater, refl, ◌∙◌, subst, arith}
use Rattle.std.specs.Str.{bytes_eq}
use Rattle.std.specs.List.{AllByRecursion}
use Rattle.std.specs.List.Sorted.{IsStrictlySortedBy}
use Rattle.std.specs.Cmp.Lexicographic.{bytes_decides}
use Rattle.std.proofs.lemmas.Bool.Decides.{nat_tests}
use Rattle.list_laws.specs.Lists.{Rises}
use Rattle.list_laws.specs.Keys.{place_at}
use Rattle.list_laws.proofs.Order.{order, not_same, turned}
use Rattle.wl_entry.specs.Keys.{entry_key}
use Rattle.wl_entry.specs.declared.entries.Entry.{Entry}

-- the entry at a place has this id
abbrev pub has_id : List ℕ → Option Entry → Bool
has_id id None = false
has_id id (Some e) = bytes_eq e.id id

none_before : (o : Option ℕ) → option_map suc o ≡ None → o ≡ None
none_before None h = refl
none_before (Some p) h = cc

nowhere_go : (b : Bool) (id : List ℕ) (x : Entry) (xs : List Entry) (o : Option ℕ) → bytes_eq x.id id ≡ b → (if b then Some 0 else option_map suc o) ≡ None
    → (o ≡ None → (q : ℕ) → has_id id (slice_get xs q) ≡ false) → (q : ℕ) → has_id id (slice_get (x ∷ xs) q) ≡ false
nowhere_go true id x xs o test h rest q = cc
nowhere_go false id x xs o test h rest zero = test
nowhere_go false id x xs o test h rest (suc q) = rest (none_before o h) q

-- an id that has no place stands nowhere
pub nowhere : (id : List ℕ) (xs : List Entry) → place_at entry_key xs id ≡ None → (q : ℕ) → has_id id (slice_get xs q) ≡ false
unfolding place_at
nowhere id [] h q = refl
nowhere id (x ∷ xs) h q = nowhere_go (bytes_eq x.id id) id x xs (place_at entry_key xs id) refl h (nowhere id xs) q

-- an id below all of them stands nowhere
below_all : (id : List ℕ) (xs : List Entry) → AllByRecursion (λ k. order id k ≡ Less) (map entry_key xs) → (q : ℕ) → has_id id (slice_get xs q) ≡ false
below_all id [] all q = refl
below_all id (x ∷ xs) all zero = not_same x.id id Greater (turned id x.id all.0) refl
below_all id (x ∷ xs) all (suc q) = below_all id xs all.1 q

later_go : (id : List ℕ) (x : Entry) (xs : List Entry) (o : Option ℕ) (p : ℕ) → bytes_eq x.id id ≡ false → option_map suc o ≡ Some p
    → ((r : ℕ) → o ≡ Some r → (q : ℕ) → has_id id (slice_get xs q) ≡ (r == q)) → (q : ℕ) → has_id id (slice_get (x ∷ xs) q) ≡ (p == q)
later_go id x xs None p test h rest q = cc
later_go id x xs (Some r) p test h rest zero = let is : suc r ≡ p = cc in test ∙ grind (arith, nat_tests, is)
later_go id x xs (Some r) p test h rest (suc q) = let is : suc r ≡ p = cc in rest r refl q ∙ grind (arith, nat_tests, is)

there_go : (b : Bool) (id : List ℕ) (x : Entry) (xs : List Entry) (o : Option ℕ) (p : ℕ) → bytes_eq x.id id ≡ b → AllByRecursion (λ k. order x.id k ≡ Less) (map entry_key xs) → (if b then Some 0 else option_map suc o) ≡ Some p
    → ((r : ℕ) → o ≡ Some r → (q : ℕ) → has_id id (slice_get xs q) ≡ (r == q)) → (q : ℕ) → has_id id (slice_get (x ∷ xs) q) ≡ (p == q)
there_go true id x xs o p test all h rest zero = let is : 0 ≡ p = cc in test ∙ grind (arith, nat_tests, is)
there_go true id x xs o p test all h rest (suc q) =
    let is : 0 ≡ p = cc in
    below_all id xs (subst (λ (i : List ℕ). AllByRecursion (λ k. order i k ≡ Less) (map entry_key xs)) ((bytes_decides x.id id).0 test) all) q ∙ grind (arith, nat_tests, is)
there_go false id x xs o p test all h rest q = later_go id x xs o p test h rest q

-- an id stands at its place and nowhere else
pub only_there : (id : List ℕ) (xs : List Entry) → Rises (map entry_key xs) → (p : ℕ) → place_at entry_key xs id ≡ Some p → (q : ℕ) → has_id id (slice_get xs q) ≡ (p == q)
unfolding place_at IsStrictlySortedBy
only_there id [] rises p h q = cc
only_there id (x ∷ xs) rises p h q = there_go (bytes_eq x.id id) id x xs (place_at entry_key xs id) p refl rises.0 h (only_there id xs rises.1) q
