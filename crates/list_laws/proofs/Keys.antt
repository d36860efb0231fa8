-- Where the item of a key is in a list by ascending key, and that each item is the one of its key.
use Rattle.std.specs.Prelude.{◌≡◌, ℕ, Bool, true, false, if◌then◌else◌, List, [], ◌∷◌, ◌++◌, map, find, Option, Some, IfSome}
use Rattle.std.specs.Str.{bytes_eq}
use Rattle.std.specs.List.{AllByRecursion}
use Rattle.std.specs.List.Sorted.{IsStrictlySortedBy}
use Rattle.std.specs.Ordering.{is_eq, ordering_reverse}
use Rattle.std.specs.Cmp.Lexicographic.{nat_list_cmp_total}
use Rattle.std.proofs.Common.{Less, Equal, refl, sym, ◌∙◌, ap, subst}
use Rattle.std.proofs.lemmas.List.{append_assoc}
use Rattle.std.proofs.lemmas.Map.Text.{is_eq-slice_cmp}
use Rattle.std.proofs.lemmas.Slice.Eq.{bytes_eq-Decides}
use Rattle.list_laws.specs.Lists.{Rises}
use Rattle.list_laws.specs.Keys.{item_at}
use Rattle.list_laws.proofs.Order.{order, not_same, level_self}

-- items below the key are passed over
pub skip_below : {X : Type 0} (key : X → List ℕ) (k : List ℕ) (below rest : List X) → AllByRecursion (λ z. order z k ≡ Less) (map key below) → item_at key (below ++ rest) k ≡ item_at key rest k
unfolding item_at
skip_below key k [] rest all = refl
skip_below key k (z ∷ zs) rest all = rw (not_same (key z) k Less all.0 refl) (skip_below key k zs rest all.1)

-- what rises up to an item is below it, and both parts rise
pub record Parted {X : Type 0} (key : X → List ℕ) (below : List X) (first : X) (above : List X) : Type 0 where
  pub under : AllByRecursion (λ z. order z (key first) ≡ Less) (map key below)
  pub over : AllByRecursion (λ y. order (key first) y ≡ Less) (map key above)
  pub front : Rises (map key below)
  pub back : Rises (map key above)

last_of : {X : Type 0} (key : X → List ℕ) (z : List ℕ) (below : List X) (first : X) (above : List X) → AllByRecursion (λ y. order z y ≡ Less) (map key (below ++ first ∷ above)) → order z (key first) ≡ Less
last_of key z [] first above all = all.0
last_of key z (b ∷ bs) first above all = last_of key z bs first above all.1

front_of : {X : Type 0} (key : X → List ℕ) (z : List ℕ) (below : List X) (rest : List X) → AllByRecursion (λ y. order z y ≡ Less) (map key (below ++ rest)) → AllByRecursion (λ y. order z y ≡ Less) (map key below)
front_of key z [] rest all = tt
front_of key z (b ∷ bs) rest all = (all.0, front_of key z bs rest all.1)

pub parted : {X : Type 0} (key : X → List ℕ) (below : List X) (first : X) (above : List X) → Rises (map key (below ++ first ∷ above)) → Parted key below first above
unfolding IsStrictlySortedBy
parted key [] first above rises = record { under = tt; over = rises.0; front = tt; back = rises.1 }
parted key (z ∷ zs) first above rises =
    let rest = parted key zs first above rises.1 in
    record { under = (last_of key (key z) zs first above rises.0, rest.under); over = rest.over; front = (front_of key (key z) zs (first ∷ above) rises.0, rest.front); back = rest.back }

pub all_below : (k x : List ℕ) (zs : List (List ℕ)) → order x k ≡ Less → AllByRecursion (λ z. order z x ≡ Less) zs → AllByRecursion (λ z. order z k ≡ Less) zs
all_below k x [] less all = tt
all_below k x (z ∷ zs) less all = (nat_list_cmp_total.trans z x k all.0 less, all_below k x zs less all.1)

pub level : (x k z : List ℕ) → order x k ≡ Equal → order z x ≡ Less → order z k ≡ Less
level x k z same less = nat_list_cmp_total.antisymm z k ∙ ap ordering_reverse (sym (nat_list_cmp_total.congr x k z same)) ∙ sym (nat_list_cmp_total.antisymm z x) ∙ less

pub all_level : (k x : List ℕ) (zs : List (List ℕ)) → order x k ≡ Equal → AllByRecursion (λ z. order z x ≡ Less) zs → AllByRecursion (λ z. order z k ≡ Less) zs
all_level k x [] same all = tt
all_level k x (z ∷ zs) same all = (level x k z same all.0, all_level k x zs same all.1)

-- it has the key
pub go_there : {X : Type 0} (key : X → List ℕ) (k : List ℕ) (below : List X) (first : X) (above : List X) → Parted key below first above → order (key first) k ≡ Equal → item_at key (below ++ first ∷ above) k ≡ Some first
unfolding item_at
go_there key k below first above p same =
    skip_below key k below (first ∷ above) (all_level k (key first) (map key below) same p.under) ∙ rw (sym (is_eq-slice_cmp (key first) k) ∙ ap is_eq same) refl

-- the parts of a list that rises
pub parts_of : {X : Type 0} (key : X → List ℕ) (items below : List X) (first : X) (above : List X) → items ≡ below ++ first ∷ above → Rises (map key items) → Parted key below first above
parts_of key items below first above parts rises = parted key below first above (subst (λ xs. Rises (map key xs)) parts rises)

found_behind : {X : Type 0} (key : X → List ℕ) (front xs : List X) → Rises (map key (front ++ xs)) → AllByRecursion (λ x. item_at key (front ++ xs) (key x) ≡ Some x) xs
found_behind key front [] rises = tt
found_behind key front (x ∷ xs) rises =
    let here = go_there key (key x) front x xs (parted key front x xs rises) (level_self (key x)) in
    let same = append_assoc front (x ∷ []) xs in
    let rest = found_behind key (front ++ x ∷ []) xs (subst (λ l. Rises (map key l)) (sym same) rises) in
    (here, subst (λ l. AllByRecursion (λ y. item_at key l (key y) ≡ Some y) xs) same rest)

-- each item is the one of its key
pub found_all : {X : Type 0} (key : X → List ℕ) (xs : List X) → Rises (map key xs) → AllByRecursion (λ x. item_at key xs (key x) ≡ Some x) xs
found_all key xs rises = found_behind key [] xs rises

there_go : {X : Type 0} (P : X → Type 0) (key : X → List ℕ) (k : List ℕ) (x : X) (rest : Option X) (b : Bool) → b ≡ bytes_eq (key x) k → P x → IfSome rest (λ y. P y × (key y ≡ k)) → IfSome (if b then Some x else rest) (λ y. P y × (key y ≡ k))
there_go P key k x rest true same here there = (here, (bytes_eq-Decides (key x) k).0 (sym same))
there_go P key k x rest false same here there = there

-- the item that is found has the key, and what each item has
pub found_has : {X : Type 0} (P : X → Type 0) (key : X → List ℕ) (xs : List X) (k : List ℕ) → AllByRecursion P xs → IfSome (item_at key xs k) (λ y. P y × (key y ≡ k))
unfolding item_at
found_has P key [] k all = tt
found_has P key (x ∷ xs) k all = there_go P key k x (find (λ y. bytes_eq (key y) k) xs) (bytes_eq (key x) k) refl all.0 (found_has P key xs k all.1)
