-- A list by ascending key rises with one item more.
use Rattle.std.specs.Prelude.{◌≡◌, ◌++◌, ℕ, true, List, [], ◌∷◌, map, filter}
use Rattle.std.specs.List.{AllByRecursion}
use Rattle.std.specs.List.Sorted.{IsStrictlySortedBy}
use Rattle.std.specs.Cmp.Lexicographic.{nat_list_cmp_total}
use Rattle.std.proofs.Common.{Less, sym, ◌∙◌, subst}
use Rattle.list_laws.specs.Lists.{Rises}
use Rattle.list_laws.proofs.Order.{order}
use Rattle.list_laws.proofs.AscendingKeys.{keys_append, rises_filter}
use Rattle.list_laws.proofs.Elements.{all_pass}
use Rattle.sorted_blocks.specs.Blocks.{is_below, is_above, with_item}
use Rattle.sorted_blocks.proofs.Partitions.{is_less, is_more}

-- what is above a key is above each key below that one
pub all_past : (a b : List ℕ) (ks : List (List ℕ)) → order a b ≡ Less → AllByRecursion (λ k. order b k ≡ Less) ks → AllByRecursion (λ k. order a k ≡ Less) ks
all_past a b [] less all = tt
all_past a b (k ∷ ks) less all = (nat_list_cmp_total.trans a b k less all.0, all_past a b ks less all.1)

module _ {X : Type 0} (key : X → List ℕ) where
  all_under : (k : List ℕ) (xs : List X) → AllByRecursion (λ x. is_below key k x ≡ true) xs → AllByRecursion (λ z. order z k ≡ Less) (map key xs)
  all_under k [] all = tt
  all_under k (x ∷ xs) all = (is_less (order (key x) k) all.0, all_under k xs all.1)

  all_over : (k : List ℕ) (xs : List X) → AllByRecursion (λ x. is_above key k x ≡ true) xs → AllByRecursion (λ z. order k z ≡ Less) (map key xs)
  all_over k [] all = tt
  all_over k (x ∷ xs) all = (nat_list_cmp_total.antisymm k (key x) ∙ is_more (order (key x) k) all.0, all_over k xs all.1)

  rises_join : (xs : List X) (x : X) (ys : List X) → Rises (map key xs) → Rises (map key ys) → AllByRecursion (λ k. order k (key x) ≡ Less) (map key xs) → AllByRecursion (λ k. order (key x) k ≡ Less) (map key ys) → Rises (map key (xs ++ x ∷ ys))
  unfolding IsStrictlySortedBy
  rises_join [] x ys front back under over = (over, back)
  rises_join (z ∷ zs) x ys front back under over = (
    keys_append (λ k. order (key z) k ≡ Less) key zs (x ∷ ys) front.0 (under.0, all_past (key z) (key x) (map key ys) under.0 over),
    rises_join zs x ys front.1 back under.1 over,
  )

  pub rises_with : (x : X) (xs : List X) → Rises (map key xs) → Rises (map key (with_item key x xs))
  rises_with x xs rises =
      rises_join (filter (is_below key (key x)) xs) x (filter (is_above key (key x)) xs)
      (rises_filter key (is_below key (key x)) xs rises) (rises_filter key (is_above key (key x)) xs rises)
      (all_under (key x) (filter (is_below key (key x)) xs) (all_pass (is_below key (key x)) xs))
      (all_over (key x) (filter (is_above key (key x)) xs) (all_pass (is_above key (key x)) xs))

pub none_rises : {X : Type 0} (key : X → List ℕ) (xs : List X) → xs ≡ [] → Rises (map key xs)
unfolding IsStrictlySortedBy
none_rises key xs none = subst (λ l. Rises (map key l)) (sym none) tt
