-- The block in which a key stands.
use Rattle.std.specs.Prelude.{◌≡◌, ◌++◌, ℕ, zero, suc, ◌-◌, ◌<◌, ◌≤◌, not, Bool, true, false, if◌then◌else◌, List, [], ◌∷◌, map, filter, take, drop, length, slice_get, slice_index_or, Option, Some, None}
use Rattle.std.specs.Str.{bytes_eq}
use Rattle.std.specs.List.{AllByRecursion, AllWithin}
use Rattle.std.specs.List.Sorted.{IsStrictlySortedBy, IsPartitionedBy}
use Rattle.std.specs.Ordering.{is_lt, is_gt, is_eq}
use Rattle.std.proofs.Common.{Ordering, Less, Equal, Greater, arith, refl, sym, ◌∙◌, ap, subst, append_assoc, append-nil, length-append}
use Rattle.std.proofs.lemmas.Map.Text.{is_eq-slice_cmp}
use Rattle.list_laws.specs.Lists.{Rises}
use Rattle.list_laws.specs.Keys.{item_at}
use Rattle.list_laws.proofs.Order.{order}
use Rattle.list_laws.proofs.Keys.{parted}
use Rattle.list_laws.proofs.Elements.{all_append, all_back, all_take, all_drop}
use Rattle.sorted_blocks.specs.Blocks.{join, AreFilled, is_below, is_above, with_item}
use Rattle.sorted_blocks.specs.Places.{begins_up_to, block_in, IsPlace}
use Rattle.sorted_blocks.proofs.Partitions.{below_first, up_to_down, above_up}

-- ---- parts of lists

passes_all : {X : Type 0} (p : X → Bool) (xs : List X) → AllByRecursion (λ x. p x ≡ true) xs → filter p xs ≡ xs
passes_all p [] all = refl
passes_all p (x ∷ xs) all = rw all.0 (ap (λ l. x ∷ l) (passes_all p xs all.1))

passes_none : {X : Type 0} (p : X → Bool) (xs : List X) → AllByRecursion (λ x. p x ≡ false) xs → filter p xs ≡ []
passes_none p [] all = refl
passes_none p (x ∷ xs) all = rw all.0 (passes_none p xs all.1)

chosen_go : {X : Type 0} (p : X → Bool) (x : X) (xs ys : List X) (b : Bool) → filter p (xs ++ ys) ≡ filter p xs ++ filter p ys → (if b then x ∷ filter p (xs ++ ys) else filter p (xs ++ ys)) ≡ (if b then x ∷ filter p xs else filter p xs) ++ filter p ys
chosen_go p x xs ys true same = ap (λ l. x ∷ l) same
chosen_go p x xs ys false same = same

chosen_both : {X : Type 0} (p : X → Bool) (xs ys : List X) → filter p (xs ++ ys) ≡ filter p xs ++ filter p ys
chosen_both p [] ys = refl
chosen_both p (x ∷ xs) ys = chosen_go p x xs ys (p x) (chosen_both p xs ys)

pub filled_more : {X : Type 0} (blocks : List (List X)) (block : List X) → AreFilled blocks → 0 < length block → AreFilled (blocks ++ block ∷ [])
filled_more blocks block filled some = all_append (λ b. 0 < length b) blocks (block ∷ []) filled (some, tt)

pub join_both : {X : Type 0} (xs ys : List (List X)) → join (xs ++ ys) ≡ join xs ++ join ys
join_both [] ys = refl
join_both (x ∷ xs) ys = ap (λ l. x ++ l) (join_both xs ys) ∙ sym (append_assoc x (join xs) (join ys))

pub join_more : {X : Type 0} (xs : List (List X)) (block : List X) → join (xs ++ block ∷ []) ≡ join xs ++ block
join_more xs block = join_both xs (block ∷ []) ∙ ap (λ l. join xs ++ l) (append-nil block)

-- the blocks before a place, the one there, and those after
pub three : {X : Type 0} (n : ℕ) (blocks : List (List X)) → join blocks ≡ join (take n blocks) ++ (block_in n blocks ++ join (drop (suc n) blocks))
unfolding block_in
three zero [] = refl
three (suc n) [] = refl
three zero (b ∷ bs) = refl
three (suc n) (b ∷ bs) = ap (λ l. b ++ l) (three n bs) ∙ sym (append_assoc b (join (take n bs)) (block_in n bs ++ join (drop (suc n) bs)))

pub at_split : {X : Type 0} (n : ℕ) (blocks : List (List X)) (b : List X) (bs : List (List X)) → drop n blocks ≡ b ∷ bs → (block_in n blocks ≡ b) × (drop (suc n) blocks ≡ bs)
unfolding block_in
at_split zero [] b bs is = grind (arith, is)
at_split (suc n) [] b bs is = grind (arith, is)
at_split zero (c ∷ cs) b bs is = (ap (λ l. block_in 0 l) is, ap (λ l. drop 1 l) is)
at_split (suc n) (c ∷ cs) b bs is = at_split n cs b bs is

pub at_end : {X : Type 0} (n : ℕ) (blocks : List (List X)) → drop n blocks ≡ [] → (block_in n blocks ≡ []) × (drop (suc n) blocks ≡ [])
unfolding block_in
at_end zero [] is = (refl, refl)
at_end (suc n) [] is = (refl, refl)
at_end zero (c ∷ cs) is = grind (arith, is)
at_end (suc n) (c ∷ cs) is = at_end n cs is

module _ {X : Type 0} (key : X → List ℕ) (k : List ℕ) where
  rises_behind : (xs ys : List X) → Rises (map key (xs ++ ys)) → Rises (map key ys)
  unfolding IsStrictlySortedBy
  rises_behind [] ys rises = rises
  rises_behind (x ∷ xs) ys rises = rises_behind xs ys rises.1

  keys_front : (P : List ℕ → Type 0) (xs ys : List X) → AllByRecursion P (map key (xs ++ ys)) → AllByRecursion P (map key xs)
  keys_front P [] ys all = tt
  keys_front P (x ∷ xs) ys all = (all.0, keys_front P xs ys all.1)

  keys_behind : (P : List ℕ → Type 0) (xs ys : List X) → AllByRecursion P (map key (xs ++ ys)) → AllByRecursion P (map key ys)
  keys_behind P [] ys all = all
  keys_behind P (x ∷ xs) ys all = keys_behind P xs ys all.1

  rises_front : (xs ys : List X) → Rises (map key (xs ++ ys)) → Rises (map key xs)
  unfolding IsStrictlySortedBy
  rises_front [] ys rises = tt
  rises_front (x ∷ xs) ys rises = (keys_front (λ z. order (key x) z ≡ Less) xs ys rises.0, rises_front xs ys rises.1)

  -- each block rises
  pub rises_in : (n : ℕ) (blocks : List (List X)) → Rises (map key (join blocks)) → Rises (map key (block_in n blocks))
  rises_in n blocks rises =
      rises_front (block_in n blocks) (join (drop (suc n) blocks))
      (rises_behind (join (take n blocks)) (block_in n blocks ++ join (drop (suc n) blocks)) (subst (λ l. Rises (map key l)) (three n blocks) rises))

  -- ---- the blocks that begin up to the key are the first

  -- the first item, if there is one, is above this key
  abbrev FirstAbove : List ℕ → List X → Type 0
  FirstAbove z [] = z ≡ z
  FirstAbove z (x ∷ xs) = order z (key x) ≡ Less

  first_of : (z : List ℕ) (b : List X) (rest : List X) → AllByRecursion (λ y. order z y ≡ Less) (map key (b ++ rest)) → FirstAbove z b
  first_of z [] rest all = refl
  first_of z (x ∷ xs) rest all = all.0

  first_at : (z : List ℕ) (bs : List (List X)) (j : ℕ) (d : List X) → j < length bs → AllByRecursion (λ y. order z y ≡ Less) (map key (join bs)) → FirstAbove z (slice_index_or bs j d)
  first_at z [] j d below all = absurd (omega (arith, below))
  first_at z (b ∷ bs) zero d below all = first_of z b (join bs) all
  first_at z (b ∷ bs) (suc j) d below all = first_at z bs j d (omega (arith, below)) (keys_behind (λ y. order z y ≡ Less) b (join bs) all)

  filled_at : (bs : List (List X)) (j : ℕ) (d : List X) → j < length bs → AreFilled bs → 0 < length (slice_index_or bs j d)
  filled_at [] j d below filled = absurd (omega (arith, below))
  filled_at (b ∷ bs) zero d below filled = filled.0
  filled_at (b ∷ bs) (suc j) d below filled = filled_at bs j d (omega (arith, below)) filled.1

  begins_down : (x : X) (c : List X) → FirstAbove (key x) c → 0 < length c → begins_up_to key k c ≡ true → not (is_above key k x) ≡ true
  unfolding begins_up_to
  begins_down x [] over some begins = absurd (omega (arith, some))
  begins_down x (y ∷ ys) over some begins = up_to_down key k x y over begins

  begins_before : (b : List X) (bs : List (List X)) (c : List X) → 0 < length b → Rises (map key (b ++ join bs)) → ((z : List ℕ) → AllByRecursion (λ y. order z y ≡ Less) (map key (join bs)) → FirstAbove z c) → 0 < length c → begins_up_to key k c ≡ true → begins_up_to key k b ≡ true
  unfolding begins_up_to IsStrictlySortedBy
  begins_before [] bs c some rises over there begins = refl
  begins_before (x ∷ xs) bs c some rises over there begins =
      begins_down x c (over (key x) (keys_behind (λ y. order (key x) y ≡ Less) xs (join bs) rises.0)) there begins

  parted_go : (blocks : List (List X)) → AreFilled blocks → Rises (map key (join blocks)) → (i j : ℕ) (d : List X) → i ≤ j → j < length blocks → begins_up_to key k (slice_index_or blocks j d) ≡ true → begins_up_to key k (slice_index_or blocks i d) ≡ true
  parted_go [] filled rises i j d le below passes = absurd (omega (arith, below))
  parted_go (b ∷ bs) filled rises zero zero d le below passes = passes
  parted_go (b ∷ bs) filled rises zero (suc j) d le below passes =
      begins_before b bs (slice_index_or bs j d) filled.0 rises (λ z all. first_at z bs j d (omega (arith, below)) all) (filled_at bs j d (omega (arith, below)) filled.1) passes
  parted_go (b ∷ bs) filled rises (suc i) zero d le below passes = absurd (omega (arith, le))
  parted_go (b ∷ bs) filled rises (suc i) (suc j) d le below passes = parted_go bs filled.1 (rises_behind b (join bs) rises) i j d (omega (arith, le)) (omega (arith, below)) passes

  pub parted_blocks : (blocks : List (List X)) → AreFilled blocks → Rises (map key (join blocks)) → IsPartitionedBy (begins_up_to key k) blocks
  parted_blocks blocks filled rises = parted_go blocks filled rises

  -- ---- the last of these is the place

  over_all : (x : X) (xs : List X) → AllByRecursion (λ y. order (key x) y ≡ Less) (map key xs) → is_above key k x ≡ true → AllByRecursion (λ y. is_above key k y ≡ true) xs
  over_all x [] all over = tt
  over_all x (y ∷ ys) all over = (above_up key k x y all.0 over, over_all x ys all.1 over)

  turned : (b : Bool) → not b ≡ false → b ≡ true
  turned true is = refl
  turned false is = grind (arith, is)

  -- where the first block begins above the key all is above it
  block_over : (b : List X) (bs : List (List X)) → 0 < length b → Rises (map key (b ++ join bs)) → begins_up_to key k b ≡ false → AllByRecursion (λ y. is_above key k y ≡ true) (b ++ join bs)
  unfolding begins_up_to IsStrictlySortedBy
  block_over [] bs some rises begins = absurd (omega (arith, some))
  block_over (x ∷ xs) bs some rises begins =
      let over : is_above key k x ≡ true = turned (is_above key k x) begins in
      (over, over_all x (xs ++ join bs) rises.0 over)

  all_over : (bs : List (List X)) → AreFilled bs → Rises (map key (join bs)) → AllWithin (λ b. begins_up_to key k b ≡ false) bs 0 (length bs) → AllByRecursion (λ y. is_above key k y ≡ true) (join bs)
  all_over [] filled rises failed = tt
  all_over (b ∷ bs) filled rises failed = block_over b bs filled.0 rises (failed 0 b (omega arith) (omega arith))

  under_all : (y : X) (xs : List X) → AllByRecursion (λ z. order z (key y) ≡ Less) (map key xs) → not (is_above key k y) ≡ true → AllByRecursion (λ x. is_below key k x ≡ true) xs
  under_all y [] all under = tt
  under_all y (x ∷ xs) all under = (below_first key k x y all.0 under, under_all y xs all.1 under)

  -- what stands before a block that begins up to the key is below it
  block_under : (b c : List X) (rest : List X) → 0 < length c → Rises (map key (b ++ (c ++ rest))) → begins_up_to key k c ≡ true → AllByRecursion (λ x. is_below key k x ≡ true) b
  unfolding begins_up_to
  block_under b [] rest some rises begins = absurd (omega (arith, some))
  block_under b (y ∷ ys) rest some rises begins = under_all y b (parted key b y (ys ++ rest) rises).under begins

  place_go : (n : ℕ) (blocks : List (List X)) → AreFilled blocks → Rises (map key (join blocks)) → suc n ≤ length blocks → AllWithin (λ b. begins_up_to key k b ≡ true) blocks 0 (suc n) → AllWithin (λ b. begins_up_to key k b ≡ false) blocks (suc n) (length blocks) → IsPlace key k n blocks
  place_go n [] filled rises few passed failed = absurd (omega (arith, few))
  place_go zero (b ∷ bs) filled rises few passed failed =
      record { before = tt; behind = all_over bs filled.1 (rises_behind b (join bs) rises) (λ j d low high. failed (suc j) d (omega (arith, low)) (omega (arith, high))) }
  place_go (suc n) (b ∷ []) filled rises few passed failed = absurd (omega (arith, few))
  place_go (suc n) (b ∷ c ∷ cs) filled rises few passed failed =
      let rest = place_go n (c ∷ cs) filled.1 (rises_behind b (join (c ∷ cs)) rises) (omega (arith, few)) (λ j d low high. passed (suc j) d (omega arith) (omega (arith, high))) (λ j d low high. failed (suc j) d (omega (arith, low)) (omega (arith, high))) in
      record {
        before = all_append (λ x. is_below key k x ≡ true) b (join (take n (c ∷ cs))) (block_under b c (join cs) filled.1.0 rises (passed 1 c (omega arith) (omega arith))) rest.before;
        behind = rest.behind;
      }

  none_go : (blocks : List (List X)) → AreFilled blocks → Rises (map key (join blocks)) → AllWithin (λ b. begins_up_to key k b ≡ false) blocks 0 (length blocks) → IsPlace key k 0 blocks
  none_go [] filled rises failed = record { before = tt; behind = tt }
  none_go (b ∷ bs) filled rises failed =
      record { before = tt; behind = all_back (λ y. is_above key k y ≡ true) b (join bs) (all_over (b ∷ bs) filled rises failed) }

  pub placed : (n : ℕ) (blocks : List (List X)) → AreFilled blocks → Rises (map key (join blocks)) → n ≤ length blocks → AllWithin (λ b. begins_up_to key k b ≡ true) blocks 0 n → AllWithin (λ b. begins_up_to key k b ≡ false) blocks n (length blocks) → IsPlace key k (n - 1) blocks
  placed zero blocks filled rises few passed failed = subst (λ m. IsPlace key k m blocks) (omega arith) (none_go blocks filled rises failed)
  placed (suc n) blocks filled rises few passed failed = subst (λ m. IsPlace key k m blocks) (omega arith) (place_go n blocks filled rises few passed failed)

  -- ---- what is found, and what is put

  other_below : (o : Ordering) → is_lt o ≡ true → is_eq o ≡ false
  other_below Less is = refl
  other_below Equal is = sym is
  other_below Greater is = refl

  other_above : (o : Ordering) → is_gt o ≡ true → is_eq o ≡ false
  other_above Less is = refl
  other_above Equal is = sym is
  other_above Greater is = refl

  skip : (xs ys : List X) → AllByRecursion (λ x. is_below key k x ≡ true) xs → item_at key (xs ++ ys) k ≡ item_at key ys k
  unfolding item_at
  skip [] ys all = refl
  skip (x ∷ xs) ys all = rw (sym (is_eq-slice_cmp (key x) k) ∙ other_below (order (key x) k) all.0) (skip xs ys all.1)

  none_over : (ys : List X) → AllByRecursion (λ x. is_above key k x ≡ true) ys → item_at key ys k ≡ item_at key [] k
  unfolding item_at
  none_over [] all = refl
  none_over (y ∷ ys) all = rw (sym (is_eq-slice_cmp (key y) k) ∙ other_above (order (key y) k) all.0) (none_over ys all.1)

  stop : (xs ys : List X) → AllByRecursion (λ x. is_above key k x ≡ true) ys → item_at key (xs ++ ys) k ≡ item_at key xs k
  unfolding item_at
  stop [] ys all = none_over ys all
  stop (x ∷ xs) ys all = ap (λ o. if bytes_eq (key x) k then Some x else o) (stop xs ys all)

  pub found : (n : ℕ) (blocks : List (List X)) → IsPlace key k n blocks → item_at key (block_in n blocks) k ≡ item_at key (join blocks) k
  found n blocks is =
      sym (ap (λ l. item_at key l k) (three n blocks)
      ∙ (skip (join (take n blocks)) (block_in n blocks ++ join (drop (suc n) blocks)) is.before ∙ stop (block_in n blocks) (join (drop (suc n) blocks)) is.behind))

  not_above : (o : Ordering) → is_lt o ≡ true → is_gt o ≡ false
  not_above Less is = refl
  not_above Equal is = refl
  not_above Greater is = sym is

  not_below : (o : Ordering) → is_gt o ≡ true → is_lt o ≡ false
  not_below Less is = sym is
  not_below Equal is = refl
  not_below Greater is = refl

  none_above : (xs : List X) → AllByRecursion (λ x. is_below key k x ≡ true) xs → AllByRecursion (λ x. is_above key k x ≡ false) xs
  none_above [] all = tt
  none_above (x ∷ xs) all = (not_above (order (key x) k) all.0, none_above xs all.1)

  none_below : (xs : List X) → AllByRecursion (λ x. is_above key k x ≡ true) xs → AllByRecursion (λ x. is_below key k x ≡ false) xs
  none_below [] all = tt
  none_below (x ∷ xs) all = (not_below (order (key x) k) all.0, none_below xs all.1)

  below_three : (front block back : List X) → AllByRecursion (λ x. is_below key k x ≡ true) front → AllByRecursion (λ x. is_above key k x ≡ true) back → filter (is_below key k) (front ++ (block ++ back)) ≡ front ++ filter (is_below key k) block
  below_three front block back under over =
      chosen_both (is_below key k) front (block ++ back)
      ∙ ((λ i. passes_all (is_below key k) front under i ++ chosen_both (is_below key k) block back i)
      ∙ ap (λ l. front ++ l) (ap (λ l. filter (is_below key k) block ++ l) (passes_none (is_below key k) back (none_below back over)) ∙ append-nil (filter (is_below key k) block)))

  above_three : (front block back : List X) → AllByRecursion (λ x. is_below key k x ≡ true) front → AllByRecursion (λ x. is_above key k x ≡ true) back → filter (is_above key k) (front ++ (block ++ back)) ≡ filter (is_above key k) block ++ back
  above_three front block back under over =
      chosen_both (is_above key k) front (block ++ back)
      ∙ ((λ i. passes_none (is_above key k) front (none_above front under) i ++ chosen_both (is_above key k) block back i)
      ∙ ap (λ l. filter (is_above key k) block ++ l) (passes_all (is_above key k) back over))

regroup : {X : Type 0} (front low high back : List X) (x : X) → (front ++ low) ++ x ∷ (high ++ back) ≡ front ++ ((low ++ x ∷ high) ++ back)
regroup front low high back x = append_assoc front low (x ∷ (high ++ back)) ∙ ap (λ l. front ++ l) (sym (append_assoc low (x ∷ high) back))

-- an item is put into the block in which its key stands
pub put_in : {X : Type 0} (key : X → List ℕ) (x : X) (n : ℕ) (blocks : List (List X)) → IsPlace key (key x) n blocks → join (take n blocks) ++ (with_item key x (block_in n blocks) ++ join (drop (suc n) blocks)) ≡ with_item key x (join blocks)
put_in key x n blocks is =
    let front = join (take n blocks) in
    let block = block_in n blocks in
    let back = join (drop (suc n) blocks) in
    sym (ap (λ l. filter (is_below key (key x)) l ++ x ∷ filter (is_above key (key x)) l) (three n blocks)
    ∙ ((λ i. below_three key (key x) front block back is.before is.behind i ++ x ∷ above_three key (key x) front block back is.before is.behind i)
    ∙ regroup front (filter (is_below key (key x)) block) (filter (is_above key (key x)) block) back x))

-- ---- the first item of a block

pub begins_first : {X : Type 0} (key : X → List ℕ) (k : List ℕ) (xs : List X) (x : X) → slice_get xs 0 ≡ Some x → begins_up_to key k xs ≡ not (is_above key k x)
unfolding begins_up_to
begins_first key k [] x is = grind (arith, is)
begins_first key k (y ∷ ys) x is = ap (λ z. not (is_above key k z)) (some_is is)
  where
    some_is : {A : Type 0} {a b : A} → Some a ≡ Some b → a ≡ b
    some_is {A} {a} {b} is = ap (λ o. given a o) is
      where
        given : {A : Type 0} → A → Option A → A
        given a None = a
        given a (Some b) = b

pub begins_none : {X : Type 0} (key : X → List ℕ) (k : List ℕ) (xs : List X) → slice_get xs 0 ≡ None → begins_up_to key k xs ≡ true
unfolding begins_up_to
begins_none key k [] is = refl
begins_none key k (y ∷ ys) is = grind (arith, is)

pub none_left : {A : Type 0} (xs : List A) → length xs ≡ 0 → xs ≡ []
none_left [] none = refl
none_left (x ∷ xs) none = absurd (omega (arith, none))

-- ---- all blocks with the changed one among them

pub some_put : {X : Type 0} (key : X → List ℕ) (x : X) (xs : List X) → 0 < length (with_item key x xs)
some_put key x xs = omega (arith, length-append (filter (is_below key (key x)) xs) (x ∷ filter (is_above key (key x)) xs))

pub put_whole : {X : Type 0} (key : X → List ℕ) (x : X) (n : ℕ) (blocks front made whole back : List (List X)) (block items : List X) → IsPlace key (key x) n blocks → front ≡ take n blocks → block ≡ block_in n blocks → back ≡ drop (suc n) blocks → items ≡ with_item key x block → join made ≡ join front ++ items → whole ≡ made ++ back → join whole ≡ with_item key x (join blocks)
put_whole key x n blocks front made whole back block items is first here last put parts all =
    ap join all
    ∙ (join_both made back
    ∙ ((λ i. parts i ++ join (last i))
    ∙ ((λ i. (join (first i) ++ (put ∙ ap (with_item key x) here) i) ++ join (drop (suc n) blocks))
    ∙ (append_assoc (join (take n blocks)) (with_item key x (block_in n blocks)) (join (drop (suc n) blocks))
    ∙ put_in key x n blocks is))))

pub filled_whole : {X : Type 0} (n : ℕ) (blocks front made whole back : List (List X)) → AreFilled blocks → front ≡ take n blocks → back ≡ drop (suc n) blocks → (AreFilled front → AreFilled made) → whole ≡ made ++ back → AreFilled whole
filled_whole n blocks front made whole back filled first last makes all =
    let some : AreFilled made = makes (subst AreFilled (sym first) (all_take (λ b. 0 < length b) n blocks filled)) in
    let behind : AreFilled back = subst AreFilled (sym last) (all_drop (λ b. 0 < length b) (suc n) blocks filled) in
    subst AreFilled (sym all) (all_append (λ b. 0 < length b) made back some behind)
