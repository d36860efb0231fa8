-- Laws of owners: what is added to one belongs to no other, and a sum does not care where an item stands.
use Rattle.std.specs.Prelude.{◌≡◌, ℕ, ◌+◌, ◌==◌, Bool, true, false, if◌then◌else◌, List, [], ◌∷◌, ◌++◌}
use Rattle.std.specs.List.{AllByRecursion}
use Rattle.std.proofs.Common.{zero, arith, refl, ◌∙◌, ap}
use Rattle.list_laws.proofs.Equality.{same_number}
use Rattle.wl_worker.proofs.Common.{owned_by, items_of, tag, one_apart}
use Rattle.wl_worker.specs.Owners.{tally}

-- ---- what one owner has

joined : {A : Type 0} (b : Bool) (x : A) (rest xs ys : List A) → rest ≡ xs ++ ys → (if b then x ∷ rest else rest) ≡ (if b then x ∷ xs else xs) ++ ys
joined true x rest xs ys is = ap (λ l. x ∷ l) is
joined false x rest xs ys is = is

pub owned_append : {A : Type 0} (k : ℕ) (xs ys : List (ℕ × A)) → owned_by k (xs ++ ys) ≡ owned_by k xs ++ owned_by k ys
owned_append k [] ys = refl
owned_append k (x ∷ xs) ys = joined (x.0 == k) x.1 (owned_by k (xs ++ ys)) (owned_by k xs) (owned_by k ys) (owned_append k xs ys)

picked : {A : Type 0} (b : Bool) (x : A) (rest : List A) → b ≡ true → (if b then x ∷ rest else rest) ≡ x ∷ rest
picked true x rest is = refl
picked false x rest is = grind (arith, is)

passed : {A : Type 0} (b : Bool) (x : A) (rest : List A) → b ≡ false → (if b then x ∷ rest else rest) ≡ rest
passed true x rest is = grind (arith, is)
passed false x rest is = refl

pub own_tag : {A : Type 0} (k : ℕ) (ys : List A) → owned_by k (tag k ys) ≡ ys
own_tag k [] = refl
own_tag k (y ∷ ys) = picked (k == k) y (owned_by k (tag k ys)) (same_number k) ∙ ap (λ l. y ∷ l) (own_tag k ys)

pub other_tag : {A : Type 0} (k j : ℕ) (ys : List A) → (k == j) ≡ false → owned_by j (tag k ys) ≡ []
other_tag k j [] apart = refl
other_tag k j (y ∷ ys) apart = passed (k == j) y (owned_by j (tag k ys)) apart ∙ other_tag k j ys apart

pub none_after : {A : Type 0} (xs : List A) → xs ++ [] ≡ xs
none_after [] = refl
none_after (x ∷ xs) = ap (λ l. x ∷ l) (none_after xs)

-- ---- all items

pub items_append : {A : Type 0} (xs ys : List (ℕ × A)) → items_of (xs ++ ys) ≡ items_of xs ++ items_of ys
items_append [] ys = refl
items_append (x ∷ xs) ys = ap (λ l. x.1 ∷ l) (items_append xs ys)

pub items_tag : {A : Type 0} (k : ℕ) (ys : List A) → items_of (tag k ys) ≡ ys
items_tag k [] = refl
items_tag k (y ∷ ys) = ap (λ l. y ∷ l) (items_tag k ys)

-- ---- how often one is the owner

pub tally_append : {A : Type 0} (k : ℕ) (xs ys : List (ℕ × A)) → tally k (xs ++ ys) ≡ tally k xs + tally k ys
tally_append k [] ys = omega arith
tally_append k (x ∷ xs) ys = omega (arith, tally_append k xs ys)

-- wherever an item stands
pub tally_mid : {A : Type 0} (k o : ℕ) (x : A) (xs ys : List (ℕ × A)) → tally k (xs ++ (o, x) ∷ ys) ≡ one_apart o k + tally k (xs ++ ys)
tally_mid k o x [] ys = refl
tally_mid k o x (y ∷ xs) ys = omega (arith, tally_mid k o x xs ys)

pub own_once : (k : ℕ) → one_apart k k ≡ 1
own_once k = grind (arith, same_number k)

not_one : (b : Bool) → (if b then 1 else 0) ≡ zero → b ≡ false
not_one true is = grind (arith, is)
not_one false is = refl

pub apart : (o k : ℕ) → one_apart o k ≡ 0 → (o == k) ≡ false
apart o k is = not_one (o == k) is

-- where k owns none of them, each keeps what it has
pub each_other : {A : Type 0} {P Q : ℕ × A → Type 0} (k : ℕ) (xs : List (ℕ × A)) → tally k xs ≡ 0 → ((x : ℕ × A) → (x.0 == k) ≡ false → P x → Q x) → AllByRecursion P xs → AllByRecursion Q xs
each_other k [] none keeps all = tt
each_other k (x ∷ xs) none keeps all = (keeps x (apart x.0 k (omega (arith, none))) all.0, each_other k xs (omega (arith, none)) keeps all.1)

-- ---- where an item stands, its owner stands

-- the item x stands between xs and ys, and so does its owner's number
pub record Split {A : Type 0} (x : A) (xs ys : List A) (all : List (ℕ × A)) : Type 0 where
  pub front : List (ℕ × A)
  pub owner : ℕ
  pub back : List (ℕ × A)
  pub is : all ≡ front ++ (owner, x) ∷ back
  pub front_is : items_of front ≡ xs
  pub back_is : items_of back ≡ ys

heads : {A : Type 0} (x y : A) (xs ys : List A) → x ∷ xs ≡ y ∷ ys → (x ≡ y) × (xs ≡ ys)
heads x y xs ys is = (grind (arith, is), grind (arith, is))

pub split : {A : Type 0} (x : A) (xs ys : List A) (all : List (ℕ × A)) → items_of all ≡ xs ++ x ∷ ys → Split x xs ys all
split x [] ys [] is = absurd (grind (arith, is))
split x (w ∷ xs) ys [] is = absurd (grind (arith, is))
split x [] ys (n ∷ all) is =
    let parts = heads n.1 x (items_of all) ys is in
    record { front = []; owner = n.0; back = all; is = λ i. (n.0, parts.0 i) ∷ all; front_is = refl; back_is = parts.1 }
split x (w ∷ xs) ys (n ∷ all) is =
    let parts = heads n.1 w (items_of all) (xs ++ x ∷ ys) is in
    let rest = split x xs ys all parts.1 in
    record { front = n ∷ rest.front; owner = rest.owner; back = rest.back; is = λ i. n ∷ rest.is i; front_is = λ i. parts.0 i ∷ rest.front_is i; back_is = rest.back_is }
