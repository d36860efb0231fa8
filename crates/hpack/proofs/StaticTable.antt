-- The static table's empty values: a computed test.
use Rattle.std.proofs.Common.{◌≡◌, ℕ, ◌+◌, ◌-◌, ◌<◌, ◌≤◌, List, [], map, length, get_or, refl, ap, ◌∙◌, arith, inl, inr, zero, suc, zero-add, ◌++◌, ◌∷◌, Ok, Err, Some}
use Rattle.std.specs.List.{range_with_len}
use Rattle.std.proofs.lemmas.Bool.{cases_lt, ne_eqb}
use Rattle.std.proofs.lemmas.List.{get_or_past}
use Rattle.std.proofs.lemmas.Option.{slice_get_read, slice_get_past}
use Rattle.hpack.proofs.Common.{static_table, no_field, entry_at, Header}
use Rattle.hpack.specs.Tables.{entry_or_fault}
use Rattle.std.specs.List.{slice_get}
use Rattle.hpack.specs.declared.fault.HpackFault.TheVariants as faults
use Rattle.hpack.proofs.Bits.{each_below}

values : map (λ place. (get_or static_table (16 + place) no_field).value) (range_with_len 0 45) ≡ map (λ place. []) (range_with_len 0 45)
unfolding static_table
values = refl

pub static_count : length static_table ≡ 61
unfolding static_table
static_count = refl

pub no_value : (place : ℕ) → 16 ≤ place → (get_or static_table place no_field).value ≡ []
no_value place from =
    elim (cases_lt place 61) [
      | inl lt ↦
          let e : 16 + (place - 16) ≡ place = omega arith in
          rw e at (each_below (λ p. (get_or static_table (16 + p) no_field).value) (λ p. []) 45 (place - 16) values (omega arith))
      | inr past ↦ ap (λ entry. entry.value) (get_or_past static_table place no_field (omega (arith, static_count)))
    ]

-- ---- the static table, and the dynamic one after it

slice_get-left : {A : Type 0} (xs ys : List A) (i : ℕ) (d : A) → i < length xs → slice_get (xs ++ ys) i ≡ Some (get_or xs i d)
slice_get-left [] ys i d lt = absurd (omega arith)
slice_get-left (x ∷ xs) ys zero d lt = refl
slice_get-left (x ∷ xs) ys (suc i) d lt = slice_get-left xs ys i d (omega arith)

slice_get-right : {A : Type 0} (xs ys : List A) (i : ℕ) → slice_get (xs ++ ys) (length xs + i) ≡ slice_get ys i
slice_get-right [] ys i = rw zero-add refl
slice_get-right (x ∷ xs) ys i = let e : length (x ∷ xs) + i ≡ suc (length xs + i) = omega arith in rw e (slice_get-right xs ys i)

pub entry-zero : (items : List Header) → entry_at items 0 ≡ Err faults.Index
unfolding entry_at
entry-zero items = refl

pub entry-static : (items : List Header) (index : ℕ) → 0 < index → index - 1 < 61 → entry_at items index ≡ Ok (get_or static_table (index - 1) no_field)
unfolding entry_at
entry-static items index from lt = rw (ne_eqb index 0 (omega arith), slice_get-left static_table items (index - 1) no_field (omega (arith, static_count))) refl

pub entry-dynamic : (items : List Header) (index : ℕ) → 61 ≤ index - 1 → entry_at items index ≡ entry_or_fault (slice_get items (index - 1 - 61))
unfolding entry_at
entry-dynamic items index from =
    let e : index - 1 ≡ length static_table + (index - 1 - 61) = omega (arith, static_count) in
    let g : slice_get (static_table ++ items) (index - 1) ≡ slice_get items (index - 1 - 61) = ap (slice_get (static_table ++ items)) e ∙ slice_get-right static_table items (index - 1 - 61) in
    rw (ne_eqb index 0 (omega arith), g) refl

pub entry-there : (items : List Header) (index : ℕ) (header : Header) → 61 ≤ index - 1 → index - 1 - 61 < length items → header ≡ get_or items (index - 1 - 61) header → entry_at items index ≡ Ok header
entry-there items index header from lt is = rw (entry-dynamic items index from, slice_get_read items (length items) (index - 1 - 61) header refl lt is) refl

pub entry-past : (items : List Header) (index : ℕ) → 61 ≤ index - 1 → length items ≤ index - 1 - 61 → entry_at items index ≡ Err faults.Index
entry-past items index from past = rw (entry-dynamic items index from, slice_get_past items (index - 1 - 61) past) refl

pub entry-placed : (items : List Header) (place : ℕ) → place < 61 → entry_at items (place + 1) ≡ Ok (get_or static_table place no_field)
entry-placed items place lt =
    let e : place + 1 - 1 ≡ place = omega arith in
    rw e at (entry-static items (place + 1) (omega arith) (omega arith))
