-- What is written is a block of the standard.
use Rattle.std.proofs.Common.{◌≡◌, ℕ, zero, suc, ◌+◌, ◌-◌, ◌*◌, ◌/◌, ◌%◌, ◌^◌, ◌<◌, ◌≤◌, Bool, true, false, List, [], ◌∷◌, ◌++◌, length, get_or, refl, sym, ap, subst, ◌∙◌, arith, inl, inr, append_assoc, slice_index, Option, Some, None, Ok}
use Rattle.std.specs.List.{position}
use Rattle.std.specs.Str.{bytes_eq}
use Rattle.std.proofs.lemmas.Bool.{cases_lt, lt-ltb, le-ltb, lt-leb, and_parts}
use Rattle.std.proofs.lemmas.List.Sums.{position_or_len_is}
use Rattle.std.proofs.lemmas.List.Quantifiers.{position-Some}
use Rattle.list_laws.proofs.Equality.{bytes_are}
use Rattle.std.proofs.Math.Nat.{pow-suc}
use Rattle.hpack.proofs.Common.{Header, Table, size_of, list_size, static_table, no_field, entry_at, block_of, IsInteger, IsName, indexed_name, new_name, Represents}
use Rattle.hpack.specs.Reading.{is_coded}
use Rattle.hpack.specs.Grammar.{Continues, groups, IsString, indexed, not_indexing, Names, ended, named, IsBlock}
use Rattle.hpack.specs.Writing.{more_in, more_bytes, integer_bytes, plain_string, same_field, same_name, NoNameBelow, name_bytes, field_bytes_at, field_bytes, block_bytes}
use Rattle.hpack.proofs.Eviction.{list_size-cons}
use Rattle.hpack.proofs.Headers.{block_only}
use Rattle.hpack.proofs.Numbers.{continues-cons, long_integer}
use Rattle.hpack.proofs.StaticTable.{static_count, entry-placed}

-- counts that are enough agree
more_in_enough : (n m value : ℕ) → value ≤ n → value ≤ m → more_in n value ≡ more_in m value
unfolding more_in
more_in_enough zero zero value vn vm = refl
more_in_enough zero (suc m) value vn vm = let small : value < 128 = omega arith in rw (lt-ltb value 128 small) refl
more_in_enough (suc n) zero value vn vm = let small : value < 128 = omega arith in rw (lt-ltb value 128 small) refl
more_in_enough (suc n) (suc m) value vn vm =
    elim (cases_lt value 128) [
      | inl small ↦ rw (lt-ltb value 128 small) refl
      | inr large ↦ rw (le-ltb value 128 large) (ap (λ (bytes : List ℕ). (128 + value % 128) ∷ bytes) (more_in_enough n m (value / 128) (omega arith) (omega arith)))
    ]

pub more_bytes_last : (value : ℕ) → value < 128 → more_bytes value ≡ value ∷ []
unfolding more_bytes more_in
more_bytes_last zero small = refl
more_bytes_last (suc v) small = rw (lt-ltb (suc v) 128 small) refl

pub more_bytes_more : (value : ℕ) → 128 ≤ value → more_bytes value ≡ (128 + value % 128) ∷ more_bytes (value / 128)
unfolding more_bytes more_in
more_bytes_more zero large = absurd (omega arith)
more_bytes_more (suc v) large =
    rw (le-ltb (suc v) 128 large) (ap (λ (bytes : List ℕ). (128 + suc v % 128) ∷ bytes) (more_in_enough v (suc v / 128) (suc v / 128) (omega arith) (omega arith)))

pub put_last : (value : ℕ) (old mid new : List ℕ) → 128 ≤ value → mid ≡ old ++ (128 + value % 128) ∷ [] → new ≡ mid ++ more_bytes (value / 128) → new ≡ old ++ more_bytes value
put_last value old mid new large one two =
    two ∙ (ap (λ xs. xs ++ more_bytes (value / 128)) one ∙ (append_assoc old ((128 + value % 128) ∷ []) (more_bytes (value / 128)) ∙ ap (λ xs. old ++ xs) (sym (more_bytes_more value large))))

-- ---- first places

pub position_is : {X : Type 0} (p : X → Bool) (xs : List X) (i : ℕ) (d : X) → i < length xs → ((k : ℕ) → k < i → p (get_or xs k d) ≡ false) → p (get_or xs i d) ≡ true → Some i ≡ position p xs
position_is p xs i d lt before there =
    let e = position_or_len_is p xs i d (omega arith) before (λ _. there) in
    rw (e, lt-ltb i (length xs) lt) refl

pub position_none : {X : Type 0} (p : X → Bool) (xs : List X) (n : ℕ) (d : X) → length xs ≤ n → ((k : ℕ) → k < n → p (get_or xs k d) ≡ false) → None ≡ position p xs
position_none p xs n d le before =
    let e = position_or_len_is p xs (length xs) d (omega arith) (λ k lt. before k (omega arith)) (λ lt. absurd (omega arith)) in
    rw (e, le-ltb (length xs) (length xs) (omega arith)) refl

pub no_field_below : (header : Header) (end : ℕ) → NoNameBelow header end → (k : ℕ) → k < end → same_field header (get_or static_table k no_field) ≡ false
no_field_below header end none k lt = rw (none k lt) refl

pub no_field_at_all : (header : Header) → NoNameBelow header 61 → position (same_field header) static_table ≡ None
no_field_at_all header none = sym (position_none (same_field header) static_table 61 no_field (omega (arith, static_count)) (no_field_below header 61 none))

-- a literal with a new name, as it is written
pub literal_written : (header : Header) (old one two new : List ℕ) → NoNameBelow header 61 → None ≡ position (same_name header) static_table → one ≡ old ++ 0 ∷ [] → two ≡ one ++ plain_string header.name → new ≡ two ++ plain_string header.value → new ≡ old ++ field_bytes header
unfolding field_bytes
literal_written header old one two new none absent first second third =
    let no_name : position (same_name header) static_table ≡ None = sym absent in
    rw (no_field_at_all header none, no_name, third, second, first) (simp append_assoc)

-- ---- integers

more_in_is : (count value : ℕ) → value ≤ count → Continues (more_in count value) × (groups (more_in count value) ≡ value)
unfolding more_in groups
more_in_is zero value le = (omega arith, omega arith)
more_in_is (suc count) value le =
    elim (cases_lt value 128) [
      | inl small ↦ rw (lt-ltb value 128 small) (small, omega arith)
      | inr large ↦
          let later = more_in_is count (value / 128) (omega arith) in
          rw (le-ltb value 128 large) (continues-cons (128 + value % 128) (more_in count (value / 128)) (omega arith) later.0, omega (arith, later.1))
    ]

more_is : (value : ℕ) → Continues (more_bytes value) × (groups (more_bytes value) ≡ value)
unfolding more_bytes
more_is value = more_in_is value value (omega arith)

pub more_short : (count value : ℕ) → value < 128 * 128 ^ count → length (more_bytes value) ≤ suc count
more_short zero value lt = let small : value < 128 = omega arith in rw (more_bytes_last value small) (omega arith)
more_short (suc count) value lt =
    elim (cases_lt value 128) [
      | inl small ↦ rw (more_bytes_last value small) (omega arith)
      | inr large ↦
          let fits : value < 128 * (128 ^ count * 128) = rw (← pow-suc 128 count) lt in
          let later = more_short count (value / 128) (omega arith) in
          rw (more_bytes_more value large) (omega arith)
    ]

pub integer_spelled : (pattern full value : ℕ) → ((n : ℕ) → n ≤ full → (pattern + n) % (full + 1) ≡ n) → value < 2 ^ 32 → IsInteger full (integer_bytes pattern full value) value
unfolding integer_bytes
integer_spelled pattern full value apart fits =
    elim (cases_lt value full) [
      | inl short ↦ rw (lt-ltb value full short) (sym (apart value (omega arith)), short)
      | inr long ↦
          let more = more_is (value - full) in
          rw (le-ltb value full long) (long_integer full (pattern + full) (more_bytes (value - full)) value (apart full (omega arith)) (more.0, more_short 4 (value - full) (omega arith), omega (arith, more.1), fits))
    ]

first_byte : (pattern full value : ℕ) → (pattern ≤ slice_index (integer_bytes pattern full value) 0) × (slice_index (integer_bytes pattern full value) 0 ≤ pattern + full)
unfolding integer_bytes
first_byte pattern full value =
    elim (cases_lt value full) [
      | inl short ↦ rw (lt-ltb value full short) (omega arith, omega arith)
      | inr long ↦ rw (le-ltb value full long) (omega arith, omega arith)
    ]

integer_first : (pattern full value : ℕ) (rest : List ℕ) → pattern + full < 32 → slice_index (integer_bytes pattern full value ++ rest) 0 < 32
unfolding integer_bytes
integer_first pattern full value rest low =
    elim (cases_lt value full) [
      | inl short ↦ rw (lt-ltb value full short) (omega arith)
      | inr long ↦ rw (le-ltb value full long) (omega arith)
    ]

-- ---- strings

not_coded : (front : List ℕ) → slice_index front 0 ≤ 127 → is_coded front ≡ false
not_coded [] low = refl
not_coded (byte ∷ front) low = lt-leb 128 byte (omega arith)

string_spelled : (text : List ℕ) → length text < 2 ^ 32 → IsString (plain_string text) text
string_spelled text fits =
    let plain : is_coded (integer_bytes 0 127 (length text)) ≡ false = not_coded (integer_bytes 0 127 (length text)) (first_byte 0 127 (length text)).1 in
    record {
      front = integer_bytes 0 127 (length text);
      content = text;
      parts = refl;
      counted = integer_spelled 0 127 (length text) (λ n le. omega arith) fits;
      spelled = rw plain refl;
    }

-- ---- headers

abbrev field_of : List ℕ → List ℕ → Header
field_of name value = record { name = name; value = value }

same_header : (header entry : Header) → entry.name ≡ header.name → entry.value ≡ header.value → entry ≡ header
same_header header entry name value = ap (λ (n : List ℕ). field_of n entry.value) name ∙ ap (λ (v : List ℕ). field_of header.name v) value

field_named : (table : Table) (begun : Bool) (header : Header) (place : ℕ) → position (same_field header) static_table ≡ Some place → Represents table begun (integer_bytes 128 127 (place + 1)) (Some header) table
field_named table begun header place found =
    let there = position-Some (same_field header) static_table place no_field found in
    let entry = get_or static_table place no_field in
    let both = and_parts (bytes_eq entry.name header.name) (bytes_eq entry.value header.value) there.1 in
    let same : entry ≡ header = same_header header entry (bytes_are entry.name header.name both.0) (bytes_are entry.value header.value both.1) in
    let at : entry_at table.items (place + 1) ≡ Ok header = entry-placed table.items place (omega (arith, there.0, static_count)) ∙ ap Ok same in
    indexed (place + 1) header (first_byte 128 127 (place + 1)).0 (integer_spelled 128 127 (place + 1) (λ n le. omega arith) (omega (arith, there.0, static_count))) at

name_spelled : (items : List Header) (header : Header) (place : Option ℕ) → position (same_name header) static_table ≡ place → length header.name < 2 ^ 32 → IsName items 15 (name_bytes header place) header.name
name_spelled items header (Some place) found fits =
    let there = position-Some (same_name header) static_table place no_field found in
    let entry = get_or static_table place no_field in
    let same : entry.name ≡ header.name = bytes_are entry.name header.name there.1 in
    subst (λ (name : List ℕ). IsName items 15 (integer_bytes 0 15 (place + 1)) name) same
    (indexed_name (integer_bytes 0 15 (place + 1)) (place + 1) entry (integer_spelled 0 15 (place + 1) (λ n le. omega arith) (omega (arith, there.0, static_count))) (entry-placed items place (omega (arith, there.0, static_count))))
name_spelled items header None found fits = new_name (0 ∷ []) (plain_string header.name) header.name (refl, omega arith) (string_spelled header.name fits)

name_first : (header : Header) (place : Option ℕ) (rest : List ℕ) → slice_index (name_bytes header place ++ rest) 0 < 32
name_first header (Some place) rest = integer_first 0 15 (place + 1) rest (omega arith)
name_first header None rest = omega arith

pub header_named : (table : Table) (begun : Bool) (header : Header) (place : Option ℕ) → position (same_field header) static_table ≡ place → size_of header ≤ 16384 → Represents table begun (field_bytes_at header place) (Some header) table
header_named table begun header (Some place) found fits = field_named table begun header place found
header_named table begun header None found fits =
    let place = position (same_name header) static_table in
    not_indexing header (name_first header place (plain_string header.value)) (record {
      front = name_bytes header place;
      back = plain_string header.value;
      parts = refl;
      name = name_spelled table.items header place refl (omega arith);
      value = string_spelled header.value (omega arith);
    })

-- ---- blocks

names_spelled : (table : Table) (begun : Bool) (headers : List Header) → list_size headers ≤ 16384 → Names table begun (block_bytes headers) headers table
unfolding field_bytes
names_spelled table begun [] fits = ended table begun
names_spelled table begun (header ∷ headers) fits =
    let size = list_size-cons header headers in
    named table table table begun (field_bytes_at header (position (same_field header) static_table)) (block_bytes headers) header headers
    (header_named table begun header (position (same_field header) static_table) refl (omega arith)) (names_spelled table true headers (omega arith))

pub block_spelled : (headers : List Header) → list_size headers ≤ 16384 → (table : Table) → IsBlock table (block_bytes headers) headers table
block_spelled headers fits table = record { names = names_spelled table false headers fits; fits = fits }

pub block_again : (headers : List Header) → list_size headers ≤ 16384 → (table : Table) → block_of table (block_bytes headers) ≡ Ok (headers, table)
block_again headers fits table = block_only table (block_bytes headers) headers table (block_spelled headers fits table)
