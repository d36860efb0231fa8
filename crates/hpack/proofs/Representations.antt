-- Representations are read as they are encoded, and every encoding is read.
use Rattle.std.proofs.Common.{◌≡◌, ℕ, ◌<◌, ◌≤◌, nat_lt, Bool, true, false, ◌||◌, if◌then◌else◌, List, [], ◌∷◌, ◌++◌, length, refl, ap, subst, arith, inl, inr, Option, Some, None, Result, Ok, Err, slice_index, length-append}
use Rattle.std.proofs.lemmas.Bool.{cases_lt, lt-ltb, le-ltb, le-leb, lt-leb}
use Rattle.hpack.proofs.Common.{Header, HpackFault, Table, entry_at, ◌>>=◌, bind_ok, integer_at, IsName, indexed_name, new_name, Represents}
use Rattle.hpack.specs.declared.fault.HpackFault.TheVariants as faults
use Rattle.hpack.specs.Tables.{with_item, with_maximum}
use Rattle.hpack.specs.Reading.{literal_at, representation_at}
use Rattle.hpack.specs.Grammar.{IsLiteral, indexed, indexing, size_update, not_indexing}
use Rattle.hpack.proofs.Numbers.{Took, integer_takes, integer_again, integer_some}
use Rattle.hpack.proofs.Parts.{literal_takes, literal_again}

name_some : (items : List Header) (full : ℕ) (bytes name : List ℕ) → IsName items full bytes name → 0 < length bytes
name_some items full bytes name (indexed_name front index entry is there) = integer_some full front index is
name_some items full bytes name (new_name front text new is spelled) = omega (arith, integer_some full front 0 is, length-append front text)

literal_some : (items : List Header) (full : ℕ) (bytes : List ℕ) (header : Header) → IsLiteral items full bytes header → 0 < length bytes
literal_some items full bytes header is = omega (arith, name_some items full is.front header.name is.name, ap length is.parts, length-append is.front is.back)

pub represents_some : (table : Table) (begun : Bool) (bytes : List ℕ) (named : Option Header) (next : Table) → Represents table begun bytes named next → 0 < length bytes
represents_some table begun bytes named next (indexed index entry high is there) = integer_some 127 bytes index is
represents_some table begun bytes named next (indexing header low high is) = literal_some table.items 63 bytes header is
represents_some table begun bytes named next (size_update most new low high is fits) = integer_some 31 bytes most is
represents_some table begun bytes named next (not_indexing header high is) = literal_some table.items 15 bytes header is

first_there : (bytes text rest : List ℕ) → bytes ≡ text ++ rest → 0 < length text → slice_index bytes 0 ≡ slice_index text 0
first_there bytes [] rest parts lt = absurd (omega arith)
first_there bytes (byte ∷ text) rest parts lt = ap (λ xs. slice_index xs 0) parts

abbrev Read : Type 0
Read = Option Header × Table × List ℕ

ok_equal : {A : Type 0} (x y : A) → ◌≡◌ {A = Result A HpackFault} (Ok x) (Ok y) → x ≡ y
ok_equal x y e = cc

-- what was read of a representation
abbrev TookRead : Table → Bool → List ℕ → Read → Type 0
TookRead table begun bytes read = Took bytes read.2 (λ b. Represents table begun b read.0 read.1)

finish : (table : Table) (begun : Bool) (bytes : List ℕ) (read due : Read) → ◌≡◌ {A = Result Read HpackFault} (Ok read) (Ok due) → TookRead table begun bytes read → TookRead table begun bytes due
finish table begun bytes read due e took = subst (TookRead table begun bytes) (ok_equal read due e) took

indexed_takes : (table : Table) (begun : Bool) (bytes : List ℕ) (due : Read) → 128 ≤ slice_index bytes 0 → (integer_at 127 bytes >>= (λ index. entry_at table.items index.0 >>= (λ entry. Ok (Some entry, table, index.1)))) ≡ Ok due → TookRead table begun bytes due
indexed_takes table begun bytes due high e =
    let one = bind_ok (integer_at 127 bytes) (λ index. entry_at table.items index.0 >>= (λ entry. Ok (Some entry, table, index.1))) due e in
    let two = bind_ok (entry_at table.items one.0.0) (λ entry. Ok (Some entry, table, one.0.1)) due one.2 in
    let front = integer_takes 127 bytes one.0.0 one.0.1 one.1 in
    let there = first_there bytes front.text one.0.1 front.parts (integer_some 127 front.text one.0.0 front.is) in
    finish table begun bytes (Some two.0, table, one.0.1) due two.2 (record {
      text = front.text;
      parts = front.parts;
      is = indexed one.0.0 two.0 (rw (← there) high) front.is two.1;
    })

indexing_takes : (table : Table) (begun : Bool) (bytes : List ℕ) (due : Read) → 64 ≤ slice_index bytes 0 → slice_index bytes 0 < 128 → (literal_at table.items 63 bytes >>= (λ literal. Ok (Some literal.0, with_item table literal.0, literal.1))) ≡ Ok due → TookRead table begun bytes due
indexing_takes table begun bytes due low high e =
    let one = bind_ok (literal_at table.items 63 bytes) (λ literal. Ok (Some literal.0, with_item table literal.0, literal.1)) due e in
    let front = literal_takes table.items 63 bytes one.0.0 one.0.1 one.1 in
    let there = first_there bytes front.text one.0.1 front.parts (literal_some table.items 63 front.text one.0.0 front.is) in
    finish table begun bytes (Some one.0.0, with_item table one.0.0, one.0.1) due one.2 (record {
      text = front.text;
      parts = front.parts;
      is = indexing one.0.0 (rw (← there) low) (rw (← there) high) front.is;
    })

not_indexing_takes : (table : Table) (begun : Bool) (bytes : List ℕ) (due : Read) → slice_index bytes 0 < 32 → (literal_at table.items 15 bytes >>= (λ literal. Ok (Some literal.0, table, literal.1))) ≡ Ok due → TookRead table begun bytes due
not_indexing_takes table begun bytes due high e =
    let one = bind_ok (literal_at table.items 15 bytes) (λ literal. Ok (Some literal.0, table, literal.1)) due e in
    let front = literal_takes table.items 15 bytes one.0.0 one.0.1 one.1 in
    let there = first_there bytes front.text one.0.1 front.parts (literal_some table.items 15 front.text one.0.0 front.is) in
    finish table begun bytes (Some one.0.0, table, one.0.1) due one.2 (record {
      text = front.text;
      parts = front.parts;
      is = not_indexing one.0.0 (rw (← there) high) front.is;
    })

abbrev updated_read : Table → Bool → ℕ × List ℕ → Result Read HpackFault
updated_read table begun most = if begun || nat_lt 4096 most.0 then Err faults.SizeUpdate else Ok (None, with_maximum table most.0, most.1)

update_fits : (table : Table) (begun : Bool) (most : ℕ × List ℕ) (due : Read) → updated_read table begun most ≡ Ok due → (begun ≡ false) × (most.0 ≤ 4096) × (◌≡◌ {A = Result Read HpackFault} (Ok (None, with_maximum table most.0, most.1)) (Ok due))
update_fits table true most due e = absurd (cc)
update_fits table false most due e =
    elim (cases_lt 4096 most.0) [
      | inl past ↦ absurd (let wrong : ◌≡◌ {A = Result Read HpackFault} (Err faults.SizeUpdate) (Ok due) = (rw (lt-ltb 4096 most.0 past) at e) in cc)
      | inr fits ↦ (refl, fits, rw (le-ltb 4096 most.0 fits) at e)
    ]

update_takes : (table : Table) (begun : Bool) (bytes : List ℕ) (due : Read) → 32 ≤ slice_index bytes 0 → slice_index bytes 0 < 64 → (integer_at 31 bytes >>= updated_read table begun) ≡ Ok due → TookRead table begun bytes due
update_takes table begun bytes due low high e =
    let one = bind_ok (integer_at 31 bytes) (updated_read table begun) due e in
    let fits = update_fits table begun one.0 due one.2 in
    let front = integer_takes 31 bytes one.0.0 one.0.1 one.1 in
    let there = first_there bytes front.text one.0.1 front.parts (integer_some 31 front.text one.0.0 front.is) in
    finish table begun bytes (None, with_maximum table one.0.0, one.0.1) due fits.2 (record {
      text = front.text;
      parts = front.parts;
      is = size_update one.0.0 fits.0 (rw (← there) low) (rw (← there) high) front.is fits.1;
    })

pub representation_takes : (table : Table) (begun : Bool) (bytes : List ℕ) (due : Read) → representation_at table begun (slice_index bytes 0) bytes ≡ Ok due → TookRead table begun bytes due
unfolding representation_at
representation_takes table begun bytes due e =
    elim (cases_lt (slice_index bytes 0) 128) [
      | inr high ↦ indexed_takes table begun bytes due high (rw (le-leb 128 (slice_index bytes 0) high) at e)
      | inl below128 ↦ elim (cases_lt (slice_index bytes 0) 64) [
        | inr low ↦ indexing_takes table begun bytes due low below128 (rw (lt-leb 128 (slice_index bytes 0) below128, le-leb 64 (slice_index bytes 0) low) at e)
        | inl below64 ↦ elim (cases_lt (slice_index bytes 0) 32) [
          | inr low ↦ update_takes table begun bytes due low below64 (rw (lt-leb 128 (slice_index bytes 0) below128, lt-leb 64 (slice_index bytes 0) below64, le-leb 32 (slice_index bytes 0) low) at e)
          | inl below32 ↦ not_indexing_takes table begun bytes due below32 (rw (lt-leb 128 (slice_index bytes 0) below128, lt-leb 64 (slice_index bytes 0) below64, lt-leb 32 (slice_index bytes 0) below32) at e)
        ]
      ]
    ]

pub representation_again : (table : Table) (begun : Bool) (bytes : List ℕ) (named : Option Header) (next : Table) (rest : List ℕ) → Represents table begun bytes named next → representation_at table begun (slice_index bytes 0) (bytes ++ rest) ≡ Ok (named, next, rest)
unfolding representation_at
representation_again table begun bytes named next rest (indexed index entry high is there) =
    rw (le-leb 128 (slice_index bytes 0) high, integer_again 127 bytes index rest is, there) refl
representation_again table begun bytes named next rest (indexing header low high is) =
    rw (lt-leb 128 (slice_index bytes 0) high, le-leb 64 (slice_index bytes 0) low, literal_again table.items 63 bytes header rest is) refl
representation_again table begun bytes named next rest (size_update most new low high is fits) =
    rw (lt-leb 128 (slice_index bytes 0) (omega arith), lt-leb 64 (slice_index bytes 0) high, le-leb 32 (slice_index bytes 0) low, integer_again 31 bytes most rest is, new, le-ltb 4096 most fits) refl
representation_again table begun bytes named next rest (not_indexing header high is) =
    rw (lt-leb 128 (slice_index bytes 0) (omega arith), lt-leb 64 (slice_index bytes 0) (omega arith), lt-leb 32 (slice_index bytes 0) high, literal_again table.items 15 bytes header rest is) refl
