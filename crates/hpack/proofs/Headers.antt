-- Blocks, representation by representation: they are read as they are encoded, and every block is read.
use Rattle.std.proofs.Common.{◌≡◌, ℕ, zero, suc, ◌-◌, ◌<◌, ◌≤◌, Bool, true, false, List, [], ◌∷◌, ◌++◌, length, refl, sym, ap, subst, ◌∙◌, arith, inl, inr, Option, Some, None, Result, Ok, Err, slice_get, length-append, append-nil, append_assoc}
use Rattle.std.proofs.lemmas.Bool.{cases_lt, lt-ltb, le-ltb}
use Rattle.hpack.proofs.Common.{Header, HpackFault, Table, size_of, list_size, ◌>>=◌, bind_ok, block_of, Represents}
use Rattle.hpack.specs.declared.limit.TheConstants.{MAX_LIST_SIZE}
use Rattle.hpack.specs.declared.fault.HpackFault.TheVariants as faults
use Rattle.hpack.specs.Reading.{representation_at, after_representation, block_in, headers_of}
use Rattle.hpack.specs.Grammar.{Names, ended, named, updated, IsBlock}
use Rattle.hpack.proofs.Eviction.{list_size-nil, list_size-cons}
use Rattle.hpack.proofs.Representations.{represents_some, representation_takes, representation_again}

-- headers before what is still read
abbrev pub with_front : List Header → Result (List Header × Table) HpackFault → Result (List Header × Table) HpackFault
with_front front (Ok read) = Ok (front ++ read.0, read.1)
with_front front (Err fault) = Err fault

abbrev Rest : Type 0
Rest = List Header × Table

abbrev Reader : Type 0
Reader = Table → Bool → ℕ → List ℕ → Result Rest HpackFault

rest_equal : (x y : Rest) → ◌≡◌ {A = Result Rest HpackFault} (Ok x) (Ok y) → x ≡ y
rest_equal x y e = cc

-- ---- each representation takes a byte

pub representation_shorter : (table : Table) (begun : Bool) (byte : ℕ) (bytes : List ℕ) (read : Option Header × Table × List ℕ) → representation_at table begun byte (byte ∷ bytes) ≡ Ok read → length read.2 ≤ length bytes
representation_shorter table begun byte bytes read e =
    let took = representation_takes table begun (byte ∷ bytes) read e in
    omega (arith, represents_some table begun took.text read.0 read.1 took.is, ap length took.parts, length-append took.text read.2)

same_bind : {A B : Type 0} (r : Result A HpackFault) (f g : A → Result B HpackFault) → ((x : A) → r ≡ Ok x → f x ≡ g x) → (r >>= f) ≡ (r >>= g)
same_bind (Ok x) f g same = same x refl
same_bind (Err fault) f g same = refl

same_after : (read : Option Header × Table × List ℕ) (begun : Bool) (room : ℕ) (f g : Reader) → ((table : Table) (begun : Bool) (room : ℕ) → f table begun room read.2 ≡ g table begun room read.2) → after_representation read begun room f ≡ after_representation read begun room g
same_after (None, table, rest) begun room f g same = same table begun room
same_after (Some header, table, rest) begun room f g same = rw (same table true (room - size_of header)) refl

-- two counts that are enough agree
enough : (n m : ℕ) (table : Table) (begun : Bool) (room : ℕ) (bytes : List ℕ) → length bytes ≤ n → length bytes ≤ m → block_in n table begun room bytes ≡ block_in m table begun room bytes
unfolding block_in
enough zero zero table begun room [] ln lm = refl
enough zero (suc m) table begun room [] ln lm = refl
enough (suc n) zero table begun room [] ln lm = refl
enough (suc n) (suc m) table begun room [] ln lm = refl
enough zero m table begun room (byte ∷ bytes) ln lm = absurd (omega arith)
enough (suc n) zero table begun room (byte ∷ bytes) ln lm = absurd (omega arith)
enough (suc n) (suc m) table begun room (byte ∷ bytes) ln lm =
    same_bind (representation_at table begun byte (byte ∷ bytes)) (λ read. after_representation read begun room (block_in n)) (λ read. after_representation read begun room (block_in m))
    (λ read e. same_after read begun room (block_in n) (block_in m) (λ t b r.
    let short = representation_shorter table begun byte bytes read e in
    enough n m t b r read.2 (omega arith) (omega arith)))

pub headers-nil : (table : Table) (begun : Bool) (room : ℕ) → headers_of table begun room [] ≡ Ok ([], table)
unfolding headers_of block_in
headers-nil table begun room = refl

headers-cons : (table : Table) (begun : Bool) (room byte : ℕ) (bytes : List ℕ) → headers_of table begun room (byte ∷ bytes) ≡ (representation_at table begun byte (byte ∷ bytes) >>= (λ read. after_representation read begun room headers_of))
unfolding headers_of block_in
headers-cons table begun room byte bytes =
    same_bind (representation_at table begun byte (byte ∷ bytes)) (λ read. after_representation read begun room (block_in (length bytes))) (λ read. after_representation read begun room headers_of)
    (λ read e. same_after read begun room (block_in (length bytes)) headers_of (λ t b r.
    let short = representation_shorter table begun byte bytes read e in
    enough (length bytes) (length read.2) t b r read.2 (omega arith) (omega arith)))

-- one representation, and the others
pub headers_step : (table : Table) (begun : Bool) (room first : ℕ) (bytes : List ℕ) → slice_get bytes 0 ≡ Some first → headers_of table begun room bytes ≡ (representation_at table begun first bytes >>= (λ read. after_representation read begun room headers_of))
headers_step table begun room first [] there = absurd (cc)
headers_step table begun room first (byte ∷ bytes) there =
    let e : byte ≡ first = cc in
    headers-cons table begun room byte bytes ∙ ap (λ x. representation_at table begun x (byte ∷ bytes) >>= (λ read. after_representation read begun room headers_of)) e

-- ---- what is read is a block

step_names : (given : Option Header) (table next : Table) (begun : Bool) (room : ℕ) (text rest : List ℕ) (due : Rest) (go_on : Reader) → Represents table begun text given next → ((t : Table) (b : Bool) (r : ℕ) (d : Rest) → go_on t b r rest ≡ Ok d → Names t b rest d.0 d.1 × (list_size d.0 ≤ r)) → after_representation (given, next, rest) begun room go_on ≡ Ok due → Names table begun (text ++ rest) due.0 due.1 × (list_size due.0 ≤ room)
step_names None table next begun room text rest due go_on is later e =
    let others = later next begun room due e in
    (updated table next due.1 begun text rest due.0 is others.0, others.1)
step_names (Some header) table next begun room text rest due go_on is later e =
    elim (cases_lt room (size_of header)) [
      | inl past ↦ absurd (let wrong : ◌≡◌ {A = Result Rest HpackFault} (Err faults.ListTooLong) (Ok due) = (rw (lt-ltb room (size_of header) past) at e) in cc)
      | inr fits ↦
          let inner = bind_ok (go_on next true (room - size_of header) rest) (λ others. Ok (header ∷ others.0, others.1)) due (rw (le-ltb room (size_of header) fits) at e) in
          let others = later next true (room - size_of header) inner.0 inner.1 in
          subst (λ (d : Rest). Names table begun (text ++ rest) d.0 d.1 × (list_size d.0 ≤ room)) (rest_equal (header ∷ inner.0.0, inner.0.1) due inner.2)
          (named table next inner.0.1 begun text rest header inner.0.0 is others.0, omega (arith, list_size-cons header inner.0.0, others.1))
    ]

block_in_names : (count : ℕ) (table : Table) (begun : Bool) (room : ℕ) (bytes : List ℕ) (due : Rest) → length bytes ≤ count → block_in count table begun room bytes ≡ Ok due → Names table begun bytes due.0 due.1 × (list_size due.0 ≤ room)
unfolding block_in
block_in_names zero table begun room [] due short e =
    subst (λ (d : Rest). Names table begun [] d.0 d.1 × (list_size d.0 ≤ room)) (rest_equal ([], table) due e) (ended table begun, omega (arith, list_size-nil))
block_in_names (suc count) table begun room [] due short e =
    subst (λ (d : Rest). Names table begun [] d.0 d.1 × (list_size d.0 ≤ room)) (rest_equal ([], table) due e) (ended table begun, omega (arith, list_size-nil))
block_in_names zero table begun room (byte ∷ bytes) due short e = absurd (omega arith)
block_in_names (suc count) table begun room (byte ∷ bytes) due short e =
    let one = bind_ok (representation_at table begun byte (byte ∷ bytes)) (λ read. after_representation read begun room (block_in count)) due e in
    let took = representation_takes table begun (byte ∷ bytes) one.0 one.1 in
    let shorter = representation_shorter table begun byte bytes one.0 one.1 in
    subst (λ (b : List ℕ). Names table begun b due.0 due.1 × (list_size due.0 ≤ room)) (sym took.parts)
    (step_names one.0.0 table one.0.1 begun room took.text one.0.2 due (block_in count) took.is (λ t b r d f. block_in_names count t b r one.0.2 d (omega arith) f) one.2)

pub block_found : (table : Table) (bytes : List ℕ) (headers : List Header) (after : Table) → block_of table bytes ≡ Ok (headers, after) → IsBlock table bytes headers after
unfolding headers_of
block_found table bytes headers after e =
    let both = block_in_names (length bytes) table false MAX_LIST_SIZE bytes (headers, after) (omega arith) e in
    record { names = both.0; fits = both.1 }

-- ---- every block is read

named_read : (count room : ℕ) (table next after : Table) (begun : Bool) (bytes rest : List ℕ) (header : Header) (headers : List Header) → Represents table begun bytes (Some header) next → length (bytes ++ rest) ≤ count → list_size (header ∷ headers) ≤ room → ((n r : ℕ) → length rest ≤ n → list_size headers ≤ r → block_in n next true r rest ≡ Ok (headers, after)) → block_in count table begun room (bytes ++ rest) ≡ Ok (header ∷ headers, after)
unfolding block_in
named_read count room table next after begun [] rest header headers is short fits later = absurd (omega (arith, represents_some table begun [] (Some header) next is))
named_read zero room table next after begun (byte ∷ bytes) rest header headers is short fits later = absurd (omega arith)
named_read (suc count) room table next after begun (byte ∷ bytes) rest header headers is short fits later =
    let size = list_size-cons header headers in
    rw (representation_again table begun (byte ∷ bytes) (Some header) next rest is, le-ltb room (size_of header) (omega arith), later count (room - size_of header) (omega (arith, length-append bytes rest)) (omega arith)) refl

updated_read : (count room : ℕ) (table next after : Table) (begun : Bool) (bytes rest : List ℕ) (headers : List Header) → Represents table begun bytes None next → length (bytes ++ rest) ≤ count → list_size headers ≤ room → ((n r : ℕ) → length rest ≤ n → list_size headers ≤ r → block_in n next begun r rest ≡ Ok (headers, after)) → block_in count table begun room (bytes ++ rest) ≡ Ok (headers, after)
unfolding block_in
updated_read count room table next after begun [] rest headers is short fits later = absurd (omega (arith, represents_some table begun [] None next is))
updated_read zero room table next after begun (byte ∷ bytes) rest headers is short fits later = absurd (omega arith)
updated_read (suc count) room table next after begun (byte ∷ bytes) rest headers is short fits later =
    rw (representation_again table begun (byte ∷ bytes) None next rest is) (later count room (omega (arith, length-append bytes rest)) fits)

names_read : (table : Table) (begun : Bool) (bytes : List ℕ) (headers : List Header) (after : Table) → Names table begun bytes headers after → (count room : ℕ) → length bytes ≤ count → list_size headers ≤ room → block_in count table begun room bytes ≡ Ok (headers, after)
unfolding block_in
names_read table begun bytes headers after (ended t b) zero room short fits = refl
names_read table begun bytes headers after (ended t b) (suc count) room short fits = refl
names_read table begun bytes headers after (named t next u b text rest header others is more) count room short fits =
    named_read count room t next u b text rest header others is short fits (λ n r s f. names_read next true rest others u more n r s f)
names_read table begun bytes headers after (updated t next u b text rest others is more) count room short fits =
    updated_read count room t next u b text rest others is short fits (λ n r s f. names_read next b rest others u more n r s f)

pub block_only : (table : Table) (bytes : List ℕ) (headers : List Header) (after : Table) → IsBlock table bytes headers after → block_of table bytes ≡ Ok (headers, after)
unfolding headers_of
block_only table bytes headers after is = names_read table false bytes headers after is.names (length bytes) MAX_LIST_SIZE (omega arith) is.fits

-- ---- the loop of the code

pub ends_there : (front : List Header) (table : Table) (begun : Bool) (room : ℕ) (bytes : List ℕ) → None ≡ slice_get bytes 0 → with_front front (headers_of table begun room bytes) ≡ Ok (front, table)
ends_there front table begun room [] none = rw (headers-nil table begun room, append-nil front) refl
ends_there front table begun room (byte ∷ bytes) none = absurd (cc)

pub fails_there : (front : List Header) (table : Table) (begun : Bool) (room first : ℕ) (bytes : List ℕ) (fault : HpackFault) → slice_get bytes 0 ≡ Some first → representation_at table begun first bytes ≡ Err fault → with_front front (headers_of table begun room bytes) ≡ Err fault
fails_there front table begun room first bytes fault there wrong = rw (headers_step table begun room first bytes there, wrong) refl

pub passes_there : (front : List Header) (table next : Table) (begun : Bool) (room first : ℕ) (bytes rest : List ℕ) → slice_get bytes 0 ≡ Some first → representation_at table begun first bytes ≡ Ok (None, next, rest) → with_front front (headers_of table begun room bytes) ≡ with_front front (headers_of next begun room rest)
passes_there front table next begun room first bytes rest there read = rw (headers_step table begun room first bytes there, read) refl

pub too_long_there : (front : List Header) (table next : Table) (begun : Bool) (room first : ℕ) (bytes rest : List ℕ) (header : Header) → slice_get bytes 0 ≡ Some first → representation_at table begun first bytes ≡ Ok (Some header, next, rest) → room < size_of header → with_front front (headers_of table begun room bytes) ≡ Err faults.ListTooLong
too_long_there front table next begun room first bytes rest header there read past = rw (headers_step table begun room first bytes there, read, lt-ltb room (size_of header) past) refl

front_moves : (front : List Header) (header : Header) (r : Result Rest HpackFault) → with_front front (r >>= (λ others. Ok (header ∷ others.0, others.1))) ≡ with_front (front ++ header ∷ []) r
front_moves front header (Ok others) = ap (λ (hs : List Header). Ok (hs, others.1)) (sym (append_assoc front (header ∷ []) others.0))
front_moves front header (Err fault) = refl

pub names_there : (front : List Header) (table next : Table) (begun : Bool) (room first : ℕ) (bytes rest : List ℕ) (header : Header) → slice_get bytes 0 ≡ Some first → representation_at table begun first bytes ≡ Ok (Some header, next, rest) → size_of header ≤ room → with_front front (headers_of table begun room bytes) ≡ with_front (front ++ header ∷ []) (headers_of next true (room - size_of header) rest)
names_there front table next begun room first bytes rest header there read fits =
    rw (headers_step table begun room first bytes there, read, le-ltb room (size_of header) fits) (front_moves front header (headers_of next true (room - size_of header) rest))

pub shorter_there : (table : Table) (begun : Bool) (first : ℕ) (bytes : List ℕ) (read : Option Header × Table × List ℕ) → slice_get bytes 0 ≡ Some first → representation_at table begun first bytes ≡ Ok read → length read.2 < length bytes
shorter_there table begun first [] read there e = absurd (cc)
shorter_there table begun first (byte ∷ bytes) read there e =
    let same : first ≡ byte = cc in
    omega (arith, representation_shorter table begun byte bytes read (rw same at e))
