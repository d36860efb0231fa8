-- What the tree reads is a text of the code, and each text of the code is read.
use Rattle.std.proofs.Common.{◌≡◌, ℕ, zero, suc, ◌+◌, ◌*◌, ◌/◌, ◌%◌, ◌^◌, ◌<◌, ◌≤◌, ◌==◌, Bool, true, false, if◌then◌else◌, nat_le, List, [], ◌∷◌, ◌++◌, replicate, get_or, refl, sym, ap, ◌∙◌, arith, append_assoc, append-nil, add-zero, add-one, inl, inr, Ok, Err, Result, IfOk, IfErr, slice_index, slice_index_or}
use Rattle.std.specs.List.{flat_map, AllByRecursion, list_all}
use Rattle.std.proofs.lemmas.Bool.{and_parts, leb-true, lt-ltb, cases_lt, le-ltb}
use Rattle.std.proofs.Math.Nat.{pow-succ', div-div-eq-div-mul}
use Rattle.hpack.proofs.Common.{HpackFault, Refuses, bits, Branch, Node, Symbol, End, branch_at, walk}
use Rattle.hpack.specs.declared.fault.HpackFault.TheVariants as faults
use Rattle.hpack.specs.Outcomes.{Gives, IsPaddingFault}
use Rattle.hpack.specs.Huffman.{bits_of, lengths, length_of, number_of, word, IsHuffman}
use Rattle.hpack.specs.Tree.{on_zero, on_one, branch_of, on_branch, with_text, is_end, text_of, huffman_text}
use Rattle.hpack.proofs.Bits.{each_below}
use Rattle.hpack.proofs.Places.{place, path, place_of, zeros, ones, walks, padding_paths, padding_walks}
use Rattle.hpack.proofs.Walks.{read-append}

-- ---- lengths

short_lengths : list_all (λ n. nat_le n 30) lengths ≡ true
short_lengths = refl

at_most_30 : (xs : List ℕ) (i : ℕ) → list_all (λ n. nat_le n 30) xs ≡ true → get_or xs i 0 ≤ 30
at_most_30 [] i all = omega arith
at_most_30 (x ∷ xs) zero all = leb-true x 30 (and_parts (nat_le x 30) _ all).0
at_most_30 (x ∷ xs) (suc i) all = at_most_30 xs i (and_parts (nat_le x 30) _ all).1

pub length_of-small : (symbol : ℕ) → length_of symbol ≤ 30
length_of-small symbol = at_most_30 lengths symbol short_lengths

-- ---- one bit more

shifted : (k n : ℕ) → n / 2 ^ (suc k) ≡ n / 2 / 2 ^ k
shifted k n = ap (λ m. n / m) (pow-succ' 2 k) ∙ sym (div-div-eq-div-mul n 2 (2 ^ k))

bits-push : (d v b : ℕ) → b < 2 → bits (suc d) (2 * v + b) ≡ bits d v ++ (b == 1) ∷ []
unfolding bits
bits-push zero v b lt = let e : (2 * v + b) / 1 % 2 ≡ b = omega arith in ap (λ x. (x == 1) ∷ []) e
bits-push (suc d) v b lt =
    let half : (2 * v + b) / 2 ≡ v = omega arith in
    let e : (2 * v + b) / 2 ^ (suc d) ≡ v / 2 ^ d = shifted d (2 * v + b) ∙ ap (λ x. x / 2 ^ d) half in
    rw e (ap (λ more. (v / 2 ^ d % 2 == 1) ∷ more) (bits-push d v b lt))

abbrev bit_of : Bool → ℕ
bit_of true = 1
bit_of false = 0

one_more : (p : ℕ × ℕ) (d v : ℕ) (bit : Bool) → p ≡ (d + 1, 2 * v + bit_of bit) → bits p.0 p.1 ≡ bits d v ++ bit ∷ []
one_more p d v true e = rw (e, add-one) (bits-push d v 1 (omega arith))
one_more p d v false e = rw (e, add-one) (bits-push d v 0 (omega arith))

-- ---- the tree's branches

abbrev IsInTree : Branch → Type 0
IsInTree (Node node) = node < 256
IsInTree (Symbol symbol) = symbol < 256
IsInTree End = Unit {0}

branch_in : (k : ℕ) → IsInTree (branch_of k)
branch_in k =
    elim (cases_lt k 256) [
      | inl node ↦ rw (lt-ltb k 256 node) node
      | inr above ↦ rw (le-ltb k 256 above) (elim (cases_lt k 512) [
        | inl symbol ↦ rw (lt-ltb k 512 symbol) (omega arith)
        | inr past ↦ rw (le-ltb k 512 past) tt
      ])
    ]

in_tree : (node : ℕ) (bit : Bool) → IsInTree (branch_at node bit)
unfolding branch_at
in_tree node bit = branch_in (slice_index (slice_index_or (if bit then on_one else on_zero) (node / 16) []) (node % 16))

leads : (node : ℕ) (bit : Bool) → node < 256 → place_of (branch_at node bit) ≡ ((place node).0 + 1, 2 * (place node).1 + bit_of bit)
leads node true lt = each_below (λ n. place_of (branch_at n true)) (λ n. ((place n).0 + 1, 2 * (place n).1 + 1)) 256 node ones lt
leads node false lt = rw add-zero (each_below (λ n. place_of (branch_at n false)) (λ n. ((place n).0 + 1, 2 * (place n).1)) 256 node zeros lt)

-- ---- what is read is a text of the code

abbrev IsByteList : List ℕ → Type 0
IsByteList text = AllByRecursion (λ symbol. symbol < 256) text

abbrev Spells : List Bool → List ℕ × Branch → Type 0
Spells all (text, Node node) = (all ≡ flat_map word text ++ path node) × IsByteList text
Spells all (text, Symbol symbol) = Unit {0}
Spells all (text, End) = Unit {0}

spells_symbol : (symbol : ℕ) (found : List ℕ × Branch) (all rest : List Bool) → symbol < 256 → all ≡ word symbol ++ rest → Spells rest found → Spells all (symbol ∷ found.0, found.1)
spells_symbol symbol (text, Node node) all rest lt e spelled =
    (e ∙ (ap (λ more. word symbol ++ more) spelled.0 ∙ sym (append_assoc (word symbol) (flat_map word text) (path node))), (lt, spelled.1))
spells_symbol symbol (text, Symbol other) all rest lt e spelled = tt
spells_symbol symbol (text, End) all rest lt e spelled = tt

extends : (node : ℕ) (front rest : List Bool) (bit : Bool) → front ≡ path node ++ bit ∷ [] → path node ++ bit ∷ rest ≡ front ++ rest
extends node front rest bit e = sym (ap (λ xs. xs ++ rest) e ∙ append_assoc (path node) (bit ∷ []) rest)

at_root : (rest : List Bool) (found : List ℕ × Branch) → Spells (path 0 ++ rest) found → Spells rest found
unfolding path bits
at_root rest found spelled = spelled

spells_on : (b : Branch) (node : ℕ) (bit : Bool) (f : ℕ → List ℕ × Branch) (rest : List Bool) → IsInTree b → place_of b ≡ ((place node).0 + 1, 2 * (place node).1 + bit_of bit) → ((next : ℕ) → next < 256 → Spells (path next ++ rest) (f next)) → Spells (path node ++ bit ∷ rest) (on_branch b f)
unfolding path word
spells_on (Node next) node bit f rest lt e spelled =
    let longer : path next ≡ path node ++ bit ∷ [] = one_more (place next) (place node).0 (place node).1 bit e in
    rw (extends node (path next) rest bit longer) (spelled next lt)
spells_on (Symbol symbol) node bit f rest lt e spelled =
    let longer : word symbol ≡ path node ++ bit ∷ [] = one_more (length_of symbol, number_of symbol) (place node).0 (place node).1 bit e in
    spells_symbol symbol (f 0) (path node ++ bit ∷ rest) rest lt (extends node (word symbol) rest bit longer) (at_root rest (f 0) (spelled 0 (omega arith)))
spells_on End node bit f rest lt e spelled = tt

spells : (bits : List Bool) (node : ℕ) → node < 256 → Spells (path node ++ bits) (walk node bits)
unfolding walk
spells [] node lt = (append-nil (path node), tt)
spells (bit ∷ bits) node lt = spells_on (branch_at node bit) node bit (λ next. walk next bits) bits (in_tree node bit) (leads node bit lt) (λ next small. spells bits next small)

ends_well : (found : List ℕ × Branch) (bytes text : List ℕ) → Spells (bits_of bytes) found → text_of found ≡ Ok text → IsHuffman bytes text
ends_well (walk, Node node) bytes text spelled e =
    elim (cases_lt node 8) [
      | inl lt ↦
          let same : walk ≡ text = (let taken : Ok walk ≡ Ok text = (rw (lt-ltb node 8 lt) at e) in cc) in
          let ones_there : path node ≡ replicate node true = each_below path (λ n. replicate n true) 8 node padding_paths lt in
          record { padding = node; short = lt; words = rw (← same, ← ones_there) spelled.0; symbols = rw (← same) spelled.1 }
      | inr past ↦ absurd (let refused : Err faults.Padding ≡ Ok text = (rw (le-ltb node 8 past) at e) in cc)
    ]
ends_well (walk, Symbol symbol) bytes text spelled e = absurd (cc)
ends_well (walk, End) bytes text spelled e = absurd (cc)

-- what is read is a text of the code
pub huffman_found : (bytes text : List ℕ) → huffman_text bytes ≡ Ok text → IsHuffman bytes text
unfolding huffman_text
huffman_found bytes text e = ends_well (walk 0 (bits_of bytes)) bytes text (at_root (bits_of bytes) (walk 0 (bits_of bytes)) (spells (bits_of bytes) 0 (omega arith))) e

-- ---- each text of the code is read

read-text : (text : List ℕ) (rest : List Bool) → IsByteList text → walk 0 (flat_map word text ++ rest) ≡ with_text text (walk 0 rest)
read-text [] rest all = refl
read-text (symbol ∷ text) rest all =
    let walked : walk 0 (word symbol) ≡ (symbol ∷ [], Node 0) = each_below (λ s. walk 0 (word s)) (λ s. (s ∷ [], Node 0)) 256 symbol walks all.0 in
    rw (append_assoc (word symbol) (flat_map word text) rest, read-append 0 (word symbol) (flat_map word text ++ rest), walked, read-text text rest all.1) refl

pub huffman_only : (bytes text : List ℕ) → IsHuffman bytes text → huffman_text bytes ≡ Ok text
unfolding huffman_text
huffman_only bytes text is =
    let padded : walk 0 (replicate is.padding true) ≡ ([], Node is.padding) = each_below (λ n. walk 0 (replicate n true)) (λ n. ([], Node n)) 8 is.padding padding_walks is.short in
    rw (is.words, read-text text (replicate is.padding true) is.symbols, padded, lt-ltb is.padding 8 is.short, append-nil text) refl

-- ---- what the call says

pub ok-from_gives : (answer : Result (List ℕ) HpackFault) (bytes : List ℕ) → Gives (λ text. text) answer (huffman_text bytes) → IfOk answer (λ text. IsHuffman bytes text)
ok-from_gives (Ok text) bytes due = huffman_found bytes text due
ok-from_gives (Err fault) bytes due = tt

pub only-from_gives : (answer : Result (List ℕ) HpackFault) (bytes : List ℕ) → Gives (λ text. text) answer (huffman_text bytes) → IfOk answer (λ text. (other : List ℕ) → IsHuffman bytes other → other ≡ text)
only-from_gives (Ok text) bytes due = λ other is. let read_too : huffman_text bytes ≡ Ok other = huffman_only bytes other is in cc
only-from_gives (Err fault) bytes due = tt

outside : (bytes : List ℕ) (fault : HpackFault) → huffman_text bytes ≡ Err fault → (text : List ℕ) → IsHuffman bytes text → ⊥
outside bytes fault e = λ text is. let read_too : huffman_text bytes ≡ Ok text = huffman_only bytes text is in cc

padding_alone : (found : List ℕ × Branch) (fault : HpackFault) → text_of found ≡ Err fault → fault ≡ faults.Padding
padding_alone found fault e =
    elim (is_end found.1) as (λ b. (if b then Ok found.0 else Err faults.Padding) ≡ Err fault → fault ≡ faults.Padding) [
      | true ↦ λ taken. absurd (cc)
      | false ↦ λ refused. cc
    ] e

alone : (bytes : List ℕ) (fault : HpackFault) → huffman_text bytes ≡ Err fault → fault ≡ faults.Padding
unfolding huffman_text
alone bytes fault e = padding_alone (walk 0 (bits_of bytes)) fault e

pub err-from_gives : (answer : Result (List ℕ) HpackFault) (bytes : List ℕ) → Gives (λ text. text) answer (huffman_text bytes) → IfErr answer (λ fault. IsPaddingFault fault ((text : List ℕ) → IsHuffman bytes text → ⊥))
err-from_gives (Ok text) bytes due = tt
err-from_gives (Err faults.Memory) bytes due = tt
err-from_gives (Err faults.Padding) bytes due = outside bytes faults.Padding due
err-from_gives (Err faults.Index) bytes due = let one = alone bytes faults.Index due in cc
err-from_gives (Err faults.Integer) bytes due = let one = alone bytes faults.Integer due in cc
err-from_gives (Err faults.Truncated) bytes due = let one = alone bytes faults.Truncated due in cc
err-from_gives (Err faults.SizeUpdate) bytes due = let one = alone bytes faults.SizeUpdate due in cc
err-from_gives (Err faults.ListTooLong) bytes due = let one = alone bytes faults.ListTooLong due in cc

-- ---- how the code ends

pub ends_taken : (bytes text : List ℕ) (node : ℕ) → walk 0 (bits_of bytes) ≡ with_text text (walk node []) → node < 8 → huffman_text bytes ≡ Ok text
unfolding huffman_text walk
ends_taken bytes text node e lt = rw (e, lt-ltb node 8 lt, append-nil text) refl

pub ends_refused : (bytes text : List ℕ) (node : ℕ) → walk 0 (bits_of bytes) ≡ with_text text (walk node []) → 8 ≤ node → huffman_text bytes ≡ Err faults.Padding
unfolding huffman_text walk
ends_refused bytes text node e past = rw (e, le-ltb node 8 past) refl

stops_there : (bytes text : List ℕ) (node byte : ℕ) (rest : List Bool) → walk 0 (bits_of bytes) ≡ with_text text (walk node (bits 8 byte ++ rest)) → ((more : List Bool) → is_end (walk node (bits 8 byte ++ more)).1 ≡ false) → huffman_text bytes ≡ Err faults.Padding
unfolding huffman_text
stops_there bytes text node byte rest e stop = rw (e, stop rest) refl

pub stops : (fault : HpackFault) (bytes text : List ℕ) (node byte : ℕ) (rest : List Bool) → walk 0 (bits_of bytes) ≡ with_text text (walk node (bits 8 byte ++ rest)) → IsPaddingFault fault ((more : List Bool) → is_end (walk node (bits 8 byte ++ more)).1 ≡ false) → Refuses fault (huffman_text bytes ≡ Err fault)
stops faults.Memory bytes text node byte rest e stop = tt
stops faults.Padding bytes text node byte rest e stop = stops_there bytes text node byte rest e stop
stops faults.Index bytes text node byte rest e stop = absurd stop
stops faults.Integer bytes text node byte rest e stop = absurd stop
stops faults.Truncated bytes text node byte rest e stop = absurd stop
stops faults.SizeUpdate bytes text node byte rest e stop = absurd stop
stops faults.ListTooLong bytes text node byte rest e stop = absurd stop
