-- A decoder over the blocks of a connection, which share its dynamic table.
use Rattle.std.specs.Prelude.{◌≡◌, ℕ, List, [], ◌∷◌, Option, None, Some, Result, Ok, Err}
use Rattle.wl_octets.specs.declared.header.Header.{Header}
use Rattle.hpack.specs.declared.fault.HpackFault.{HpackFault}
use Rattle.hpack.specs.Outcomes.{Refuses}
use Rattle.hpack.specs.Tables.{Table, first_table, IsWithin}
use Rattle.hpack.specs.Grammar.{IsBlock}
use Rattle.hpack.specs.Reading.{block_of}

-- the table after all blocks so far, or the first fault: then the decoder fails for good
pub data Standing : Type 0 where
  Good : Table → Standing
  Broken : HpackFault → Standing

-- as the fields of a decoder have it
abbrev pub standing_of : Option HpackFault → Table → Standing
standing_of None table = Good table
standing_of (Some fault) table = Broken fault

abbrev pub after_block : Result (List Header × Table) HpackFault → Result (List Header) HpackFault × Standing
after_block (Ok read) = (Ok read.0, Good read.1)
after_block (Err fault) = (Err fault, Broken fault)

-- what a block's headers are, and where the decoder stands after it
abbrev pub decode_block : Standing → List ℕ → Result (List Header) HpackFault × Standing
decode_block (Good table) block = after_block (block_of table block)
decode_block (Broken fault) block = (Err fault, Broken fault)

-- What a call answered and left, where this was due; out of memory the decoder is broken.
abbrev pub Decodes : Result (List Header) HpackFault → Standing → Result (List Header) HpackFault × Standing → Type 0
Decodes (Ok headers) new due = due ≡ (Ok headers, new)
Decodes (Err fault) new due = (new ≡ Broken fault) × Refuses fault (due ≡ (Err fault, new))

-- where a decoder stands after these blocks, the last of them first
abbrev pub standing_after : List (List ℕ) → Standing
standing_after [] = Good first_table
standing_after (block ∷ earlier) = (decode_block (standing_after earlier) block).1

-- a decoder stands where these blocks lead, unless memory ran out on the way
abbrev pub StandsFor : Standing → List (List ℕ) → Type 0
StandsFor (Good table) blocks = standing_after blocks ≡ Good table
StandsFor (Broken fault) blocks = Refuses fault (standing_after blocks ≡ Broken fault)

-- the table holds no more than its maximum
abbrev pub IsBounded : Standing → Type 0
IsBounded (Good table) = IsWithin table
IsBounded (Broken fault) = Unit {0}

-- these headers were read from a block of the standard
abbrev pub Reads : Standing → List ℕ → List Header → Standing → Type 0
Reads (Good table) block headers (Good after) = IsBlock table block headers after
Reads _ block headers _ = ⊥

-- a block of the standard names no other headers and leaves no other table
abbrev pub ReadsAlone : Standing → List ℕ → List Header → Standing → Type 0
ReadsAlone (Good table) block headers new = (others : List Header) (after : Table) → IsBlock table block others after → (others ≡ headers) × (Good after ≡ new)
ReadsAlone (Broken fault) block headers new = ⊥

-- this is no block of the standard, or the decoder was broken before
abbrev pub IsNoBlock : Standing → List ℕ → Type 0
IsNoBlock (Good table) block = (headers : List Header) (after : Table) → IsBlock table block headers after → ⊥
IsNoBlock (Broken fault) block = Unit {0}
