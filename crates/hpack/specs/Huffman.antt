-- The Huffman code, from the lengths of its words (RFC 7541, section 5.2 and appendix B).
use Rattle.std.specs.Prelude.{◌≡◌, ℕ, zero, suc, ◌+◌, ◌-◌, ◌/◌, ◌%◌, ◌^◌, ◌<◌, ◌==◌, nat_lt, Bool, true, ◌&&◌, ◌||◌, if◌then◌else◌, List, [], ◌∷◌, ◌++◌, replicate, slice_index}
use Rattle.std.specs.List.{flat_map, AllByRecursion}

-- how many bits each symbol's word has; symbol 256 is the end of a string
abbrev pub lengths : List ℕ
lengths =
    13 ∷ 23 ∷ 28 ∷ 28 ∷ 28 ∷ 28 ∷ 28 ∷ 28 ∷ 28 ∷ 24 ∷ 30 ∷ 28 ∷ 28 ∷ 30 ∷ 28 ∷ 28 ∷
    28 ∷ 28 ∷ 28 ∷ 28 ∷ 28 ∷ 28 ∷ 30 ∷ 28 ∷ 28 ∷ 28 ∷ 28 ∷ 28 ∷ 28 ∷ 28 ∷ 28 ∷ 28 ∷
    6 ∷ 10 ∷ 10 ∷ 12 ∷ 13 ∷ 6 ∷ 8 ∷ 11 ∷ 10 ∷ 10 ∷ 8 ∷ 11 ∷ 8 ∷ 6 ∷ 6 ∷ 6 ∷
    5 ∷ 5 ∷ 5 ∷ 6 ∷ 6 ∷ 6 ∷ 6 ∷ 6 ∷ 6 ∷ 6 ∷ 7 ∷ 8 ∷ 15 ∷ 6 ∷ 12 ∷ 10 ∷
    13 ∷ 6 ∷ 7 ∷ 7 ∷ 7 ∷ 7 ∷ 7 ∷ 7 ∷ 7 ∷ 7 ∷ 7 ∷ 7 ∷ 7 ∷ 7 ∷ 7 ∷ 7 ∷
    7 ∷ 7 ∷ 7 ∷ 7 ∷ 7 ∷ 7 ∷ 7 ∷ 7 ∷ 8 ∷ 7 ∷ 8 ∷ 13 ∷ 19 ∷ 13 ∷ 14 ∷ 6 ∷
    15 ∷ 5 ∷ 6 ∷ 5 ∷ 6 ∷ 5 ∷ 6 ∷ 6 ∷ 6 ∷ 5 ∷ 7 ∷ 7 ∷ 6 ∷ 6 ∷ 6 ∷ 5 ∷
    6 ∷ 7 ∷ 6 ∷ 5 ∷ 5 ∷ 6 ∷ 7 ∷ 7 ∷ 7 ∷ 7 ∷ 7 ∷ 15 ∷ 11 ∷ 14 ∷ 13 ∷ 28 ∷
    20 ∷ 22 ∷ 20 ∷ 20 ∷ 22 ∷ 22 ∷ 22 ∷ 23 ∷ 22 ∷ 23 ∷ 23 ∷ 23 ∷ 23 ∷ 23 ∷ 24 ∷ 23 ∷
    24 ∷ 24 ∷ 22 ∷ 23 ∷ 24 ∷ 23 ∷ 23 ∷ 23 ∷ 23 ∷ 21 ∷ 22 ∷ 23 ∷ 22 ∷ 23 ∷ 23 ∷ 24 ∷
    22 ∷ 21 ∷ 20 ∷ 22 ∷ 22 ∷ 23 ∷ 23 ∷ 21 ∷ 23 ∷ 22 ∷ 22 ∷ 24 ∷ 21 ∷ 22 ∷ 23 ∷ 23 ∷
    21 ∷ 21 ∷ 22 ∷ 21 ∷ 23 ∷ 22 ∷ 23 ∷ 23 ∷ 20 ∷ 22 ∷ 22 ∷ 22 ∷ 23 ∷ 22 ∷ 22 ∷ 23 ∷
    26 ∷ 26 ∷ 20 ∷ 19 ∷ 22 ∷ 23 ∷ 22 ∷ 25 ∷ 26 ∷ 26 ∷ 26 ∷ 27 ∷ 27 ∷ 26 ∷ 24 ∷ 25 ∷
    19 ∷ 21 ∷ 26 ∷ 27 ∷ 27 ∷ 26 ∷ 27 ∷ 24 ∷ 21 ∷ 21 ∷ 26 ∷ 26 ∷ 28 ∷ 27 ∷ 27 ∷ 27 ∷
    20 ∷ 24 ∷ 20 ∷ 21 ∷ 22 ∷ 21 ∷ 21 ∷ 23 ∷ 22 ∷ 22 ∷ 25 ∷ 25 ∷ 24 ∷ 24 ∷ 26 ∷ 23 ∷
    26 ∷ 27 ∷ 26 ∷ 26 ∷ 27 ∷ 27 ∷ 27 ∷ 27 ∷ 27 ∷ 28 ∷ 27 ∷ 27 ∷ 27 ∷ 27 ∷ 27 ∷ 26 ∷
    30 ∷ []

-- the lowest bits of a number, highest first
unfoldable pub bits : ℕ → ℕ → List Bool
bits zero n = []
bits (suc k) n = (n / 2 ^ k % 2 == 1) ∷ bits k n

abbrev pub bits_of : List ℕ → List Bool
bits_of bytes = flat_map (bits 8) bytes

abbrev pub length_of : ℕ → ℕ
length_of symbol = slice_index lengths symbol

-- The code is canonical: the words stand by length, and of one length by symbol. A word begins where
-- the words before it end: each of these covers as many numbers of this length as begin with it.
unfoldable pub code_offset : ℕ → ℕ → ℕ → List ℕ → ℕ
code_offset symbol len at [] = 0
code_offset symbol len at (other ∷ others) =
    (if nat_lt other len || (other == len && nat_lt at symbol) then 2 ^ (len - other) else 0) + code_offset symbol len (at + 1) others

unfoldable pub number_of : ℕ → ℕ
number_of symbol = code_offset symbol (length_of symbol) 0 lengths

-- the word of a symbol
unfoldable pub word : ℕ → List Bool
word symbol = bits (length_of symbol) (number_of symbol)

-- a coded text: the words of its symbols, and then fewer than eight one bits
pub record IsHuffman (bytes text : List ℕ) : Type 0 where
  pub padding : ℕ
  pub short : padding < 8
  pub words : bits_of bytes ≡ flat_map word text ++ replicate padding true
  pub symbols : AllByRecursion (λ symbol. symbol < 256) text

-- how many bits the words of a text have
abbrev pub coded_length : List ℕ → ℕ
coded_length [] = 0
coded_length (symbol ∷ text) = length_of symbol + coded_length text
