-- What the numbers of a fault line say, in a sentence (own rule).
use Rattle.std.specs.Prelude.{ℕ, ◌==◌, ◌&&◌, ◌||◌, Bool, not, nat_le, if◌then◌else◌, List, [], ◌∷◌, ◌++◌, codes, Option, Some, None, option_map}
use Rattle.std.specs.Fmt.{decimal}
use Rattle.fault_lines.specs.declared.places.Place.{Place}
use Rattle.fault_lines.specs.Names.{document_place, config_place}
use Rattle.fault_lines.specs.Texts as say

abbrev pub place_of : ℕ → ℕ → ℕ → ℕ → Place
place_of part index field item = record { part = part; index = index; field = field; item = item }

-- The place is an item of the field's own array: a selector's always, an id's in `federates_with`, and where the item is
-- not the first.
unfoldable pub has_item : ℕ → Place → Bool
has_item kind p = (kind == 6) || (((kind == 5) && ((p.part == 2) && (p.field == 4))) || not (p.item == 0))

unfoldable pub item_suffix : ℕ → Place → List ℕ
item_suffix kind p = if has_item kind p then codes "[" ++ decimal p.item ++ codes "]" else []

-- the field's own array, or its first item
unfoldable pub is_list : Place → Bool
is_list p = (p.item == 0) && (((p.part == 2) && (nat_le 3 p.field && nat_le p.field 5)) || ((p.part == 4) && ((p.field == 3) || (p.field == 7))))

unfoldable pub kind_what : Place → List ℕ
kind_what p =
    if is_list p then say.wrong_list else say.wrong_kind

-- ---- ids

unfoldable pub id_what : ℕ → Option (List ℕ)
id_what kind =
    if kind == 2 then Some say.not_spiffe
    else if kind == 3 then Some say.no_domain
    else if kind == 8 then Some say.id_memory
    else None

unfoldable pub id_what_at : ℕ → ℕ → Option (List ℕ)
id_what_at kind n =
    if kind == 1 then Some (say.id_too_long n)
    else if kind == 4 then Some (say.domain_byte n)
    else if kind == 5 then Some (say.empty_segment n)
    else if kind == 6 then Some (say.path_byte n)
    else if kind == 7 then Some (say.dot_segment n)
    else None

-- ---- documents

unfoldable pub document_alone : ℕ → Option (List ℕ)
document_alone kind =
    if kind == 1 then Some say.document_not_json
    else if kind == 2 then Some say.document_version
    else if kind == 11 then Some say.no_own_bundle
    else if kind == 14 then Some say.document_memory
    else None

unfoldable pub document_what : ℕ → Place → Option (List ℕ)
document_what kind p =
    if kind == 3 then Some say.missing
    else if kind == 4 then Some (kind_what p)
    else if kind == 6 then Some say.not_selector
    else if kind == 7 then Some say.no_selectors
    else if kind == 8 then Some say.given_before
    else if kind == 9 then Some say.foreign_domain
    else if kind == 10 then Some say.not_base64
    else None

unfoldable pub document_what_of : ℕ → ℕ → Option (List ℕ)
document_what_of kind n =
    if kind == 12 then Some (say.too_many_items n)
    else if kind == 13 then Some (say.too_many_bytes n)
    else if kind == 5 then id_what n
    else None

-- what is wrong at the place, by the numbers after it
unfoldable pub document_rest : ℕ → Place → List ℕ → Option (List ℕ)
document_rest kind p [] = document_what kind p
document_rest kind p (n ∷ []) = document_what_of kind n
document_rest kind p (n ∷ m ∷ []) = if kind == 5 then id_what_at n m else None
document_rest kind p (n ∷ m ∷ l ∷ more) = None

-- a place and what is wrong there
abbrev pub told_at : List ℕ → List ℕ → List ℕ
told_at place what = place ++ codes ": " ++ what

unfoldable pub document_placed : ℕ → Place → List ℕ → Option (List ℕ)
document_placed kind p more = option_map (told_at (document_place p ++ item_suffix kind p)) (document_rest kind p more)

unfoldable pub document_sentence : List ℕ → Option (List ℕ)
document_sentence [] = None
document_sentence (k ∷ []) = document_alone k
document_sentence (k ∷ a ∷ []) = None
document_sentence (k ∷ a ∷ b ∷ []) = None
document_sentence (k ∷ a ∷ b ∷ c ∷ []) = None
document_sentence (k ∷ a ∷ b ∷ c ∷ d ∷ more) = document_placed k (place_of a b c d) more

-- ---- configurations

unfoldable pub config_alone : ℕ → Option (List ℕ)
config_alone kind =
    if kind == 1 then Some say.config_not_json
    else if kind == 2 then Some say.config_version
    else if kind == 10 then Some say.config_memory
    else None

unfoldable pub config_long : ℕ → ℕ → Option (List ℕ)
config_long kind n =
    if kind == 9 then Some (say.config_too_long n)
    else None

unfoldable pub config_what : ℕ → Place → Option (List ℕ)
config_what kind p =
    if kind == 3 then Some say.missing
    else if kind == 4 then Some (kind_what p)
    else if kind == 5 then Some say.empty_text
    else if kind == 6 then Some say.not_selector
    else if kind == 8 then Some say.given_before
    else None

unfoldable pub config_what_of : ℕ → ℕ → Option (List ℕ)
config_what_of kind n =
    if kind == 7 then Some (say.too_many n)
    else None

unfoldable pub config_rest : ℕ → Place → List ℕ → Option (List ℕ)
config_rest kind p [] = config_what kind p
config_rest kind p (n ∷ []) = config_what_of kind n
config_rest kind p (n ∷ m ∷ more) = None

unfoldable pub config_placed : ℕ → Place → List ℕ → Option (List ℕ)
config_placed kind p more = option_map (told_at (config_place p ++ item_suffix kind p)) (config_rest kind p more)

unfoldable pub config_sentence : List ℕ → Option (List ℕ)
config_sentence [] = None
config_sentence (k ∷ []) = config_alone k
config_sentence (k ∷ n ∷ []) = config_long k n
config_sentence (k ∷ a ∷ b ∷ []) = None
config_sentence (k ∷ a ∷ b ∷ c ∷ []) = None
config_sentence (k ∷ a ∷ b ∷ c ∷ d ∷ more) = config_placed k (place_of a b c d) more

-- ---- scripts

unfoldable pub script_alone : ℕ → Option (List ℕ)
script_alone kind = if kind == 6 then Some say.script_memory else None

unfoldable pub script_line : ℕ → ℕ → Option (List ℕ)
script_line kind n =
    if kind == 1 then Some (say.wrong_line n)
    else if kind == 2 then Some (say.wrong_event n)
    else if kind == 3 then Some (say.no_connection n)
    else if kind == 4 then Some (say.not_hex n)
    else if kind == 5 then Some (say.script_too_long n)
    else None

unfoldable pub script_sentence : List ℕ → Option (List ℕ)
script_sentence [] = None
script_sentence (k ∷ []) = script_alone k
script_sentence (k ∷ n ∷ []) = script_line k n
script_sentence (k ∷ n ∷ m ∷ more) = None
