-- Selectors, and sets of them (SPIRE registration entries).
use Rattle.std.specs.Prelude.{ℕ, ◌+◌, ◌≡◌, ◌==◌, Bool, not, if◌then◌else◌, List, [], ◌∷◌, length, position, Option, Some, None, Result, Ok, Err}
use Rattle.std.specs.Str.{bytes_eq, is_utf8}
use Rattle.std.specs.List.{list_all, list_any}
use Rattle.std.specs.List.Sorted.{IsStrictlySortedBy}
use Rattle.std.specs.Ordering.{nat_cmp}
use Rattle.std.specs.Cmp.Lexicographic.{slice_cmp}
use Rattle.std.specs.BTreeSet.{insert_key}
use Rattle.wl_selector.specs.declared.faults.SelectorFault.{SelectorFault}
use Rattle.wl_selector.specs.declared.faults.SelectorFault.TheVariants.{NoColon, EmptyKind, EmptyValue, NotUtf8, Memory}

-- ---- one selector

-- the kind is what stands before the first colon, and the value what is after it
abbrev pub parts_fault : ℕ → Option ℕ → Option SelectorFault
parts_fault n None = Some NoColon
parts_fault n (Some at) = if at == 0 then Some EmptyKind else if at + 1 == n then Some EmptyValue else None

-- UTF-8, and something on each side of the first colon
unfoldable pub selector_fault : List ℕ → Option SelectorFault
selector_fault text = if not (is_utf8 text) then Some NotUtf8 else parts_fault (length text) (position (λ b. b == 58) text)

-- What reading a text answers: the text, where it has no fault; else its first fault. Running out of memory yields nothing.
abbrev pub Reads : List ℕ → Option SelectorFault → Result (List ℕ) SelectorFault → Type 0
Reads text fault (Ok value) = (value ≡ text) × (fault ≡ None)
Reads text fault (Err Memory) = Unit {0}
Reads text fault (Err NoColon) = fault ≡ Some NoColon
Reads text fault (Err EmptyKind) = fault ≡ Some EmptyKind
Reads text fault (Err EmptyValue) = fault ≡ Some EmptyValue
Reads text fault (Err NotUtf8) = fault ≡ Some NotUtf8

-- ---- sets

-- each text is below those after it, by their bytes
abbrev pub IsAscending : List (List ℕ) → Type 0
IsAscending texts = IsStrictlySortedBy (slice_cmp nat_cmp) texts

-- one more text at its place in the order, unless it is there
abbrev pub put_text : List (List ℕ) → List ℕ → List (List ℕ)
put_text done text = insert_key (slice_cmp nat_cmp) done text

abbrev pub sorted_onto : List (List ℕ) → List (List ℕ) → List (List ℕ)
sorted_onto done [] = done
sorted_onto done (text ∷ texts) = sorted_onto (put_text done text) texts

-- the texts in order, each once
unfoldable pub sorted_texts : List (List ℕ) → List (List ℕ)
sorted_texts texts = sorted_onto [] texts

-- a text is among them
unfoldable pub has_text : List (List ℕ) → List ℕ → Bool
has_text texts text = list_any (λ other. bytes_eq other text) texts

-- each of the second texts is among the first
unfoldable pub has_texts : List (List ℕ) → List (List ℕ) → Bool
has_texts texts each = list_all (has_text texts) each
