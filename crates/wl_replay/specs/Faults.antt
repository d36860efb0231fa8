-- The faults of a document as numbers (own rules).
use Rattle.std.specs.Prelude.{ℕ, List, [], ◌∷◌, ◌++◌}
use Rattle.spiffe_id.specs.declared.faults.IdFault.{IdFault}
use Rattle.spiffe_id.specs.declared.faults.IdFault.TheVariants as id
use Rattle.wl_document.specs.declared.fault.Place.{Place}
use Rattle.wl_document.specs.declared.fault.DocFault.{DocFault}
use Rattle.wl_document.specs.declared.fault.DocFault.TheVariants.{NotJson, Version, Missing, Kind, Id, Selector, NoSelectors, Duplicate, ForeignDomain, Base64, NoOwnBundle, TooMany, TooLong, Memory}

-- part, index, field and item
abbrev pub place_numbers : Place → List ℕ
place_numbers p = p.part ∷ p.index ∷ p.field ∷ p.item ∷ []

-- a fault of an id by its number, with its own number where it has one
unfoldable pub id_numbers : IdFault → List ℕ
id_numbers (id.TooLong n) = 1 ∷ n ∷ []
id_numbers id.NotSpiffe = 2 ∷ []
id_numbers id.EmptyDomain = 3 ∷ []
id_numbers (id.DomainByte at) = 4 ∷ at ∷ []
id_numbers (id.EmptySegment at) = 5 ∷ at ∷ []
id_numbers (id.PathByte at) = 6 ∷ at ∷ []
id_numbers (id.DotSegment at) = 7 ∷ at ∷ []
id_numbers id.Memory = 8 ∷ []

-- a fault of a document by its number, with its place and its further numbers
unfoldable pub fault_numbers : DocFault → List ℕ
fault_numbers NotJson = 1 ∷ []
fault_numbers Version = 2 ∷ []
fault_numbers (Missing p) = 3 ∷ place_numbers p
fault_numbers (Kind p) = 4 ∷ place_numbers p
fault_numbers (Id p e) = 5 ∷ place_numbers p ++ id_numbers e
fault_numbers (Selector p) = 6 ∷ place_numbers p
fault_numbers (NoSelectors p) = 7 ∷ place_numbers p
fault_numbers (Duplicate p) = 8 ∷ place_numbers p
fault_numbers (ForeignDomain p) = 9 ∷ place_numbers p
fault_numbers (Base64 p) = 10 ∷ place_numbers p
fault_numbers NoOwnBundle = 11 ∷ []
fault_numbers (TooMany p n) = 12 ∷ place_numbers p ++ n ∷ []
fault_numbers (TooLong p n) = 13 ∷ place_numbers p ++ n ∷ []
fault_numbers Memory = 14 ∷ []
