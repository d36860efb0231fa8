-- What a caller is attested to (own rule): the selectors of the socket over which it came, and its uid's.
use Rattle.std.specs.Prelude.{ℕ, List, [], ◌∷◌, ◌++◌, codes, decimal, Option, Some, None}
use Rattle.wl_selector.specs.Selectors.{sorted_texts}
use Rattle.wl_edge.specs.declared.origin.Origin.{Origin}

-- what a uid says of a caller (SPIRE's workload attestor `unix`)
abbrev pub uid_selector : ℕ → List ℕ
uid_selector uid = codes "unix:uid:" ++ decimal uid

-- these selectors, as a set with the uid's where there is one
abbrev pub with_uid : Option ℕ → List (List ℕ) → List (List ℕ)
with_uid None selectors = selectors
with_uid (Some uid) selectors = sorted_texts (selectors ++ uid_selector uid ∷ [])

-- a caller from there
abbrev pub attested_to : Origin → List (List ℕ)
attested_to origin = with_uid origin.uid origin.selectors
