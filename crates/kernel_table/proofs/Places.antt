-- Rows by their place, and the only one.
use Rattle.std.proofs.Common.{◌≡◌, ℕ, List, [], ◌∷◌, Some, None, refl}
use Rattle.std.specs.List.{slice_get}
use Rattle.kernel_table.specs.Rows.{uid_in, only_uid}

-- none at place 1, one at place 0
pub one_row : (rows : List (List ℕ)) (row : List ℕ) → slice_get rows 1 ≡ None → slice_get rows 0 ≡ Some row → only_uid rows ≡ uid_in row
one_row [] row none some = cc
one_row (a ∷ []) row none some = cc
one_row (a ∷ b ∷ more) row none some = cc

pub no_row : (rows : List (List ℕ)) → slice_get rows 0 ≡ None → only_uid rows ≡ None
no_row [] none = refl
no_row (a ∷ rows) none = cc

pub two_rows : (rows : List (List ℕ)) (row : List ℕ) → slice_get rows 1 ≡ Some row → only_uid rows ≡ None
two_rows [] row some = cc
two_rows (a ∷ []) row some = cc
two_rows (a ∷ b ∷ more) row some = refl
