-- Bytes at a place.
use Rattle.std.proofs.Common.{◌≡◌, ℕ, ◌+◌, List, ◌++◌, length, drop, refl, ap, sym, ◌∙◌}
use Rattle.std.proofs.lemmas.List.{drop_at, drop-drop}

-- what is after a prefix of what is at a place
pub behind_front : (bytes front rest : List ℕ) (at : ℕ) → drop at bytes ≡ front ++ rest → drop (at + length front) bytes ≡ rest
behind_front bytes front rest at e = sym (drop-drop (length front) at bytes) ∙ ap (λ (xs : List ℕ). drop (length front) xs) e ∙ drop_at front rest (length front) refl
