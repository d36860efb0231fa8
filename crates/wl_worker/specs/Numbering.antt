-- Links that are served in turn: each has a number of its own, and the rounds that belong to it (own rules).
use Rattle.std.specs.Prelude.{◌≡◌, ℕ, ◌+◌, ◌≤◌, List, []}
use Rattle.std.specs.List.{AllByRecursion}
use Rattle.wl_worker.specs.Owners.{owned_by, tally}

-- Each link has a number, by which its rounds are its own: links under way, links that were over as they were finished, and
-- links that were finished as they stood. `apart k` is how many links of number k are held beside these lists. No two links
-- have one number, no link has a number from `next` on, and each round belongs to a link.
pub record Numbered {U F R : Type 0} (runs : ℕ → U → List R → Type 0) (full late : ℕ → F → List R → Type 0) (apart : ℕ → ℕ) (running : List (ℕ × U)) (fulls lates : List (ℕ × F)) (rounds : List (ℕ × R)) (next : ℕ) : Type 0 where
  pub once : (k : ℕ) → apart k + (tally k running + (tally k fulls + tally k lates)) ≤ 1
  pub fresh : (k : ℕ) → next ≤ k → apart k + (tally k running + (tally k fulls + tally k lates)) ≡ 0
  pub owners : (k : ℕ) → apart k + (tally k running + (tally k fulls + tally k lates)) ≡ 0 → owned_by k rounds ≡ []
  pub each_running : AllByRecursion (λ u. runs u.0 u.1 (owned_by u.0 rounds)) running
  pub each_full : AllByRecursion (λ f. full f.0 f.1 (owned_by f.0 rounds)) fulls
  pub each_late : AllByRecursion (λ f. late f.0 f.1 (owned_by f.0 rounds)) lates

-- no link is held beside the lists
abbrev pub none_apart : ℕ → ℕ
none_apart k = 0
