-- Who is subscribed, and who sees something else in one publication than in another (own rule).
use Rattle.std.specs.Prelude.{ℕ, ◌+◌, ◌==◌, Bool, not, if◌then◌else◌, List, [], ◌∷◌, ◌++◌, map, filter}
use Rattle.wl_snapshot.specs.Same.{same_view_model}
use Rattle.wl_snapshot.specs.Snapshots.{Publication}
use Rattle.wl_snapshot.specs.Views.{view_in}

-- the number that the next subscriber gets, and the subscribers by ascending number, each with its selectors
pub record Subscribed : Type 0 where
  pub next : ℕ
  pub members : List (ℕ × List (List ℕ))

abbrev pub nobody : Subscribed
nobody = record { next = 0; members = [] }

-- with one subscriber more, of these selectors
abbrev pub with_member : List (List ℕ) → Subscribed → Subscribed
with_member selectors s = record { next = s.next + 1; members = s.members ++ (s.next, selectors) ∷ [] }

-- the members without the one of this number
abbrev pub members_without : ℕ → List (ℕ × List (List ℕ)) → List (ℕ × List (List ℕ))
members_without number [] = []
members_without number (m ∷ ms) = if number == m.0 then ms else m ∷ members_without number ms

abbrev pub without_member : ℕ → Subscribed → Subscribed
without_member number s = record { next = s.next; members = members_without number s.members }

-- a caller with these selectors sees something else in the one publication than in the other
unfoldable pub views_differ : Publication → Publication → List (List ℕ) → Bool
views_differ old new selectors = not (same_view_model (view_in old selectors) (view_in new selectors))

-- the numbers, ascending, of the subscribers whose views differ
unfoldable pub affected_numbers : Publication → Publication → Subscribed → List ℕ
affected_numbers old new s = map (λ m. m.0) (filter (λ m. views_differ old new m.1) s.members)
