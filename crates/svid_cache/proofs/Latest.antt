-- The latest of the seconds before which nothing is due, or has ended.
use Rattle.std.specs.Prelude.{ℕ, ◌+◌, ◌<◌, ◌≤◌, min, List, [], ◌∷◌, take, get_or, length, slice_index_or}
use Rattle.std.specs.List.{AllByRecursion}
use Rattle.std.proofs.Common.{arith, sym, ap, subst, ◌∙◌}
use Rattle.std.proofs.lemmas.List.{take_more, take_all}
use Rattle.svid_cache.proofs.Common.{all_append, all_such, Svid, join, join_more}
use Rattle.list_laws.proofs.Elements.{all_front, all_back}
use Rattle.svid_cache.specs.Queue.{IsLatest, NoneEndsBefore, svid_end}

-- the seconds of the items so far and of one more
pub fits_more : {X : Type 0} (time : X → ℕ) (xs : List X) (i first : ℕ) (d : X) → i < length xs → AllByRecursion (λ x. first ≤ time x) (take i xs) → AllByRecursion (λ x. min first (time (get_or xs i d)) ≤ time x) (take (i + 1) xs)
fits_more time xs i first d below all =
    let lower = min first (time (get_or xs i d)) in
    subst (AllByRecursion (λ x. lower ≤ time x)) (sym (take_more xs i d below))
    (all_append (λ x. lower ≤ time x) (take i xs) (get_or xs i d ∷ []) (all_such (λ x. first ≤ time x) (λ x. lower ≤ time x) (take i xs) (λ x from. omega (arith, from)) all) (omega arith, tt))

pub latest_more : {X : Type 0} (time : X → ℕ) (xs : List X) (i last first : ℕ) (d : X) → i < length xs → IsLatest last (λ s. AllByRecursion (λ x. s ≤ time x) (take i xs)) first → IsLatest last (λ s. AllByRecursion (λ x. s ≤ time x) (take (i + 1) xs)) (min first (time (get_or xs i d)))
latest_more time xs i last first d below latest = λ other within all.
    let both = subst (AllByRecursion (λ x. other ≤ time x)) (take_more xs i d below) all in
    let so_far = latest other within (all_front (λ x. other ≤ time x) (take i xs) (get_or xs i d ∷ []) both) in
    let one = (all_back (λ x. other ≤ time x) (take i xs) (get_or xs i d ∷ []) both).0 in
    omega (arith, so_far, one)

-- the items so far, where there are no others
pub latest_all : {X : Type 0} (time : X → ℕ) (xs : List X) (i last first : ℕ) → length xs ≤ i → IsLatest last (λ s. AllByRecursion (λ x. s ≤ time x) (take i xs)) first → IsLatest last (λ s. AllByRecursion (λ x. s ≤ time x) xs) first
latest_all time xs i last first few latest = subst (λ l. IsLatest last (λ s. AllByRecursion (λ x. s ≤ time x) l) first) (take_all i xs few) latest

-- the blocks so far and one more
pub latest_block : (blocks : List (List Svid)) (i last first new : ℕ) → i < length blocks → IsLatest last (λ s. NoneEndsBefore s (join (take i blocks))) first → IsLatest first (λ s. NoneEndsBefore s (slice_index_or blocks i [])) new → IsLatest last (λ s. NoneEndsBefore s (join (take (i + 1) blocks))) new
latest_block blocks i last first new below latest block = λ other within all.
    let both = subst (NoneEndsBefore other) (ap join (take_more blocks i [] below) ∙ join_more (take i blocks) (slice_index_or blocks i [])) all in
    block other (latest other within (all_front (λ s. other ≤ svid_end s) (join (take i blocks)) (slice_index_or blocks i []) both))
    (all_back (λ s. other ≤ svid_end s) (join (take i blocks)) (slice_index_or blocks i []) both)
