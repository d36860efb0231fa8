-- The numbers of ranges, one range after the other.
use Rattle.std.proofs.Common.{◌≡◌, ℕ, ◌+◌, ◌-◌, ◌<◌, ◌≤◌, List, [], ◌∷◌, ◌++◌, length, drop, get_or, arith, sym, ◌∙◌, ap, length-append, append_assoc, add-one, drop-cons}
use Rattle.std.specs.Prelude.{flat_map}
use Rattle.std.specs.List.{AllByRecursion, range_with_len}
use Rattle.std.proofs.lemmas.List.{map-id}
use Rattle.std.proofs.lemmas.List.FromFn.{length-range_with_len, map-range_with_len_more}
use Rattle.wl_config.specs.Uids.{IsRange, numbers_of}
use Rattle.wl_config.specs.declared.uids.UidRange.{UidRange}

-- one number more
pub one_more : (a n j : ℕ) → a + n ≡ j → range_with_len a (n + 1) ≡ range_with_len a n ++ j ∷ []
one_more a n j is = sym (map-id (range_with_len a (n + 1))) ∙ map-range_with_len_more (λ k. k) a n j is ∙ ap (λ l. l ++ j ∷ []) (map-id (range_with_len a n))

-- one uid more of a range
pub pushed_more : (old items : List ℕ) (first uid next : ℕ) → first ≤ uid → next ≡ uid + 1 → items ≡ old ++ range_with_len first (uid - first) → items ++ uid ∷ [] ≡ old ++ range_with_len first (next - first)
pushed_more old items first uid next after is pushed =
    ap (λ l. l ++ uid ∷ []) pushed
    ∙ append_assoc old (range_with_len first (uid - first)) (uid ∷ [])
    ∙ ap (λ l. old ++ l) (sym (one_more first (uid - first) uid (omega (arith, after))))
    ∙ ap (λ n. old ++ range_with_len first n) (omega (arith, after, is))

-- the range at i stands before those after it
pub range_first : (ranges : List UidRange) (i : ℕ) (r : UidRange) → i < length ranges → flat_map numbers_of (drop i ranges) ≡ numbers_of (get_or ranges i r) ++ flat_map numbers_of (drop (i + 1) ranges)
range_first ranges i r within = ap (flat_map numbers_of) (drop-cons ranges i r within) ∙ ap (λ (m : ℕ). numbers_of (get_or ranges i r) ++ flat_map numbers_of (drop m ranges)) (sym (add-one i))

pub count_first : (ranges : List UidRange) (i : ℕ) (r : UidRange) → i < length ranges → length (flat_map numbers_of (drop i ranges)) ≡ ((get_or ranges i r).end - (get_or ranges i r).first) + length (flat_map numbers_of (drop (i + 1) ranges))
count_first ranges i r within =
    let q = get_or ranges i r in
    ap length (range_first ranges i r within)
    ∙ length-append (numbers_of q) (flat_map numbers_of (drop (i + 1) ranges))
    ∙ ap (λ n. n + length (flat_map numbers_of (drop (i + 1) ranges))) (length-range_with_len q.first (q.end - q.first))

-- ranges have a number, where there is one
pub some_numbers : (ranges : List UidRange) → 0 < length ranges → AllByRecursion IsRange ranges → 0 < length (flat_map numbers_of ranges)
some_numbers [] some all = absurd (omega (arith, some))
some_numbers (r ∷ rs) some all = omega (arith, length-append (numbers_of r) (flat_map numbers_of rs), length-range_with_len r.first (r.end - r.first), all.0)
