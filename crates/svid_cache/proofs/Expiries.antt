-- Whether one of the SVIDs has expired, by a second before which none has.
use Rattle.std.specs.Prelude.{◌≡◌, ◌||◌, ◌<◌, ◌≤◌, ℕ, min, nat_lt, not, Bool, true, false, if◌then◌else◌, List, [], ◌∷◌, filter, take, length, slice_index_or, ◌+◌}
use Rattle.std.specs.List.{list_any}
use Rattle.std.proofs.Common.{arith, refl, sym, ◌∙◌, ap, subst}
use Rattle.std.proofs.lemmas.Bool.{or_parts}
use Rattle.std.proofs.lemmas.Bool.Decides.{nat_tests}
use Rattle.std.proofs.lemmas.List.{take_more}
use Rattle.std.proofs.lemmas.List.Folds.{list_any-append}
use Rattle.svid_cache.proofs.Common.{Svid, all_append, all_filter, all_such, join, join_more, svid_key, Cached, lasts, with_svid, is_below, is_above}
use Rattle.sorted_blocks.specs.Blocks.{with_item}
use Rattle.svid_cache.specs.Caches.{has_ended, without_ended}
use Rattle.svid_cache.specs.Queue.{svid_end, NoneEndsBefore}

or_assoc : (a b c : Bool) → ((a || b) || c) ≡ (a || (b || c))
or_assoc true b c = refl
or_assoc false b c = refl

-- before the second before which none has expired none has
before_go : (now end last : ℕ) → end ≤ last → now < end → not (nat_lt now last) ≡ false
before_go now end last from before = grind (arith, nat_tests, from, before)

pub none_before : (now end : ℕ) (svids : List Svid) → NoneEndsBefore end svids → now < end → list_any (λ s. not (lasts now s)) svids ≡ false
none_before now end [] ends before = refl
none_before now end (s ∷ more) ends before = rw (before_go now end s.signed.not_after ends.0 before) (none_before now end more ends.1 before)

-- one in the blocks passes where one in a block does
pub any_join : {X : Type 0} (t : X → Bool) (blocks : List (List X)) → list_any (λ block. list_any t block) blocks ≡ list_any t (join blocks)
any_join t [] = refl
any_join t (b ∷ bs) = ap (λ c. list_any t b || c) (any_join t bs) ∙ sym (list_any-append t b (join bs))

kept_go : (b : Bool) (s : Svid) (kept more : List Svid) → not b ≡ false → kept ≡ more → (if b then s ∷ kept else kept) ≡ s ∷ more
kept_go true s kept more h same = ap (λ l. s ∷ l) same
kept_go false s kept more h same = cc

-- where none has expired all stay
none_ended : (now : ℕ) (svids : List Svid) → list_any (λ s. not (lasts now s)) svids ≡ false → filter (lasts now) svids ≡ svids
none_ended now [] h = refl
none_ended now (s ∷ more) h =
    let parts = or_parts (not (lasts now s)) (list_any (λ x. not (lasts now x)) more) h in
    kept_go (lasts now s) s (filter (lasts now) more) more parts.0 (none_ended now more parts.1)

pub none_yet : (now end : ℕ) (c : Cached) → NoneEndsBefore end c.svids → now < end → has_ended now c ≡ false
unfolding has_ended
none_yet now end c ends before = none_before now end c.svids ends before

pub ended_is : (now : ℕ) (c : Cached) (svids : List Svid) → svids ≡ c.svids → list_any (λ s. not (lasts now s)) svids ≡ has_ended now c
unfolding has_ended
ended_is now c svids are = ap (list_any (λ s. not (lasts now s))) are

pub all_kept : (now : ℕ) (c : Cached) → has_ended now c ≡ false → without_ended now c ≡ c
unfolding has_ended
all_kept now c none = ap (λ (l : List Svid). record c { svids = l }) (none_ended now c.svids none)

-- ---- a second before which none of more SVIDs has expired

pub ends_lower : (low end : ℕ) (svids : List Svid) → low ≤ end → NoneEndsBefore end svids → NoneEndsBefore low svids
ends_lower low end svids lower ends = all_such (λ s. end ≤ svid_end s) (λ s. low ≤ svid_end s) svids (λ s from. omega (arith, lower, from)) ends

pub ends_put : (end : ℕ) (s : Svid) (svids : List Svid) → NoneEndsBefore end svids → NoneEndsBefore (min end s.signed.not_after) (with_svid s svids)
unfolding with_svid
ends_put end s svids ends =
    let low = min end s.signed.not_after in
    let P : Svid → Type 0 = λ x. low ≤ svid_end x in
    let all = ends_lower low end svids (omega arith) ends in
    all_append P (filter (is_below s.ask.entry_id) svids) (s ∷ filter (is_above s.ask.entry_id) svids)
    (all_filter P (is_below s.ask.entry_id) svids all) (omega arith, all_filter P (is_above s.ask.entry_id) svids all)

pub put_is : (s : Svid) (made svids : List Svid) → made ≡ with_item svid_key s svids → made ≡ with_svid s svids
unfolding with_svid
put_is s made svids is = is

-- nor of one block more
pub ends_more : (first new i : ℕ) (blocks : List (List Svid)) → i < length blocks → NoneEndsBefore first (join (take i blocks)) → new ≤ first → NoneEndsBefore new (slice_index_or blocks i []) → NoneEndsBefore new (join (take (i + 1) blocks))
ends_more first new i blocks below ends lower block =
    subst (NoneEndsBefore new) (sym (ap join (take_more blocks i [] below) ∙ join_more (take i blocks) (slice_index_or blocks i [])))
    (all_append (λ s. new ≤ svid_end s) (join (take i blocks)) (slice_index_or blocks i []) (ends_lower new first (join (take i blocks)) lower ends) block)
