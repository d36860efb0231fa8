-- The facts of a cache stay as it changes.
use Rattle.std.specs.Prelude.{◌≡◌, ◌||◌, ◌+◌, ◌==◌, nat_le, nat_lt, Option, Some, None, ℕ, ◌<◌, ◌≤◌, ◌^◌, Bool, true, false, if◌then◌else◌, List, [], ◌∷◌, map, filter, length}
use Rattle.std.specs.Str.{bytes_eq}
use Rattle.std.specs.List.{AllByRecursion}
use Rattle.std.specs.List.Sorted.{IsStrictlySortedBy}
use Rattle.std.specs.Ordering.{nat_cmp}
use Rattle.std.specs.Cmp.Lexicographic.{slice_cmp}
use Rattle.std.proofs.Common.{Ordering, Less, arith, refl, sym, ◌∙◌, subst}
use Rattle.std.proofs.lemmas.Slice.Eq.{bytes_eq-Decides}
use Rattle.std.proofs.lemmas.Bool.{and_parts}
use Rattle.std.proofs.lemmas.Bool.Decides.{nat_tests}
use Rattle.svid_cache.proofs.Common.{Rises, ask_key, svid_key, same_ask, Ask, Svid, all_append, all_filter, level_self, kept_for, Cached, lasts, is_below, is_above, with_svid}
use Rattle.wl_entry.specs.Limits.{SignedWithin}
use Rattle.list_laws.proofs.Elements.{all_pass}
use Rattle.list_laws.proofs.AscendingKeys.{rises_filter}
use Rattle.sorted_blocks.proofs.OneMoreItem.{all_past, rises_with}
use Rattle.wl_entry.specs.declared.signing.Signed.{Signed}
use Rattle.wl_entry.specs.declared.unfit.Unfit.{Unfit}
use Rattle.wl_entry.specs.declared.unfit.Unfit.TheVariants as unfit
use Rattle.wl_entry.specs.Fitness.{signed_unfit}
use Rattle.svid_cache.specs.declared.install.Installed.{Installed}
use Rattle.svid_cache.specs.declared.install.Installed.TheVariants as installed
use Rattle.svid_cache.specs.Caches.{install, unless_unfit, unless_older, IsCached, is_listed}

abbrev order : List ℕ → List ℕ → Ordering
order a b = slice_cmp nat_cmp a b

-- ---- no SVIDs, fewer SVIDs, other asks

pub empty_cached : (renew : ℕ) (svids : List Svid) → svids ≡ [] → IsCached (record { asks = []; svids = svids; renew_before = renew })
unfolding IsStrictlySortedBy
empty_cached renew svids none = subst (λ l. IsCached (record { asks = []; svids = l; renew_before = renew })) (sym none) (record { asks = tt; svids = tt; listed = tt; within = tt; few = omega arith })

-- one ask rises
pub alone_rises : (a : Ask) → Rises (map ask_key (a ∷ []))
unfolding IsStrictlySortedBy
alone_rises a = (tt, tt)

pub synced_cached : (renew before : ℕ) (asks : List Ask) (old : List Ask) (svids : List Svid) → IsCached (record { asks = old; svids = svids; renew_before = before }) → Rises (map ask_key asks) → length asks < 2 ^ 32 → IsCached (record { asks = asks; svids = filter (λ s. is_listed asks s.ask) svids; renew_before = renew })
synced_cached renew before asks old svids is rises few =
    record {
      asks = rises;
      svids = rises_filter svid_key (λ s. is_listed asks s.ask) svids is.svids;
      listed = all_pass (λ s. is_listed asks s.ask) svids;
      within = all_filter (λ s. SignedWithin s.signed) (λ s. is_listed asks s.ask) svids is.within;
      few = few;
    }

pub swept_cached : (renew now : ℕ) (asks : List Ask) (svids : List Svid) → IsCached (record { asks = asks; svids = svids; renew_before = renew }) → IsCached (record { asks = asks; svids = filter (lasts now) svids; renew_before = renew })
swept_cached renew now asks svids is =
    record {
      asks = is.asks;
      svids = rises_filter svid_key (lasts now) svids is.svids;
      listed = all_filter (λ s. is_listed asks s.ask ≡ true) (lasts now) svids is.listed;
      within = all_filter (λ s. SignedWithin s.signed) (lasts now) svids is.within;
      few = is.few;
    }

-- ---- a new SVID

pub put_cached : (renew : ℕ) (s : Svid) (asks : List Ask) (svids : List Svid) → IsCached (record { asks = asks; svids = svids; renew_before = renew }) → is_listed asks s.ask ≡ true → SignedWithin s.signed → IsCached (record { asks = asks; svids = with_svid s svids; renew_before = renew })
unfolding with_svid
put_cached renew s asks svids is listed within =
    let id = s.ask.entry_id in
    let L : Svid → Type 0 = λ k. is_listed asks k.ask ≡ true in
    let W : Svid → Type 0 = λ k. SignedWithin k.signed in
    record {
      asks = is.asks;
      svids = rises_with svid_key s svids is.svids;
      listed = all_append L (filter (is_below id) svids) (s ∷ filter (is_above id) svids) (all_filter L (is_below id) svids is.listed) (listed, all_filter L (is_above id) svids is.listed);
      within = all_append W (filter (is_below id) svids) (s ∷ filter (is_above id) svids) (all_filter W (is_below id) svids is.within) (within, all_filter W (is_above id) svids is.within);
      few = is.few;
    }

-- ---- there are no more SVIDs than asks

abbrev other_ask : Ask → Ask → Type 0
other_ask a b = same_ask a b ≡ false

-- equal asks are of one entry
pub same_entry_id : (a b : Ask) → same_ask a b ≡ true → a.entry_id ≡ b.entry_id
same_entry_id a b same = (bytes_eq-Decides a.entry_id b.entry_id).0 (and_parts (bytes_eq a.entry_id b.entry_id) _ same).0

-- what is listed among asks above a key is above it
listed_go : (k : List ℕ) (a b : Ask) (rest : Bool) (s : Bool) → s ≡ same_ask b a → order k b.entry_id ≡ Less → (rest ≡ true → order k a.entry_id ≡ Less) → (s || rest) ≡ true → order k a.entry_id ≡ Less
listed_go k a b rest true same above later listed = subst (λ z. order k z ≡ Less) (same_entry_id b a (sym same)) above
listed_go k a b rest false same above later listed = later listed

listed_above : (k : List ℕ) (a : Ask) (asks : List Ask) → AllByRecursion (λ y. order k y ≡ Less) (map ask_key asks) → is_listed asks a ≡ true → order k a.entry_id ≡ Less
unfolding is_listed
listed_above k a [] above listed = grind (arith, listed)
listed_above k a (b ∷ bs) above listed = listed_go k a b (is_listed bs a) (same_ask b a) refl above.0 (listed_above k a bs above.1) listed

later_go : (a k : Ask) (rest : Bool) (s : Bool) → s ≡ same_ask a k → order a.entry_id k.entry_id ≡ Less → (s || rest) ≡ true → rest ≡ true
later_go a k rest true same less listed =
    let at : order a.entry_id a.entry_id ≡ Less = subst (λ z. order a.entry_id z ≡ Less) (sym (same_entry_id a k (sym same))) less in
    grind (arith, sym at ∙ level_self a.entry_id)
later_go a k rest false same less listed = listed

-- an ask above the first is listed among the others
listed_later : (a : Ask) (k : Ask) (asks : List Ask) → order a.entry_id k.entry_id ≡ Less → is_listed (a ∷ asks) k ≡ true → is_listed asks k ≡ true
unfolding is_listed
listed_later a k asks less listed = later_go a k (is_listed asks k) (same_ask a k) refl less listed

all_later : (a : Ask) (asks : List Ask) (svids : List Svid) → AllByRecursion (λ k. order a.entry_id k ≡ Less) (map svid_key svids) → AllByRecursion (λ s. is_listed (a ∷ asks) s.ask ≡ true) svids → AllByRecursion (λ s. is_listed asks s.ask ≡ true) svids
all_later a asks [] above all = tt
all_later a asks (s ∷ ss) above all = (listed_later a s.ask asks above.0 all.0, all_later a asks ss above.1 all.1)

few_go : (a : Ask) (asks : List Ask) (s : Svid) (ss : List Svid) → AllByRecursion (λ k. order a.entry_id k ≡ Less) (map ask_key asks) → Rises (map svid_key (s ∷ ss)) → AllByRecursion (λ t. is_listed (a ∷ asks) t.ask ≡ true) (s ∷ ss)
    → ((ts : List Svid) → Rises (map svid_key ts) → AllByRecursion (λ t. is_listed asks t.ask ≡ true) ts → length ts ≤ length asks)
    → (b : Bool) → b ≡ same_ask a s.ask → length (s ∷ ss) ≤ length (a ∷ asks)
unfolding IsStrictlySortedBy is_listed
few_go a asks s ss above rises all fewer true same =
    let over = subst (λ z. AllByRecursion (λ k. order z k ≡ Less) (map svid_key ss)) (sym (same_entry_id a s.ask (sym same))) rises.0 in
    let few : length ss ≤ length asks = fewer ss rises.1 (all_later a asks ss over all.1) in
    omega (arith, few)
few_go a asks s ss above rises all fewer false same =
    let listed : is_listed asks s.ask ≡ true = subst (λ c. (c || is_listed asks s.ask) ≡ true) (sym same) all.0 in
    let first : order a.entry_id s.ask.entry_id ≡ Less = listed_above a.entry_id s.ask asks above listed in
    let few : length (s ∷ ss) ≤ length asks = fewer (s ∷ ss) rises (listed, all_later a asks ss (all_past a.entry_id s.ask.entry_id (map svid_key ss) first rises.0) all.1) in
    omega (arith, few)

pub few_svids : (asks : List Ask) (svids : List Svid) → Rises (map ask_key asks) → Rises (map svid_key svids) → AllByRecursion (λ s. is_listed asks s.ask ≡ true) svids → length svids ≤ length asks
unfolding IsStrictlySortedBy is_listed
few_svids asks [] up rises all = omega arith
few_svids [] (s ∷ ss) up rises all = grind (arith, all.0)
few_svids (a ∷ asks) (s ∷ ss) up rises all = few_go a asks s ss up.0 rises all (λ ts r l. few_svids asks ts up.1 r l) (same_ask a s.ask) refl

-- ---- what Install lets through

listed_kept : (b : Bool) (rest : Installed) → (if b then rest else installed.NoSuchAsk) ≡ installed.Kept → b ≡ true
listed_kept true rest kept = refl
listed_kept false rest kept = grind (arith, kept)

fit_kept : (b : Bool) (u : Option Unfit) (rest : Installed) → (if b then unless_unfit u rest else installed.NoSuchAsk) ≡ installed.Kept → u ≡ None
fit_kept true None rest kept = refl
fit_kept true (Some u) rest kept = grind (arith, kept)
fit_kept false u rest kept = grind (arith, kept)

pub install_listed : (now : ℕ) (s : Svid) (c : Cached) → install now s c ≡ installed.Kept → is_listed c.asks s.ask ≡ true
unfolding install
install_listed now s c kept = listed_kept (is_listed c.asks s.ask) _ kept

within_go : (a b c d : Bool) (u v w x y : Unfit) (n : ℕ) → (if a then Some u else if b then Some v else if c then Some w else if d then Some x else if nat_lt 65536 n then Some y else None) ≡ None → nat_lt 65536 n ≡ false
within_go true b c d u v w x y n fit = grind (arith, fit)
within_go false true c d u v w x y n fit = grind (arith, fit)
within_go false false true d u v w x y n fit = grind (arith, fit)
within_go false false false true u v w x y n fit = grind (arith, fit)
within_go false false false false u v w x y n fit = grind (arith, fit)

-- what is fit is within its limits
pub fits : (now : ℕ) (g : Signed) → signed_unfit now g ≡ None → SignedWithin g
unfolding signed_unfit
fits now g fit =
    let under : nat_lt 65536 (length g.chain + length g.key) ≡ false = within_go (nat_le g.not_after g.not_before) (nat_le g.not_after now) (length g.chain == 0) (length g.key == 0) unfit.Times unfit.Expired unfit.EmptyChain unfit.EmptyKey (unfit.TooLong (length g.chain + length g.key)) (length g.chain + length g.key) fit in
    record { size = grind (arith, nat_tests, under) }

pub install_within : (now : ℕ) (s : Svid) (c : Cached) → install now s c ≡ installed.Kept → SignedWithin s.signed
unfolding install
install_within now s c kept = fits now s.signed (fit_kept (is_listed c.asks s.ask) (signed_unfit now s.signed) (unless_older c.renew_before now s.signed (kept_for c.svids s.ask)) kept)
