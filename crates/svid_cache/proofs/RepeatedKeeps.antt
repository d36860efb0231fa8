-- An SVID that is kept already changes nothing, and another one does.
use Rattle.std.specs.Prelude.{◌≡◌, ◌||◌, ◌++◌, ℕ, Bool, true, false, if◌then◌else◌, List, [], ◌∷◌, map, filter, find, Option, Some, None, unwrap_or, option_map}
use Rattle.std.specs.Str.{bytes_eq}
use Rattle.std.specs.List.{AllByRecursion}
use Rattle.std.specs.List.Sorted.{IsStrictlySortedBy}
use Rattle.std.specs.Ordering.{nat_cmp, is_lt, is_gt}
use Rattle.std.specs.Cmp.Lexicographic.{slice_cmp, pointwise}
use Rattle.std.proofs.Common.{Less, arith, refl, sym, ◌∙◌, ap, subst}
use Rattle.std.proofs.lemmas.Bool.{and_parts}
use Rattle.std.proofs.lemmas.Slice.Eq.{bytes_eq-Decides}
use Rattle.svid_cache.proofs.Common.{Rises, level_self, svid_key, same_ask, Ask, Svid, Cached, kept_for, with_svid, is_below, is_above}
use Rattle.list_laws.proofs.Order.{order, turned}
use Rattle.wl_entry.specs.Same.{same_signed, same_svid}
use Rattle.wl_entry.proofs.Sames.{svid_is, svids_are, both_true, ask_self, svid_self, list_self}
use Rattle.svid_cache.specs.declared.install.Installed.{Installed}
use Rattle.svid_cache.specs.declared.install.Installed.TheVariants as installed
use Rattle.svid_cache.specs.Caches.{keeps, is_refused, after_install}
use Rattle.svid_cache.proofs.AskBlocks.{some_is, found_go}

-- ---- what is found

passes_go : {X : Type 0} (t : X → Bool) (y : X) (ys : List X) (x : X) (b : Bool) → t y ≡ b → (find t ys ≡ Some x → t x ≡ true) → (if b then Some y else find t ys) ≡ Some x → t x ≡ true
passes_go t y ys x true is later found = subst (λ z. t z ≡ true) (some_is y x found) is
passes_go t y ys x false is later found = later found

-- what is found passes the test
found_passes : {X : Type 0} (t : X → Bool) (xs : List X) (x : X) → find t xs ≡ Some x → t x ≡ true
found_passes t [] x found = cc
found_passes t (y ∷ ys) x found = passes_go t y ys x (t y) refl (λ there. found_passes t ys x there) found

-- its key has what all keys have
found_key : (P : List ℕ → Type 0) (t : Svid → Bool) (xs : List Svid) (x : Svid) → AllByRecursion P (map svid_key xs) → find t xs ≡ Some x → P x.ask.entry_id
found_key P t [] x all found = cc
found_key P t (y ∷ ys) x all found = found_go t (λ z. P z.ask.entry_id) y ys x (t y) all.0 (λ there. found_key P t ys x all.1 there) found

keeps_go : (svids : List Svid) (s : Svid) (o : Option Svid) → kept_for svids s.ask ≡ o → unwrap_or (option_map (λ k. same_signed k.signed s.signed) o) false ≡ true → kept_for svids s.ask ≡ Some s
unfolding kept_for
keeps_go svids s None found is = cc
keeps_go svids s (Some k) found is =
    let ask = found_passes (λ x. same_ask x.ask s.ask) svids k found in
    found ∙ ap (λ x. Some x) (svid_is k s (both_true (same_ask k.ask s.ask) (same_signed k.signed s.signed) ask is))

kept_is : (svids : List Svid) (s : Svid) → keeps svids s ≡ true → kept_for svids s.ask ≡ Some s
unfolding keeps
kept_is svids s is = keeps_go svids s (kept_for svids s.ask) refl is

-- ---- an SVID that is kept already

none_below : (id : List ℕ) (xs : List Svid) → AllByRecursion (λ k. order id k ≡ Less) (map svid_key xs) → filter (is_below id) xs ≡ []
none_below id [] over = refl
none_below id (x ∷ xs) over =
    let below : is_below id x ≡ false = ap is_lt (turned id x.ask.entry_id over.0) in
    rw below (none_below id xs over.1)

all_above : (id : List ℕ) (xs : List Svid) → AllByRecursion (λ k. order id k ≡ Less) (map svid_key xs) → filter (is_above id) xs ≡ xs
all_above id [] over = refl
all_above id (x ∷ xs) over =
    let above : is_above id x ≡ true = ap is_gt (turned id x.ask.entry_id over.0) in
    rw above (ap (λ l. x ∷ l) (all_above id xs over.1))

first_stays : (s : Svid) (xs : List Svid) → AllByRecursion (λ k. order s.ask.entry_id k ≡ Less) (map svid_key xs) → with_svid s (s ∷ xs) ≡ s ∷ xs
unfolding with_svid
first_stays s xs over =
    let below : is_below s.ask.entry_id s ≡ false = ap is_lt (level_self s.ask.entry_id) in
    let above : is_above s.ask.entry_id s ≡ false = ap is_gt (level_self s.ask.entry_id) in
    rw below (rw above (λ i. none_below s.ask.entry_id xs over i ++ s ∷ all_above s.ask.entry_id xs over i))

later_stays : (s x : Svid) (xs : List Svid) → order x.ask.entry_id s.ask.entry_id ≡ Less → with_svid s xs ≡ xs → with_svid s (x ∷ xs) ≡ x ∷ xs
unfolding with_svid
later_stays s x xs less rest =
    let below : is_below s.ask.entry_id x ≡ true = ap is_lt less in
    let above : is_above s.ask.entry_id x ≡ false = ap is_gt less in
    rw below (rw above (ap (λ l. x ∷ l) rest))

stays_go : (s x : Svid) (xs : List Svid) (b : Bool) → AllByRecursion (λ k. order x.ask.entry_id k ≡ Less) (map svid_key xs) → (find (λ k. same_ask k.ask s.ask) xs ≡ Some s → with_svid s xs ≡ xs)
    → (if b then Some x else find (λ k. same_ask k.ask s.ask) xs) ≡ Some s → with_svid s (x ∷ xs) ≡ x ∷ xs
stays_go s x xs true over later found =
    let is = some_is x s found in
    subst (λ y. with_svid s (y ∷ xs) ≡ y ∷ xs) (sym is) (first_stays s xs (subst (λ y. AllByRecursion (λ k. order y.ask.entry_id k ≡ Less) (map svid_key xs)) is over))
stays_go s x xs false over later found =
    later_stays s x xs (found_key (λ k. order x.ask.entry_id k ≡ Less) (λ k. same_ask k.ask s.ask) xs s over found) (later found)

with_stays : (s : Svid) (svids : List Svid) → Rises (map svid_key svids) → kept_for svids s.ask ≡ Some s → with_svid s svids ≡ svids
unfolding kept_for IsStrictlySortedBy
with_stays s [] rises found = cc
with_stays s (x ∷ xs) rises found = stays_go s x xs (same_ask x.ask s.ask) rises.0 (λ there. with_stays s xs rises.1 there) found

pub install_stays : (i : Installed) (s : Svid) (c : Cached) → Rises (map svid_key c.svids) → (is_refused i || keeps c.svids s) ≡ true → after_install i s c ≡ c
install_stays installed.Kept s c rises is = ap (λ (l : List Svid). record c { svids = l }) (with_stays s c.svids rises (kept_is c.svids s is))
install_stays installed.NoSuchAsk s c rises is = refl
install_stays (installed.Unfit u) s c rises is = refl
install_stays (installed.Older n) s c rises is = refl
install_stays installed.Spent s c rises is = refl

pub same_svids : (svids other : List Svid) → other ≡ svids → pointwise same_svid svids other ≡ true
same_svids svids other is = subst (λ l. pointwise same_svid svids l ≡ true) (sym is) (list_self same_svid svid_self svids)

-- ---- another SVID

below_other : (id key : List ℕ) → is_lt (slice_cmp nat_cmp key id) ≡ true → (b : Bool) → b ≡ bytes_eq key id → b ≡ false
below_other id key less false is = refl
below_other id key less true is =
    let at : is_lt (slice_cmp nat_cmp id id) ≡ true = subst (λ k. is_lt (slice_cmp nat_cmp k id) ≡ true) ((bytes_eq-Decides key id).0 (sym is)) less in
    grind (arith, ap is_lt (sym (level_self id)) ∙ at)

find_go : (id : List ℕ) (v : Svid) (a : Ask) (rest : List Svid) (s : Svid) (ss : List Svid) → a.entry_id ≡ id → (b : Bool) → b ≡ is_below id s → find (λ k. same_ask k.ask a) (filter (is_below id) ss ++ v ∷ rest) ≡ Some v → find (λ k. same_ask k.ask a) ((if b then s ∷ filter (is_below id) ss else filter (is_below id) ss) ++ v ∷ rest) ≡ Some v
find_go id v a rest s ss own false below later = later
find_go id v a rest s ss own true below later =
    let other : bytes_eq s.ask.entry_id a.entry_id ≡ false = subst (λ k. bytes_eq s.ask.entry_id k ≡ false) (sym own) (below_other id s.ask.entry_id (sym below) (bytes_eq s.ask.entry_id id) refl) in
    rw other later

find_last : (id : List ℕ) (v : Svid) (a : Ask) (rest svids : List Svid) → a.entry_id ≡ id → same_ask v.ask a ≡ true → find (λ s. same_ask s.ask a) (filter (is_below id) svids ++ v ∷ rest) ≡ Some v
find_last id v a rest [] own same = rw same refl
find_last id v a rest (s ∷ ss) own same = find_go id v a rest s ss own (is_below id s) refl (find_last id v a rest ss own same)

-- the new one is kept for its ask
put_kept : (v : Svid) (svids : List Svid) → kept_for (with_svid v svids) v.ask ≡ Some v
unfolding with_svid kept_for
put_kept v svids = find_last v.ask.entry_id v v.ask (filter (is_above v.ask.entry_id) svids) svids refl (ask_self v.ask)

differs : (v : Svid) (svids : List Svid) → keeps svids v ≡ false → (b : Bool) → b ≡ pointwise same_svid svids (with_svid v svids) → b ≡ false
unfolding keeps
differs v svids off false is = refl
differs v svids off true is =
    let found : kept_for svids v.ask ≡ Some v = ap (λ l. kept_for l v.ask) (svids_are svids (with_svid v svids) (sym is)) ∙ put_kept v svids in
    let same = and_parts (same_ask v.ask v.ask) (same_signed v.signed v.signed) (svid_self v) in
    sym (ap (λ (o : Option Svid). unwrap_or (option_map (λ k. same_signed k.signed v.signed) o) false) found ∙ same.1) ∙ off

-- an SVID that was not kept changes the list
pub put_differs : (v : Svid) (svids : List Svid) → keeps svids v ≡ false → pointwise same_svid svids (with_svid v svids) ≡ false
put_differs v svids off = differs v svids off (pointwise same_svid svids (with_svid v svids)) refl

-- ---- an answer that changes the list

pub record Changes (i : Installed) (svids : List Svid) (s : Svid) : Type 0 where
  pub kept : i ≡ installed.Kept
  pub other : keeps svids s ≡ false

pub changes : (i : Installed) (svids : List Svid) (s : Svid) → (is_refused i || keeps svids s) ≡ false → Changes i svids s
changes installed.Kept svids s is = record { kept = refl; other = is }
changes installed.NoSuchAsk svids s is = cc
changes (installed.Unfit u) svids s is = cc
changes (installed.Older n) svids s is = cc
changes installed.Spent svids s is = cc
