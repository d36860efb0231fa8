-- What a step leaves is the step of the definitions.
use Rattle.std.specs.Prelude.{◌≡◌, ℕ, ◌+◌, ◌<◌, ◌≤◌, ◌&&◌, ◌||◌, Bool, true, false, not, if◌then◌else◌, List, [], ◌∷◌, filter, length, Option, Some, None, unwrap_or}
use Rattle.std.specs.List.{list_any}
use Rattle.wl_entry.specs.Fitness.{signed_unfit}
use Rattle.wl_entry.specs.declared.unfit.Unfit.{Unfit}
use Rattle.svid_cache.specs.Caches as caches
use Rattle.svid_cache.specs.declared.install.Installed.{Installed}
use Rattle.svid_cache.specs.declared.install.Installed.TheVariants as installed
use Rattle.std.specs.Cmp.Lexicographic.{pointwise}
use Rattle.std.proofs.Common.{arith, refl, sym, ◌∙◌, ap, subst}
use Rattle.wl_store.proofs.Common.{same_svid, Ask, Entry, Bundle, Svid, Publication, asks_of, Flight, Cached, is_listed}
use Rattle.wl_entry.specs.Same.{same_entry, same_bundle}
use Rattle.list_laws.proofs.Elements.{all_filter, length_filter, all_append}
use Rattle.wl_entry.specs.declared.signing.Signed.{Signed}
use Rattle.wl_store.specs.Stores.{Store, cached_of, refusal, install, svids_after, as_unfit, leaf_judged, shows, shows_parts, publish, after_signed, with_entries, without_flight}
use Rattle.svid_cache.specs.Caches.{kept_for, with_svid, is_below, is_above, unless_older, unless_unfit, has_ended, lasts, is_refused}
use Rattle.wl_store.specs.declared.tickets.Change.TheVariants as change
use Rattle.wl_store.specs.Steps.{Stored, stored_after, stored_of, change_to, Trusted, AllTrusted, with_parts, IsInstalled}
use Rattle.std.proofs.lemmas.Bool.{and_parts}
use Rattle.wl_entry.proofs.Sames.{entries_are, svids_are, bundles_are}
use Rattle.wl_store.proofs.Sames.{shows_itself}

-- where the last publication shows what is kept
pub settled_same : (s : Store) (m : Stored) → shows_parts m.published s.entries s.svids s.bundles ≡ true → stored_of s.strict m.published s.renew_before s.in_flight s.last_ticket ≡ stored_after s m
unfolding shows
settled_same s m is =
    let entries = and_parts (pointwise same_entry m.published.entries s.entries) _ is in
    let parts = and_parts (pointwise same_svid m.published.svids s.svids) (pointwise same_bundle m.published.bundles s.bundles) entries.1 in
    (λ i. record { store = record { strict = s.strict; entries = entries_are m.published.entries s.entries entries.0 i; bundles = bundles_are m.published.bundles s.bundles parts.1 i; svids = svids_are m.published.svids s.svids parts.0 i; renew_before = s.renew_before; in_flight = s.in_flight; last_ticket = s.last_ticket }; published = m.published })
    ∙ (λ i. record { store = s; published = if sym is i then m.published else publish (m.published.number + 1) m.published.domain s })

-- where it does not
pub settled_new : (s : Store) (m : Stored) → shows_parts m.published s.entries s.svids s.bundles ≡ false → stored_of s.strict (publish (m.published.number + 1) m.published.domain s) s.renew_before s.in_flight s.last_ticket ≡ stored_after s m
unfolding shows
settled_new s m is = λ i. record { store = s; published = if sym is i then m.published else publish (m.published.number + 1) m.published.domain s }

pub change_same : (s : Store) (m : Stored) → shows_parts m.published s.entries s.svids s.bundles ≡ true → change.Same ≡ change_to s m
unfolding shows
change_same s m is = λ i. if sym is i then change.Same else change.New

pub change_new : (s : Store) (m : Stored) → shows_parts m.published s.entries s.svids s.bundles ≡ false → change.New ≡ change_to s m
unfolding shows
change_new s m is = λ i. if sym is i then change.Same else change.New

-- what the last publication shows has its SVIDs and the asks of its entries
pub shown_svids : (p : Publication) (entries : List Entry) (bundles : List Bundle) (svids : List Svid) → shows_parts p entries svids bundles ≡ true → svids ≡ p.svids
shown_svids p entries bundles svids is =
    let front = and_parts (pointwise same_entry p.entries entries) _ is in
    let parts = and_parts (pointwise same_svid p.svids svids) (pointwise same_bundle p.bundles bundles) front.1 in
    sym (svids_are p.svids svids parts.0)

pub shown_asks : (p : Publication) (entries : List Entry) (bundles : List Bundle) (svids : List Svid) (asks : List Ask) → shows_parts p entries svids bundles ≡ true → asks ≡ asks_of entries → asks ≡ asks_of p.entries
shown_asks p entries bundles svids asks is are =
    let front = and_parts (pointwise same_entry p.entries entries) _ is in
    are ∙ ap asks_of (sym (entries_are p.entries entries front.0))

-- those of a cache that are still there are trusted as they were
pub still_trusted : (signed : Ask → Signed → Type 0) (strict : Bool) (keep : Svid → Bool) (svids : List Svid) → AllTrusted signed strict svids → AllTrusted signed strict (filter keep svids)
still_trusted signed strict keep svids all = all_filter (λ s. Trusted signed strict s.ask s.signed) keep svids all

-- where the SVIDs stay the last publication shows what is kept
pub kept_shown : (p : Publication) (svids : List Svid) → svids ≡ p.svids → shows_parts p p.entries svids p.bundles ≡ true
kept_shown p svids same = subst (λ l. shows_parts p p.entries l p.bundles ≡ true) (sym same) (shows_itself p)

-- ---- SVIDs that went

fewer_go : {X : Type 0} (p : X → Bool) (x : X) (xs : List X) (b : Bool) → (not b || list_any (λ y. not (p y)) xs) ≡ true → (list_any (λ y. not (p y)) xs ≡ true → length (filter p xs) < length xs) → length (if b then x ∷ filter p xs else filter p xs) < length (x ∷ xs)
fewer_go p x xs true some less = let rest : length (filter p xs) < length xs = less some in omega (arith, rest)
fewer_go p x xs false some less = let short : length (filter p xs) ≤ length xs = length_filter p xs in omega (arith, short)

-- where one does not pass there are fewer
fewer : {X : Type 0} (p : X → Bool) (xs : List X) → list_any (λ y. not (p y)) xs ≡ true → length (filter p xs) < length xs
fewer p [] some = grind (arith, some)
fewer p (x ∷ xs) some = fewer_go p x xs (p x) some (fewer p xs)

and_false : (a b : Bool) → b ≡ false → (a && b) ≡ false
and_false true b is = is
and_false false b is = refl

-- lists of other lengths differ
pub other_length : {X : Type 0} (t : X → X → Bool) (xs ys : List X) → length ys < length xs → pointwise t xs ys ≡ false
other_length t [] ys less = grind (arith, less)
other_length t (x ∷ xs) [] less = refl
other_length t (x ∷ xs) (y ∷ ys) less = and_false (t x y) (pointwise t xs ys) (other_length t xs ys (omega (arith, less)))

-- ---- a new SVID

pub put_trusted : (signed : Ask → Signed → Type 0) (strict : Bool) (v : Svid) (svids : List Svid) → AllTrusted signed strict svids → Trusted signed strict v.ask v.signed → AllTrusted signed strict (with_svid v svids)
unfolding with_svid
put_trusted signed strict v svids all one =
    all_append (λ s. Trusted signed strict s.ask s.signed) (filter (is_below v.ask.entry_id) svids) (v ∷ filter (is_above v.ask.entry_id) svids) (still_trusted signed strict (is_below v.ask.entry_id) svids all) (one, still_trusted signed strict (is_above v.ask.entry_id) svids all)

-- ---- Install

refused_go : (b : Bool) (u l : Option Unfit) → (if b then as_unfit u (as_unfit l None) else Some installed.NoSuchAsk) ≡ None → (b ≡ true) × (u ≡ None) × (l ≡ None)
refused_go true None None is = (refl, refl, refl)
refused_go true None (Some l) is = grind (arith, is)
refused_go true (Some u) l is = grind (arith, is)
refused_go false u l is = grind (arith, is)

-- where nothing is refused the cache's answer is Install's
pub cache_installs : (now : ℕ) (v : Svid) (s : Store) → refusal now v.ask v.signed s ≡ None → caches.install now v (cached_of s) ≡ install now v.ask v.signed s
unfolding refusal install caches.install
cache_installs now v s none =
    let parts = refused_go (is_listed (asks_of s.entries) v.ask) (signed_unfit now v.signed) (leaf_judged s.strict v.ask v.signed) none in
    (λ i. if parts.0 i then unless_unfit (parts.1 i) (unless_older s.renew_before now v.signed (kept_for s.svids v.ask)) else installed.NoSuchAsk)
    ∙ (λ i. unwrap_or (sym none i) (unless_older s.renew_before now v.signed (kept_for s.svids v.ask)))

-- what is refused is the answer
pub refusal_installs : (now : ℕ) (a : Ask) (g : Signed) (s : Store) (r : Installed) → refusal now a g s ≡ Some r → install now a g s ≡ r
unfolding install
refusal_installs now a g s r is = λ i. unwrap_or (is i) (unless_older s.renew_before now g (kept_for s.svids a))

refusal_go : (b : Bool) (u l : Option Unfit) (r : Installed) → (if b then as_unfit u (as_unfit l None) else Some installed.NoSuchAsk) ≡ Some r → is_refused r ≡ true
refusal_go true None None r is = grind (arith, is)
refusal_go true None (Some l) r is = subst (λ o. is_refused (unwrap_or o installed.NoSuchAsk) ≡ true) is refl
refusal_go true (Some u) l r is = subst (λ o. is_refused (unwrap_or o installed.NoSuchAsk) ≡ true) is refl
refusal_go false u l r is = subst (λ o. is_refused (unwrap_or o installed.NoSuchAsk) ≡ true) is refl

-- what is refused is not kept
pub refusal_is : (now : ℕ) (a : Ask) (g : Signed) (s : Store) (r : Installed) → refusal now a g s ≡ Some r → is_refused r ≡ true
unfolding refusal
refusal_is now a g s r is = refusal_go (is_listed (asks_of s.entries) a) (signed_unfit now g) (leaf_judged s.strict a g) r is

stays : (i : Installed) (v : Svid) (svids : List Svid) → is_refused i ≡ true → svids_after i v svids ≡ svids
stays installed.Kept v svids away = grind (arith, away)
stays installed.NoSuchAsk v svids away = refl
stays (installed.Unfit u) v svids away = refl
stays (installed.Older x) v svids away = refl
stays installed.Spent v svids away = refl

pub refusal_gives : (signed : Ask → Signed → Type 0) (now : ℕ) (s : Store) (v : Svid) (r : Installed) (c : Cached) → AllTrusted signed s.strict s.svids → refusal now v.ask v.signed s ≡ Some r → c ≡ cached_of s → IsInstalled signed s v r c
refusal_gives signed now s v r c trusted is same =
    let away : is_refused r ≡ true = refusal_is now v.ask v.signed s r is in
    subst (λ k. IsInstalled signed s v r k) (sym same)
    (record { asks = refl; svids = sym (stays r v s.svids away); renew_before = refl; trusted = trusted })

gives_go : (signed : Ask → Signed → Type 0) (s : Store) (v : Svid) → AllTrusted signed s.strict s.svids → Trusted signed s.strict v.ask v.signed → (i : Installed) → IsInstalled signed s v i (caches.after_install i v (cached_of s))
gives_go signed s v trusted one installed.Kept = record { asks = refl; svids = refl; renew_before = refl; trusted = put_trusted signed s.strict v s.svids trusted one }
gives_go signed s v trusted one installed.NoSuchAsk = record { asks = refl; svids = refl; renew_before = refl; trusted = trusted }
gives_go signed s v trusted one (installed.Unfit u) = record { asks = refl; svids = refl; renew_before = refl; trusted = trusted }
gives_go signed s v trusted one (installed.Older x) = record { asks = refl; svids = refl; renew_before = refl; trusted = trusted }
gives_go signed s v trusted one installed.Spent = record { asks = refl; svids = refl; renew_before = refl; trusted = trusted }

pub install_gives : (signed : Ask → Signed → Type 0) (s : Store) (v : Svid) (i : Installed) (c : Cached) → AllTrusted signed s.strict s.svids → Trusted signed s.strict v.ask v.signed → c ≡ caches.after_install i v (cached_of s) → IsInstalled signed s v i c
install_gives signed s v i c trusted one same =
    subst (λ k. IsInstalled signed s v i k) (sym same) (gives_go signed s v trusted one i)

-- ---- a sweep

-- where one has expired others are left
pub ended_differs : (now : ℕ) (c : Cached) → has_ended now c ≡ true → pointwise same_svid c.svids (filter (lasts now) c.svids) ≡ false
unfolding has_ended
ended_differs now c some = other_length same_svid c.svids (filter (lasts now) c.svids) (fewer (lasts now) c.svids some)

-- ---- the parts of a step are those of its definition

pub signed_parts : (now n : ℕ) (s : Store) (v : Svid) (i : Installed) (entries : List Entry) (bundles : List Bundle) (kept : Cached) (in_flight : List Flight) (last : ℕ) → entries ≡ s.entries → bundles ≡ s.bundles → kept.svids ≡ svids_after i v s.svids → kept.renew_before ≡ s.renew_before → i ≡ install now v.ask v.signed s → in_flight ≡ without_flight n s.in_flight → last ≡ s.last_ticket
    → with_parts entries bundles kept in_flight last s ≡ after_signed now n v.ask v.signed s
unfolding after_signed
signed_parts now n s v i entries bundles kept in_flight last es bs left renew is flights number =
    λ j. record { strict = s.strict; entries = es j; bundles = bs j; svids = (left ∙ ap (λ r. svids_after r v s.svids) is) j; renew_before = renew j; in_flight = flights j; last_ticket = number j }

pub synced_parts : (renew : ℕ) (s : Store) (entries given : List Entry) (bundles also : List Bundle) (kept : Cached) (in_flight : List Flight) (last : ℕ) → entries ≡ given → bundles ≡ also → kept ≡ caches.with_asks (asks_of given) renew (cached_of s) → in_flight ≡ s.in_flight → last ≡ s.last_ticket
    → with_parts entries bundles kept in_flight last s ≡ with_entries given also renew s
unfolding with_entries
synced_parts renew s entries given bundles also kept in_flight last es bs left flights number =
    λ j. record { strict = s.strict; entries = es j; bundles = bs j; svids = (left j).svids; renew_before = (left j).renew_before; in_flight = flights j; last_ticket = number j }
