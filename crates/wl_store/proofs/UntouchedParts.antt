-- What no step touched is as it was.
use Rattle.std.specs.Prelude.{◌≡◌, ℕ, Bool, true, false, not, if◌then◌else◌, List, [], ◌∷◌, ◌+◌, ◌++◌, map, filter, find, is_some, option_map, IfSome, IsSomeAnd, Option, Some, None}
use Rattle.std.specs.Str.{bytes_eq}
use Rattle.std.specs.List.{list_any}
use Rattle.std.specs.Cmp.Lexicographic.{pointwise}
use Rattle.std.proofs.Common.{refl, sym, ◌∙◌, ap, subst}
use Rattle.std.proofs.lemmas.Bool.{or_parts}
use Rattle.wl_store.proofs.Common.{Rises, ask_of, entry_key, same_ask, same_svid, Ask, Entry, Svid, Publication, is_listed, Cached, asks_of}
use Rattle.list_laws.specs.Keys.{item_at}
use Rattle.list_laws.proofs.Equality.{bytes_are, same_bytes}
use Rattle.list_laws.proofs.Keys.{found_has}
use Rattle.wl_selector.specs.Selectors.{has_text}
use Rattle.wl_selector.proofs.Members.{front_out, back_out}
use Rattle.wl_entry.specs.Asks.{is_ask_of}
use Rattle.wl_entry.specs.Keys.{svid_key}
use Rattle.wl_entry.proofs.Sames.{entry_is, svids_are}
use Rattle.wl_entry.proofs.FoundAtKeys.{found_passes}
use Rattle.wl_snapshot.specs.Snapshots.{IsPublication, IsAsked}
use Rattle.svid_cache.specs.Caches.{lasts, has_ended, with_svid}
use Rattle.svid_cache.proofs.AskBlocks.{find_put}
use Rattle.svid_cache.proofs.KeyTests.{passes, listed_found}
use Rattle.svid_cache.specs.declared.install.Installed.{Installed}
use Rattle.svid_cache.specs.declared.install.Installed.TheVariants as installed
use Rattle.wl_store.specs.Stores.{Store, svids_after, publish, next_publication, shows}
use Rattle.wl_snapshot.specs.Untouched.{SameBut}
use Rattle.wl_store.specs.Touched.{is_entry, ids_gone, ids_new, ids_ended}
use Rattle.wl_store.proofs.Asks.{asks_rise}
use Rattle.wl_store.proofs.Publications.{ask_at}

-- ---- an item that passes stays where it was

stays_go : {X : Type 0} (key : X → List ℕ) (t : X → Bool) (id : List ℕ) (y : X) (ys : List X) (rest : Option X) (b c : Bool) → bytes_eq (key y) id ≡ b → t y ≡ c
    → ((x : X) → (if b then Some y else rest) ≡ Some x → t x ≡ true) → (b ≡ false → find (λ z. bytes_eq (key z) id) ys ≡ rest) → find (λ z. bytes_eq (key z) id) (if c then y ∷ ys else ys) ≡ (if b then Some y else rest)
stays_go key t id y ys rest true true at is pass same = ap (λ b. if b then Some y else find (λ z. bytes_eq (key z) id) ys) at
stays_go key t id y ys rest true false at is pass same = cc (sym is ∙ pass y refl)
stays_go key t id y ys rest false true at is pass same = ap (λ b. if b then Some y else find (λ z. bytes_eq (key z) id) ys) at ∙ same refl
stays_go key t id y ys rest false false at is pass same = same refl

later_pass : {X : Type 0} (t : X → Bool) (y : X) (rest : Option X) (b : Bool) → ((x : X) → (if b then Some y else rest) ≡ Some x → t x ≡ true) → b ≡ false → (x : X) → rest ≡ Some x → t x ≡ true
later_pass t y rest true pass off x there = cc off
later_pass t y rest false pass off x there = pass x there

-- where the item of the key passes, it is found among those that pass
item_passing : {X : Type 0} (key : X → List ℕ) (t : X → Bool) (id : List ℕ) (xs : List X) → ((x : X) → item_at key xs id ≡ Some x → t x ≡ true) → item_at key (filter t xs) id ≡ item_at key xs id
unfolding item_at
item_passing key t id [] pass = refl
item_passing key t id (y ∷ ys) pass =
    let rest = find (λ z. bytes_eq (key z) id) ys in
    stays_go key t id y (filter t ys) rest (bytes_eq (key y) id) (t y) refl refl pass (λ off. item_passing key t id ys (later_pass t y rest (bytes_eq (key y) id) pass off))

-- ---- entries

key_go : {X : Type 0} (key : X → List ℕ) (id : List ℕ) (y : X) (rest : Option X) (x : X) (b : Bool) → bytes_eq (key y) id ≡ b → (if b then Some y else rest) ≡ Some x → (rest ≡ Some x → key x ≡ id) → key x ≡ id
key_go key id y rest x true at there later = ap key (let same : x ≡ y = cc there in same) ∙ bytes_are (key y) id at
key_go key id y rest x false at there later = later there

key_found : {X : Type 0} (key : X → List ℕ) (id : List ℕ) (xs : List X) (x : X) → item_at key xs id ≡ Some x → key x ≡ id
unfolding item_at
key_found key id [] x there = cc there
key_found key id (y ∷ ys) x there = key_go key id y (find (λ z. bytes_eq (key z) id) ys) x (bytes_eq (key y) id) refl there (key_found key id ys x)

entry_found : (found : Option Entry) (e : Entry) → is_entry found e ≡ true → found ≡ Some e
entry_found None e is = cc is
entry_found (Some f) e is = ap Some (entry_is f e is)

entry_go : (before after : List Entry) (id : List ℕ) (old new : Option Entry) → item_at entry_key before id ≡ old → item_at entry_key after id ≡ new → has_text (ids_gone before after) id ≡ false → has_text (ids_new before after) id ≡ false → new ≡ old
unfolding ids_gone ids_new
entry_go before after id None None was is gone fresh = refl
entry_go before after id (Some e) new was is gone fresh =
    let passed : is_entry (item_at entry_key after e.id) e ≡ true = found_passes entry_key (λ x. is_entry (item_at entry_key after x.id) x) id before e gone was in
    sym is ∙ entry_found (item_at entry_key after id) e (subst (λ k. is_entry (item_at entry_key after k) e ≡ true) (key_found entry_key id before e was) passed)
entry_go before after id None (Some f) was is gone fresh =
    let passed : is_some (item_at entry_key before f.id) ≡ true = found_passes entry_key (λ x. is_some (item_at entry_key before x.id)) id after f fresh is in
    let there : is_some (item_at entry_key before id) ≡ true = subst (λ k. is_some (item_at entry_key before k) ≡ true) (key_found entry_key id after f is) passed in
    cc (sym (ap is_some was) ∙ there)

-- an entry of none of these ids is as it was
pub entries_untouched : (before after : List Entry) (id : List ℕ) → has_text (ids_gone before after ++ ids_new before after) id ≡ false → item_at entry_key after id ≡ item_at entry_key before id
entries_untouched before after id out =
    entry_go before after id (item_at entry_key before id) (item_at entry_key after id) refl refl (front_out (ids_gone before after) (ids_new before after) id out) (back_out (ids_gone before after) (ids_new before after) id out)

-- ---- SVIDs

asked_passes : (a : Ask) (found : Option Entry) → IsSomeAnd found (λ e. is_ask_of e a ≡ true) → passes (λ b. same_ask b a) (option_map ask_of found) ≡ true
asked_passes a None is = absurd is
asked_passes a (Some e) is = is

svid_asked : (p : Publication) (entries : List Entry) (id : List ℕ) (s : Svid) → Rises (map entry_key entries) → item_at entry_key entries id ≡ item_at entry_key p.entries id → IsAsked p.entries s → s.ask.entry_id ≡ id → is_listed (asks_of entries) s.ask ≡ true
svid_asked p entries id s rises same asked of =
    let at : item_at entry_key p.entries s.ask.entry_id ≡ item_at entry_key entries s.ask.entry_id = ap (item_at entry_key p.entries) of ∙ sym same ∙ ap (item_at entry_key entries) (sym of) in
    listed_found (asks_of entries) s.ask (asks_rise entries (asks_of entries) refl rises) ∙ ap (passes (λ b. same_ask b s.ask)) (ask_at entries s.ask.entry_id)
    ∙ asked_passes s.ask (item_at entry_key entries s.ask.entry_id) (subst (λ o. IsSomeAnd o (λ e. is_ask_of e s.ask ≡ true)) at asked)

found_asked : (P : Svid → Type 0) (id : List ℕ) (s : Svid) (o : Option Svid) → o ≡ Some s → IfSome o (λ y. P y × (svid_key y ≡ id)) → P s × (svid_key s ≡ id)
found_asked P id s o there all = subst (λ x. IfSome x (λ y. P y × (svid_key y ≡ id))) there all

-- where its entry is as it was an SVID stays
pub svids_untouched : (p : Publication) (entries : List Entry) (id : List ℕ) → IsPublication p → Rises (map entry_key entries) → item_at entry_key entries id ≡ item_at entry_key p.entries id → item_at svid_key (filter (λ s. is_listed (asks_of entries) s.ask) p.svids) id ≡ item_at svid_key p.svids id
svids_untouched p entries id is rises same =
    item_passing svid_key (λ s. is_listed (asks_of entries) s.ask) id p.svids (λ s there.
    let asked = found_asked (IsAsked p.entries) id s (item_at svid_key p.svids id) there (found_has (IsAsked p.entries) svid_key p.svids id is.asked) in
    svid_asked p entries id s rises same asked.0 asked.1)

-- an SVID that has not expired stays
pub svids_unended : (now : ℕ) (svids : List Svid) (id : List ℕ) → has_text (ids_ended now svids) id ≡ false → item_at svid_key (filter (lasts now) svids) id ≡ item_at svid_key svids id
unfolding ids_ended
svids_unended now svids id out = item_passing svid_key (lasts now) id svids (λ s there. found_passes svid_key (lasts now) id svids s out there)

-- where none has expired there is none of them
none_filtered : (t : Svid → Bool) (svids : List Svid) → list_any t svids ≡ false → filter t svids ≡ []
none_filtered t [] none = refl
none_filtered t (s ∷ ss) none = let parts = or_parts (t s) (list_any t ss) none in rw parts.0 (none_filtered t ss parts.1)

pub none_ended : (now : ℕ) (c : Cached) (svids : List Svid) → c.svids ≡ svids → has_ended now c ≡ false → [] ≡ ids_ended now svids
unfolding has_ended ids_ended
none_ended now c svids are none = sym (ap (map svid_key) (none_filtered (λ s. not (lasts now s)) svids (subst (λ l. list_any (λ s. not (lasts now s)) l ≡ false) are none)))

-- a new SVID changes that of its entry alone
other_out : (id q : List ℕ) → has_text (id ∷ []) q ≡ false → bytes_eq id q ≡ false
unfolding has_text
other_out id q out = (or_parts (bytes_eq id q) false out).0

turned : (a b : List ℕ) → bytes_eq a b ≡ false → (c : Bool) → bytes_eq b a ≡ c → c ≡ false
turned a b off true is = let same : bytes_eq a a ≡ false = subst (λ k. bytes_eq a k ≡ false) (bytes_are b a is) off in cc (sym same ∙ same_bytes a)
turned a b off false is = refl

pub svid_put : (v : Svid) (svids : List Svid) (q : List ℕ) → has_text (v.ask.entry_id ∷ []) q ≡ false → item_at svid_key (with_svid v svids) q ≡ item_at svid_key svids q
unfolding item_at
svid_put v svids q out =
    find_put v svids (λ k. bytes_eq k.ask.entry_id q) q (λ k same. bytes_are k.ask.entry_id q same) (turned v.ask.entry_id q (other_out v.ask.entry_id q out) (bytes_eq q v.ask.entry_id) refl)

-- ---- the next publication

but_go : (ids : List (List ℕ)) (p : Publication) (s : Store) (b : Bool) → ((id : List ℕ) → has_text ids id ≡ false → item_at entry_key s.entries id ≡ item_at entry_key p.entries id) → ((id : List ℕ) → has_text ids id ≡ false → item_at svid_key s.svids id ≡ item_at svid_key p.svids id)
    → SameBut ids p (if b then p else publish (p.number + 1) p.domain s)
but_go ids p s true entries svids = record { entries = λ id out. refl; svids = λ id out. refl }
but_go ids p s false entries svids = record { entries = entries; svids = svids }

pub next_but : (ids : List (List ℕ)) (p : Publication) (s : Store) → ((id : List ℕ) → has_text ids id ≡ false → item_at entry_key s.entries id ≡ item_at entry_key p.entries id) → ((id : List ℕ) → has_text ids id ≡ false → item_at svid_key s.svids id ≡ item_at svid_key p.svids id)
    → SameBut ids p (next_publication p s)
next_but ids p s entries svids = but_go ids p s (shows p s) entries svids

-- nothing is touched where nothing changes
pub same_but : (ids : List (List ℕ)) (p : Publication) → SameBut ids p p
same_but ids p = record { entries = λ id out. refl; svids = λ id out. refl }

-- ---- the steps

entry_at : (entries before : List Entry) → entries ≡ before → (id : List ℕ) → item_at entry_key entries id ≡ item_at entry_key before id
entry_at entries before are id = ap (λ es. item_at entry_key es id) are

pub claim_touches : (now : ℕ) (ids : List (List ℕ)) (p : Publication) (svids : List Svid) (s : Store) → s.entries ≡ p.entries → svids ≡ p.svids → s.svids ≡ filter (lasts now) svids → ids ≡ ids_ended now svids → SameBut ids p (next_publication p s)
claim_touches now ids p svids s entries own left are =
    next_but ids p s (λ id out. entry_at s.entries p.entries entries id)
    (λ id out. ap (λ l. item_at svid_key l id) left ∙ (svids_unended now svids id (subst (λ l. has_text l id ≡ false) are out) ∙ ap (λ l. item_at svid_key l id) own))

kept_at : (ids : List (List ℕ)) (p : Publication) (svids : List Svid) (s : Store) → s.entries ≡ p.entries → svids ≡ p.svids → s.svids ≡ svids → SameBut ids p (next_publication p s)
kept_at ids p svids s entries own same = next_but ids p s (λ id out. entry_at s.entries p.entries entries id) (λ id out. ap (λ l. item_at svid_key l id) (same ∙ own))

pub is_turned : (a b : Bool) → a ≡ not b → b ≡ not a
is_turned true true is = is
is_turned true false is = refl
is_turned false true is = refl
is_turned false false is = is

put_touches : (i : Installed) (v : Svid) (ids : List (List ℕ)) (p : Publication) (svids : List Svid) (s : Store) → s.entries ≡ p.entries → svids ≡ p.svids → s.svids ≡ svids_after i v svids → ids ≡ v.ask.entry_id ∷ [] → SameBut ids p (next_publication p s)
put_touches installed.Kept v ids p svids s entries own left are =
    next_but ids p s (λ id out. entry_at s.entries p.entries entries id)
    (λ id out. ap (λ l. item_at svid_key l id) left ∙ (svid_put v svids id (subst (λ l. has_text l id ≡ false) are out) ∙ ap (λ l. item_at svid_key l id) own))
put_touches installed.NoSuchAsk v ids p svids s entries own left are = kept_at ids p svids s entries own left
put_touches (installed.Unfit u) v ids p svids s entries own left are = kept_at ids p svids s entries own left
put_touches (installed.Older x) v ids p svids s entries own left are = kept_at ids p svids s entries own left
put_touches installed.Spent v ids p svids s entries own left are = kept_at ids p svids s entries own left

-- an SVID touches its entry, or none where the SVIDs stay
pub signed_touches : (i : Installed) (v : Svid) (ids : List (List ℕ)) (p : Publication) (svids : List Svid) (s : Store) (b : Bool) → s.entries ≡ p.entries → svids ≡ p.svids → s.svids ≡ svids_after i v svids → b ≡ pointwise same_svid svids s.svids
    → ids ≡ (if b then [] else v.ask.entry_id ∷ []) → SameBut ids p (next_publication p s)
signed_touches i v ids p svids s true entries own left same are = kept_at ids p svids s entries own (sym (svids_are svids s.svids (sym same)))
signed_touches i v ids p svids s false entries own left same are = put_touches i v ids p svids s entries own left are

pub sync_touches : (ids : List (List ℕ)) (p : Publication) (svids : List Svid) (s : Store) (listed : List Entry) → svids ≡ p.svids → s.entries ≡ listed → s.svids ≡ filter (λ v. is_listed (asks_of listed) v.ask) svids
    → ((id : List ℕ) → has_text ids id ≡ false → item_at entry_key listed id ≡ item_at entry_key p.entries id)
    → ((id : List ℕ) → has_text ids id ≡ false → item_at svid_key (filter (λ v. is_listed (asks_of listed) v.ask) p.svids) id ≡ item_at svid_key p.svids id) → SameBut ids p (next_publication p s)
sync_touches ids p svids s listed own are left entries kept =
    next_but ids p s (λ id out. ap (λ es. item_at entry_key es id) are ∙ entries id out) (λ id out. ap (λ l. item_at svid_key l id) (left ∙ ap (filter (λ v. is_listed (asks_of listed) v.ask)) own) ∙ kept id out)
