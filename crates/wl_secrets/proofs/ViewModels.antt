-- What stores that are alike publish shows a caller of no foreign entry the same.
use Rattle.std.proofs.Common.{◌≡◌, ℕ, ◌+◌, Bool, true, false, cond, if◌then◌else◌, List, [], ◌∷◌, map, filter, Option, Some, refl, sym, ap, ◌∙◌}
use Rattle.std.specs.Prelude.{find}
use Rattle.std.specs.List.{AllByRecursion}
use Rattle.std.specs.Str.{bytes_eq}
use Rattle.std.specs.Cmp.Lexicographic.{pointwise}
use Rattle.std.proofs.lemmas.Bool.{and_parts}
use Rattle.list_laws.proofs.Equality.{bytes_are}
use Rattle.list_laws.specs.Keys.{item_at}
use Rattle.wl_secrets.proofs.Common.{is_entitled, Entry, Publication, view_in, Store, Stored}
use Rattle.wl_entry.specs.Keys.{svid_key}
use Rattle.wl_entry.specs.Same.{same_entry, same_svid, same_bundle}
use Rattle.wl_entry.specs.declared.signing.Svid.{Svid}
use Rattle.wl_entry.proofs.Sames.{entries_are, svids_are, bundles_are}
use Rattle.wl_snapshot.specs.Views.{held_of, is_seen, view_model_of}
use Rattle.wl_store.specs.Stores.{shows, publish, without_ticket}
use Rattle.wl_store.specs.Steps.{stored_after, after_failed}
use Rattle.wl_secrets.proofs.Lists.{all_pass}
use Rattle.wl_secrets.proofs.HiddenStores.{blind, shade, blind_ours}

-- ---- the last publication is what is kept

pub record IsShown (m : Stored) : Type 0 where
  pub entries : m.published.entries ≡ m.store.entries
  pub svids : m.published.svids ≡ m.store.svids
  pub bundles : m.published.bundles ≡ m.store.bundles

shown_go : (p : Publication) (s : Store) (b : Bool) → shows p s ≡ b → IsShown (record { store = s; published = if b then p else publish (p.number + 1) p.domain s })
unfolding shows
shown_go p s false is = record { entries = refl; svids = refl; bundles = refl }
shown_go p s true is =
    let first = and_parts (pointwise same_entry p.entries s.entries) _ is in
    let parts = and_parts (pointwise same_svid p.svids s.svids) (pointwise same_bundle p.bundles s.bundles) first.1 in
    record { entries = entries_are p.entries s.entries first.0; svids = svids_are p.svids s.svids parts.0; bundles = bundles_are p.bundles s.bundles parts.1 }

pub shown_after : (s : Store) (m : Stored) → IsShown (stored_after s m)
shown_after s m = shown_go m.published s (shows m.published s) refl

pub shown_failed : (n : ℕ) (m : Stored) → IsShown m → IsShown (after_failed n m)
unfolding without_ticket
shown_failed n m shown = record { entries = shown.entries; svids = shown.svids; bundles = shown.bundles }

domain_go : (p : Publication) (s : Store) (b : Bool) → (if b then p else publish (p.number + 1) p.domain s).domain ≡ p.domain
domain_go p s true = refl
domain_go p s false = refl

pub domain_after : (s : Store) (m : Stored) → (stored_after s m).published.domain ≡ m.published.domain
domain_after s m = domain_go m.published s (shows m.published s)

-- ---- an SVID that isn't foreign is found as it was

abbrev is_of : List ℕ → Svid → Bool
is_of id v = bytes_eq v.ask.entry_id id

svid_go : (ours : List ℕ → Bool) (id : List ℕ) (v : Svid) (x y : Option Svid) (b : Bool) → ours id ≡ true → is_of id v ≡ b → x ≡ y → cond b (Some (blind ours v)) x ≡ cond b (Some v) y
svid_go ours id v x y true mine is rest = ap Some (blind_ours ours v (ap ours (bytes_are v.ask.entry_id id is) ∙ mine))
svid_go ours id v x y false mine is rest = rest

svid_shade : (ours : List ℕ → Bool) (id : List ℕ) (svids : List Svid) → ours id ≡ true → find (is_of id) (map (blind ours) svids) ≡ find (is_of id) svids
svid_shade ours id [] mine = refl
svid_shade ours id (v ∷ svids) mine = svid_go ours id v (find (is_of id) (map (blind ours) svids)) (find (is_of id) svids) (is_of id v) mine refl (svid_shade ours id svids mine)

svid_same : (ours : List ℕ → Bool) (id : List ℕ) (xs ys : List Svid) → ours id ≡ true → map (blind ours) xs ≡ map (blind ours) ys → item_at svid_key xs id ≡ item_at svid_key ys id
unfolding item_at
svid_same ours id xs ys mine alike = sym (svid_shade ours id xs mine) ∙ (ap (find (is_of id)) alike ∙ svid_shade ours id ys mine)

held_same : (ours : List ℕ → Bool) (e : Entry) (xs ys : List Svid) → ours e.id ≡ true → map (blind ours) xs ≡ map (blind ours) ys → held_of xs e ≡ held_of ys e
unfolding held_of
held_same ours e xs ys mine alike = ap (λ (o : Option Svid). record { entry = e; svid = o }) (svid_same ours e.id xs ys mine alike)

all_held_same : (ours : List ℕ → Bool) (entries : List Entry) (xs ys : List Svid) → AllByRecursion (λ e. ours e.id ≡ true) entries → map (blind ours) xs ≡ map (blind ours) ys → map (held_of xs) entries ≡ map (held_of ys) entries
all_held_same ours [] xs ys all alike = refl
all_held_same ours (e ∷ es) xs ys all alike = λ i. held_same ours e xs ys all.0 alike i ∷ all_held_same ours es xs ys all.1 alike i

-- ---- views

-- stores are alike, with equal domains
pub record AreAlike (ours : List ℕ → Bool) (m n : Stored) : Type 0 where
  pub store : shade ours m.store ≡ shade ours n.store
  pub domain : m.published.domain ≡ n.published.domain
  pub first : IsShown m
  pub second : IsShown n

abbrev pub published_alike : (ours : List ℕ → Bool) (m n : Stored) → AreAlike ours m n → m.published.entries ≡ n.published.entries
published_alike ours m n alike = alike.first.entries ∙ (ap (λ (s : Store). s.entries) alike.store ∙ sym alike.second.entries)

pub view_same : (ours : List ℕ → Bool) (m n : Stored) (sel : List (List ℕ)) → AreAlike ours m n → AllByRecursion (λ e. is_entitled sel e ≡ true → ours e.id ≡ true) m.published.entries
    → view_in m.published sel ≡ view_in n.published sel
unfolding view_in view_model_of
view_same ours m n sel alike covers =
    let entries = published_alike ours m n alike in
    let bundles : m.published.bundles ≡ n.published.bundles = alike.first.bundles ∙ (ap (λ (s : Store). s.bundles) alike.store ∙ sym alike.second.bundles) in
    let svids : map (blind ours) m.published.svids ≡ map (blind ours) n.published.svids =
    ap (map (blind ours)) alike.first.svids ∙ (ap (λ (s : Store). s.svids) alike.store ∙ sym (ap (map (blind ours)) alike.second.svids)) in
    let held : map (held_of m.published.svids) (filter (is_entitled sel) m.published.entries) ≡ map (held_of n.published.svids) (filter (is_entitled sel) n.published.entries) =
    all_held_same ours (filter (is_entitled sel) m.published.entries) m.published.svids n.published.svids (all_pass (is_entitled sel) (λ e. ours e.id ≡ true) m.published.entries covers) svids
    ∙ ap (λ (es : List Entry). map (held_of n.published.svids) (filter (is_entitled sel) es)) entries in
    λ i. record { domain = alike.domain i; held = held i; bundles = filter (is_seen (alike.domain i) (filter (is_entitled sel) (entries i))) (bundles i) }
