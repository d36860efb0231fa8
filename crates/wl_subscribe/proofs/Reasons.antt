-- A view differs exactly where everyone's does, or where the caller is entitled to one of the entries because of which one does.
use Rattle.std.specs.Prelude.{◌≡◌, ℕ, ◌||◌, ◌&&◌, Bool, true, false, not, if◌then◌else◌, List, [], ◌∷◌, ◌++◌, map, filter, Option, Some, None, option_map, option_to_list}
use Rattle.std.specs.Option.{option_eq}
use Rattle.std.specs.Str.{bytes_eq}
use Rattle.std.specs.List.{list_any, flat_map, AllByRecursion}
use Rattle.std.specs.List.Sorted.{IsStrictlySortedBy}
use Rattle.std.specs.Map.{keys_of, lookup}
use Rattle.std.specs.BTreeMap.{is_at}
use Rattle.std.specs.Ordering.{nat_cmp}
use Rattle.std.proofs.Common.{cond, Less, refl, sym, ◌∙◌, ap, subst, arith}
use Rattle.std.proofs.lemmas.Bool.{and_parts}
use Rattle.std.proofs.lemmas.Bool.Decides.{nat_tests}
use Rattle.std.proofs.lemmas.List.Folds.{list_any-append}
use Rattle.wl_subscribe.proofs.Common.{item_at, bytes_are, same_bytes, has_text, is_entitled, entry_key, Entry, Bundle, Publication}
use Rattle.list_laws.proofs.AscendingKeys.{rises_filter}
use Rattle.wl_entry.specs.Keys.{svid_key, bundle_key}
use Rattle.wl_entry.specs.Same.{same_entry, same_svid, same_bundle}
use Rattle.wl_entry.specs.declared.signing.Svid.{Svid}
use Rattle.wl_entry.proofs.Sames.{entry_is, svid_is, bundle_is, entry_self, svid_self, bundle_self}
use Rattle.wl_snapshot.specs.declared.views.Held.{Held}
use Rattle.wl_snapshot.specs.Snapshots.{IsPublication}
use Rattle.wl_snapshot.specs.Same.{same_view_model}
use Rattle.wl_snapshot.specs.Views.{ViewModel, held_of, held_key, is_federated, is_seen, view_model_of, view_in}
use Rattle.wl_snapshot.proofs.Choices.{chosen_by}
use Rattle.wl_snapshot.proofs.ViewModels.{view_model_holds}
use Rattle.wl_snapshot.proofs.Equalities.{view_model_is, view_model_self, options_are}
use Rattle.wl_subscribe.specs.Subscribed.{Subscribed, views_differ, affected_numbers}
use Rattle.wl_snapshot.specs.Untouched.{SameBut}
use Rattle.wl_subscribe.specs.Differing.{is_same_at, entries_differing, is_other_bundle, federates_anew, all_differ, reasons}
use Rattle.wl_subscribe.proofs.ByKey.{kept, item_filter, item_map, key_found, lists_same}

-- ---- tests

option_self : {X : Type 0} (t : X → X → Bool) → ((x : X) → t x x ≡ true) → (a b : Option X) → a ≡ b → option_eq t a b ≡ true
option_self t self None b is = subst (λ c. option_eq t None c ≡ true) is refl
option_self t self (Some x) b is = subst (λ c. option_eq t (Some x) c ≡ true) is (self x)

not_true : (b : Bool) → not b ≡ false → b ≡ true
not_true true is = refl
not_true false is = cc is

either : (a b : Bool) → (a || b) ≡ false → (a ≡ false) × (b ≡ false)
either true b is = cc is
either false b is = (refl, is)

neither : (a b : Bool) → a ≡ false → b ≡ false → (a || b) ≡ false
neither true b off out = cc off
neither false b off out = out

both_true : (a b : Bool) → a ≡ true → b ≡ true → (a && b) ≡ true
both_true true b on is = is
both_true false b on is = cc on

or_left : (a b : Bool) → a ≡ true → (a || b) ≡ true
or_left true b on = refl
or_left false b on = cc on

or_right : (a b : Bool) → b ≡ true → (a || b) ≡ true
or_right true b on = refl
or_right false b on = on

some_is : {X : Type 0} {x y : X} → ◌≡◌ {A = Option X} (Some x) (Some y) → x ≡ y
some_is same = cc same

module _ (p q : Publication) (sel : List (List ℕ)) where
  abbrev pub ent : Entry → Bool
  ent e = is_entitled sel e

  abbrev pub chosen : Publication → List Entry
  chosen r = filter ent r.entries

  abbrev pub helds : Publication → List Held
  helds r = map (held_of r.svids) (chosen r)

  abbrev pub shown : Publication → List Entry → List Bundle
  shown r es = filter (is_seen r.domain es) r.bundles

  abbrev pub entry_in : Publication → List ℕ → Option Entry
  entry_in r id = item_at entry_key r.entries id

  abbrev pub svid_in : Publication → List ℕ → Option Svid
  svid_in r id = item_at svid_key r.svids id

  abbrev pub bundle_in : Publication → List ℕ → Option Bundle
  bundle_in r domain = item_at bundle_key r.bundles domain

  held_keyed : (r : Publication) (e : Entry) → held_key (held_of r.svids e) ≡ entry_key e
  unfolding held_of
  held_keyed r e = refl

  held_entry : (r : Publication) (e : Entry) → (held_of r.svids e).entry ≡ e
  unfolding held_of
  held_entry r e = refl

  held_svid : (r : Publication) (e : Entry) → (held_of r.svids e).svid ≡ svid_in r e.id
  unfolding held_of
  held_svid r e = refl

  held_same : (e : Entry) → svid_in p e.id ≡ svid_in q e.id → held_of p.svids e ≡ held_of q.svids e
  unfolding held_of
  held_same e is = ap (λ (s : Option Svid). record { entry = e; svid = s }) is

  -- what the view has at an id
  held_at : (r : Publication) → IsPublication r → (id : List ℕ) → item_at held_key (helds r) id ≡ option_map (held_of r.svids) (kept ent (entry_in r id))
  held_at r is id = item_map entry_key held_key (held_of r.svids) (held_keyed r) (chosen r) id ∙ ap (option_map (held_of r.svids)) (item_filter entry_key ent r.entries id is.entries)

  entries_of : (r : Publication) (es : List Entry) → map (λ h. h.entry) (map (held_of r.svids) es) ≡ es
  entries_of r [] = refl
  entries_of r (e ∷ es) = λ i. held_entry r e i ∷ entries_of r es i

  -- ---- nothing differs that the caller sees

  options_kept : (id : List ℕ) (o : Option Entry) → (entry_in p id ≡ o) → svid_in p id ≡ svid_in q id → option_map (held_of p.svids) (kept ent o) ≡ option_map (held_of q.svids) (kept ent o)
  options_kept id None there svids = refl
  options_kept id (Some e) there svids = one (ent e)
    where
      is : e.id ≡ id
      is = key_found entry_key p.entries id e there

      one : (b : Bool) → option_map (held_of p.svids) (if b then Some e else None) ≡ option_map (held_of q.svids) (if b then Some e else None)
      one true = ap Some (held_same e (ap (svid_in p) is ∙ svids ∙ sym (ap (svid_in q) is)))
      one false = refl

  same_there : (id : List ℕ) → entry_in q id ≡ entry_in p id → svid_in q id ≡ svid_in p id → option_map (held_of p.svids) (kept ent (entry_in p id)) ≡ option_map (held_of q.svids) (kept ent (entry_in q id))
  same_there id entries svids = options_kept id (entry_in p id) refl (sym svids) ∙ ap (λ o. option_map (held_of q.svids) (kept ent o)) (sym entries)

  none_kept : (o : Option Entry) → list_any ent (option_to_list o) ≡ false → kept ent o ≡ None
  none_kept None out = refl
  none_kept (Some e) out = ap (λ b. if b then Some e else None) (either (ent e) false out).0

  differing_go : (id : List ℕ) (b : Bool) → is_same_at p q id ≡ b → list_any ent (if b then [] else option_to_list (entry_in p id) ++ option_to_list (entry_in q id)) ≡ false
      → option_map (held_of p.svids) (kept ent (entry_in p id)) ≡ option_map (held_of q.svids) (kept ent (entry_in q id))
  unfolding is_same_at
  differing_go id true is out =
      let parts = and_parts (option_eq same_entry (entry_in p id) (entry_in q id)) _ is in
      same_there id (sym (options_are same_entry entry_is (entry_in p id) (entry_in q id) parts.0)) (sym (options_are same_svid svid_is (svid_in p id) (svid_in q id) parts.1))
  differing_go id false is out =
      let parts = either _ _ (sym (list_any-append ent (option_to_list (entry_in p id)) (option_to_list (entry_in q id))) ∙ out) in
      ap (option_map (held_of p.svids)) (none_kept (entry_in p id) parts.0) ∙ sym (ap (option_map (held_of q.svids)) (none_kept (entry_in q id) parts.1))

  among_go : (i id : List ℕ) (ids : List (List ℕ)) (c : Bool) → bytes_eq i id ≡ c → (c || has_text ids id) ≡ true → list_any ent (entries_differing p q i) ≡ false
      → (has_text ids id ≡ true → list_any ent (entries_differing p q id) ≡ false) → list_any ent (entries_differing p q id) ≡ false
  among_go i id ids true at there here later = subst (λ k. list_any ent (entries_differing p q k) ≡ false) (bytes_are i id at) here
  among_go i id ids false at there here later = later there

  among : (ids : List (List ℕ)) (id : List ℕ) → has_text ids id ≡ true → list_any ent (flat_map (entries_differing p q) ids) ≡ false → list_any ent (entries_differing p q id) ≡ false
  unfolding has_text
  among [] id there out = cc there
  among (i ∷ ids) id there out =
      let parts = either _ _ (sym (list_any-append ent (entries_differing p q i) (flat_map (entries_differing p q) ids)) ∙ out) in
      among_go i id ids (bytes_eq i id) refl there parts.0 (λ later. among ids id later parts.1)

  differing_out : (id : List ℕ) → list_any ent (entries_differing p q id) ≡ false → option_map (held_of p.svids) (kept ent (entry_in p id)) ≡ option_map (held_of q.svids) (kept ent (entry_in q id))
  unfolding entries_differing
  differing_out id out = differing_go id (is_same_at p q id) refl out

  helds_agree : (ids : List (List ℕ)) → SameBut ids p q → list_any ent (flat_map (entries_differing p q) ids) ≡ false → (id : List ℕ) (b : Bool) → has_text ids id ≡ b
      → option_map (held_of p.svids) (kept ent (entry_in p id)) ≡ option_map (held_of q.svids) (kept ent (entry_in q id))
  helds_agree ids but out id true at = differing_out id (among ids id at out)
  helds_agree ids but out id false at = same_there id (but.entries id at) (but.svids id at)

  same_helds : IsPublication p → IsPublication q → (ids : List (List ℕ)) → SameBut ids p q → list_any ent (flat_map (entries_differing p q) ids) ≡ false → helds p ≡ helds q
  unfolding view_model_of
  same_helds is_p is_q ids but out =
      lists_same held_key (helds p) (helds q) (view_model_holds p (chosen p) is_p (chosen_by p ent is_p)).held (view_model_holds q (chosen q) is_q (chosen_by q ent is_q)).held
      (λ id. held_at p is_p id ∙ helds_agree ids but out id (has_text ids id) refl ∙ sym (held_at q is_q id))

  same_chosen : helds p ≡ helds q → chosen p ≡ chosen q
  same_chosen same = sym (entries_of p (chosen p)) ∙ ap (map (λ h. h.entry)) same ∙ entries_of q (chosen q)

  -- ---- bundles

  bundles_at : (domain : List ℕ) → is_other_bundle p q domain ≡ false → bundle_in p domain ≡ bundle_in q domain
  unfolding is_other_bundle
  bundles_at domain same = options_are same_bundle bundle_is (bundle_in p domain) (bundle_in q domain) (not_true _ same)

  other_not : (domain : List ℕ) → bundle_in p domain ≡ bundle_in q domain → is_other_bundle p q domain ≡ false
  unfolding is_other_bundle
  other_not domain same = ap not (option_self same_bundle bundle_self (bundle_in p domain) (bundle_in q domain) same)

  federates_out : (domain : List ℕ) (domains : List (List ℕ)) → is_other_bundle p q domain ≡ true → list_any (is_other_bundle p q) domains ≡ false → list_any (λ other. bytes_eq other domain) domains ≡ false
  federates_out domain [] other none = refl
  federates_out domain (d ∷ ds) other none =
      let parts = either (is_other_bundle p q d) (list_any (is_other_bundle p q) ds) none in
      neither (bytes_eq d domain) _ (first (bytes_eq d domain) refl parts.0) (federates_out domain ds other parts.1)
    where
      first : (b : Bool) → bytes_eq d domain ≡ b → is_other_bundle p q d ≡ false → b ≡ false
      first true at off = cc (sym off ∙ ap (is_other_bundle p q) (bytes_are d domain at) ∙ other)
      first false at off = refl

  unfederated_go : (domain : List ℕ) (e : Entry) (es : List Entry) (b c : Bool) → is_other_bundle p q domain ≡ true → ent e ≡ b → list_any (is_other_bundle p q) e.federates_with ≡ c
      → list_any ent (if c then e ∷ filter (federates_anew p q) es else filter (federates_anew p q) es) ≡ false
      → (list_any ent (filter (federates_anew p q) es) ≡ false → is_federated (filter ent es) domain ≡ false)
      → is_federated (if b then e ∷ filter ent es else filter ent es) domain ≡ false
  unfolding is_federated
  unfederated_go domain e es true true other is anew out rest = cc (sym is ∙ (either (ent e) _ out).0)
  unfederated_go domain e es true false other is anew out rest = neither _ _ (federates_out domain e.federates_with other anew) (rest out)
  unfederated_go domain e es false true other is anew out rest = rest (either (ent e) _ out).1
  unfederated_go domain e es false false other is anew out rest = rest out

  -- no entry of the caller federates with a domain whose bundle is another one
  unfederated : (domain : List ℕ) (es : List Entry) → is_other_bundle p q domain ≡ true → list_any ent (filter (federates_anew p q) es) ≡ false → is_federated (filter ent es) domain ≡ false
  unfolding is_federated federates_anew
  unfederated domain [] other out = refl
  unfederated domain (e ∷ es) other out = unfederated_go domain e es (ent e) (list_any (is_other_bundle p q) e.federates_with) other refl refl out (unfederated domain es other)

  unseen_go : (es : List Entry) (domain : List ℕ) (o : Option Bundle) → ((b : Bundle) → o ≡ Some b → b.domain ≡ domain) → is_seen q.domain es (record { domain = domain; x509 = []; jwks = [] }) ≡ false → kept (is_seen q.domain es) o ≡ None
  unfolding is_seen
  unseen_go es domain None key out = refl
  unseen_go es domain (Some b) key out =
      ap (λ c. if c then Some b else None) (ap (λ d. bytes_eq d q.domain || is_federated es d) (key b refl) ∙ out)

  bundle_agree : (domain : List ℕ) (b : Bool) → is_other_bundle p q domain ≡ b → all_differ p q ≡ false → list_any ent (filter (federates_anew p q) q.entries) ≡ false
      → kept (is_seen q.domain (chosen q)) (bundle_in p domain) ≡ kept (is_seen q.domain (chosen q)) (bundle_in q domain)
  unfolding all_differ is_seen
  bundle_agree domain false same own out = ap (kept (is_seen q.domain (chosen q))) (bundles_at domain same)
  bundle_agree domain true other own out =
      let unseen : (bytes_eq domain q.domain || is_federated (chosen q) domain) ≡ false = neither _ _ (foreign (bytes_eq domain q.domain) refl) (unfederated domain q.entries other out) in
      unseen_go (chosen q) domain (bundle_in p domain) (λ b there. key_found bundle_key p.bundles domain b there) unseen
      ∙ sym (unseen_go (chosen q) domain (bundle_in q domain) (λ b there. key_found bundle_key q.bundles domain b there) unseen)
    where
      foreign : (b : Bool) → bytes_eq domain q.domain ≡ b → b ≡ false
      foreign true at = cc (sym (either (not (bytes_eq p.domain q.domain)) _ own).1 ∙ sym (ap (is_other_bundle p q) (bytes_are domain q.domain at)) ∙ other)
      foreign false at = refl

  same_domain : all_differ p q ≡ false → p.domain ≡ q.domain
  unfolding all_differ
  same_domain own = bytes_are p.domain q.domain (not_true _ (either _ _ own).0)

  same_shown : IsPublication p → IsPublication q → all_differ p q ≡ false → list_any ent (filter (federates_anew p q) q.entries) ≡ false → filter (is_seen q.domain (chosen q)) p.bundles ≡ filter (is_seen q.domain (chosen q)) q.bundles
  same_shown is_p is_q own out =
      let t = is_seen q.domain (chosen q) in
      lists_same bundle_key (filter t p.bundles) (filter t q.bundles) (rises_filter bundle_key t p.bundles is_p.bundles) (rises_filter bundle_key t q.bundles is_q.bundles)
      (λ domain. item_filter bundle_key t p.bundles domain is_p.bundles ∙ bundle_agree domain (is_other_bundle p q domain) refl own out ∙ sym (item_filter bundle_key t q.bundles domain is_q.bundles))

  same_view : IsPublication p → IsPublication q → (ids : List (List ℕ)) → SameBut ids p q → all_differ p q ≡ false → list_any ent (reasons ids p q) ≡ false → view_in p sel ≡ view_in q sel
  unfolding view_in view_model_of reasons
  same_view is_p is_q ids but own out =
      let parts = either _ _ (sym (list_any-append ent (flat_map (entries_differing p q) ids) (filter (federates_anew p q) q.entries)) ∙ out) in
      let helds_are = same_helds is_p is_q ids but parts.0 in
      let shown_are : shown p (chosen p) ≡ shown q (chosen q) =
      ap (λ (d : List ℕ). filter (is_seen d (chosen p)) p.bundles) (same_domain own) ∙ ap (λ (es : List Entry). filter (is_seen q.domain es) p.bundles) (same_chosen helds_are) ∙ same_shown is_p is_q own parts.1 in
      λ i. record { domain = same_domain own i; held = helds_are i; bundles = shown_are i }

  -- ---- what differs is seen

  seen_kept : (es : List Entry) (domain : List ℕ) (o : Option Bundle) → ((b : Bundle) → o ≡ Some b → b.domain ≡ domain) → (bytes_eq domain q.domain || is_federated es domain) ≡ true → kept (is_seen q.domain es) o ≡ o
  unfolding is_seen
  seen_kept es domain None key seen = refl
  seen_kept es domain (Some b) key seen = ap (λ c. if c then Some b else None) (ap (λ d. bytes_eq d q.domain || is_federated es d) (key b refl) ∙ seen)

  bundles_seen : IsPublication p → IsPublication q → (es : List Entry) → filter (is_seen q.domain es) p.bundles ≡ filter (is_seen q.domain es) q.bundles → (domain : List ℕ)
      → (bytes_eq domain q.domain || is_federated es domain) ≡ true → is_other_bundle p q domain ≡ false
  bundles_seen is_p is_q es same domain seen =
      let t = is_seen q.domain es in
      other_not domain
      (sym (seen_kept es domain (bundle_in p domain) (λ b there. key_found bundle_key p.bundles domain b there) seen)
      ∙ sym (item_filter bundle_key t p.bundles domain is_p.bundles) ∙ ap (λ bs. item_at bundle_key bs domain) same ∙ item_filter bundle_key t q.bundles domain is_q.bundles
      ∙ seen_kept es domain (bundle_in q domain) (λ b there. key_found bundle_key q.bundles domain b there) seen)

  held_differs : (a b : Option Entry) (id : List ℕ) → entry_in p id ≡ a → entry_in q id ≡ b → is_same_at p q id ≡ false
      → option_map (held_of p.svids) (kept ent a) ≡ option_map (held_of q.svids) (kept ent b) → list_any ent (option_to_list a ++ option_to_list b) ≡ false
  unfolding is_same_at
  held_differs None None id at bt differ same = refl
  held_differs None (Some e) id at bt differ same = neither _ _ (go (ent e) refl same) refl
    where
      go : (c : Bool) → ent e ≡ c → option_map (held_of p.svids) None ≡ option_map (held_of q.svids) (if c then Some e else None) → c ≡ false
      go true is same = cc same
      go false is same = refl
  held_differs (Some e) None id at bt differ same = neither _ _ (go (ent e) refl same) refl
    where
      go : (c : Bool) → ent e ≡ c → option_map (held_of p.svids) (if c then Some e else None) ≡ option_map (held_of q.svids) None → c ≡ false
      go true is same = cc same
      go false is same = refl
  held_differs (Some e) (Some f) id at bt differ same = go (ent e) (ent f) refl refl same
    where
      both : held_of p.svids e ≡ held_of q.svids f → is_same_at p q id ≡ true
      both is =
          let entries : e ≡ f = sym (held_entry p e) ∙ ap (λ h. h.entry) is ∙ held_entry q f in
          let id_e = key_found entry_key p.entries id e at in
          let id_f = key_found entry_key q.entries id f bt in
          let svids : svid_in p id ≡ svid_in q id = ap (svid_in p) (sym id_e) ∙ sym (held_svid p e) ∙ ap (λ h. h.svid) is ∙ held_svid q f ∙ ap (svid_in q) id_f in
          both_true _ _ (option_self same_entry entry_self (entry_in p id) (entry_in q id) (at ∙ ap Some entries ∙ sym bt)) (option_self same_svid svid_self (svid_in p id) (svid_in q id) svids)

      go : (c d : Bool) → ent e ≡ c → ent f ≡ d → option_map (held_of p.svids) (if c then Some e else None) ≡ option_map (held_of q.svids) (if d then Some f else None)
          → list_any ent (e ∷ f ∷ []) ≡ false
      go true true is on same = cc (sym differ ∙ both (some_is same))
      go true false is on same = cc same
      go false true is on same = cc same
      go false false is on same = neither _ _ is (neither _ _ on refl)

  differing_none : IsPublication p → IsPublication q → helds p ≡ helds q → (id : List ℕ) (b : Bool) → is_same_at p q id ≡ b
      → list_any ent (if b then [] else option_to_list (entry_in p id) ++ option_to_list (entry_in q id)) ≡ false
  differing_none is_p is_q same id true is = refl
  differing_none is_p is_q same id false is =
      held_differs (entry_in p id) (entry_in q id) id refl refl is (sym (held_at p is_p id) ∙ ap (λ hs. item_at held_key hs id) same ∙ held_at q is_q id)

  none_differing : IsPublication p → IsPublication q → helds p ≡ helds q → (ids : List (List ℕ)) → list_any ent (flat_map (entries_differing p q) ids) ≡ false
  unfolding entries_differing
  none_differing is_p is_q same [] = refl
  none_differing is_p is_q same (id ∷ ids) =
      list_any-append ent (if is_same_at p q id then [] else option_to_list (entry_in p id) ++ option_to_list (entry_in q id)) (flat_map (entries_differing p q) ids)
      ∙ neither _ _ (differing_none is_p is_q same id (is_same_at p q id) refl) (none_differing is_p is_q same ids)

  none_anew : (domains : List (List ℕ)) → ((domain : List ℕ) → list_any (λ other. bytes_eq other domain) domains ≡ true → is_other_bundle p q domain ≡ false) → list_any (is_other_bundle p q) domains ≡ false
  none_anew [] each = refl
  none_anew (d ∷ ds) each =
      neither _ _ (each d (ap (λ b. b || list_any (λ other. bytes_eq other d) ds) (same_bytes d)))
      (none_anew ds (λ domain there. each domain (or_right (bytes_eq d domain) _ there)))

  none_federated_go : (e : Entry) (es : List Entry) (b c : Bool) → ent e ≡ b → list_any (is_other_bundle p q) e.federates_with ≡ c
      → ((domain : List ℕ) → is_federated (if b then e ∷ filter ent es else filter ent es) domain ≡ true → is_other_bundle p q domain ≡ false)
      → (((domain : List ℕ) → is_federated (filter ent es) domain ≡ true → is_other_bundle p q domain ≡ false) → list_any ent (filter (federates_anew p q) es) ≡ false)
      → list_any ent (if c then e ∷ filter (federates_anew p q) es else filter (federates_anew p q) es) ≡ false
  unfolding is_federated
  none_federated_go e es true true is anew each rest = cc (sym (none_anew e.federates_with (λ domain there. each domain (or_left (list_any (λ other. bytes_eq other domain) e.federates_with) _ there))) ∙ anew)
  none_federated_go e es true false is anew each rest = rest (λ domain there. each domain (or_right (list_any (λ other. bytes_eq other domain) e.federates_with) _ there))
  none_federated_go e es false true is anew each rest = neither _ _ is (rest each)
  none_federated_go e es false false is anew each rest = rest each

  none_federated : (es : List Entry) → ((domain : List ℕ) → is_federated (filter ent es) domain ≡ true → is_other_bundle p q domain ≡ false) → list_any ent (filter (federates_anew p q) es) ≡ false
  unfolding is_federated federates_anew
  none_federated [] each = refl
  none_federated (e ∷ es) each = none_federated_go e es (ent e) (list_any (is_other_bundle p q) e.federates_with) refl refl each (none_federated es)

  view_seen : IsPublication p → IsPublication q → (ids : List (List ℕ)) → view_in p sel ≡ view_in q sel → (all_differ p q ≡ false) × (list_any ent (reasons ids p q) ≡ false)
  unfolding view_in view_model_of reasons all_differ
  view_seen is_p is_q ids same =
      let domains : p.domain ≡ q.domain = ap (λ (v : ViewModel). v.domain) same in
      let helds_are : helds p ≡ helds q = ap (λ (v : ViewModel). v.held) same in
      let shown_are : shown p (chosen p) ≡ shown q (chosen q) = ap (λ (v : ViewModel). v.bundles) same in
      let at_q : filter (is_seen q.domain (chosen q)) p.bundles ≡ filter (is_seen q.domain (chosen q)) q.bundles =
      sym (ap (λ (d : List ℕ). filter (is_seen d (chosen p)) p.bundles) domains ∙ ap (λ (es : List Entry). filter (is_seen q.domain es) p.bundles) (same_chosen helds_are)) ∙ shown_are in
      let each = bundles_seen is_p is_q (chosen q) at_q in (
        neither _ _ (ap not (subst (λ d. bytes_eq p.domain d ≡ true) domains (same_bytes p.domain))) (each q.domain (or_left (bytes_eq q.domain q.domain) _ (same_bytes q.domain))),
        list_any-append ent (flat_map (entries_differing p q) ids) (filter (federates_anew p q) q.entries)
            ∙ neither _ _ (none_differing is_p is_q helds_are ids) (none_federated q.entries (λ domain there. each domain (or_right (bytes_eq domain q.domain) _ there))),
      )

  -- ---- both ways

  differ_by : IsPublication p → IsPublication q → (ids : List (List ℕ)) → SameBut ids p q → (b c : Bool) → same_view_model (view_in p sel) (view_in q sel) ≡ b → (all_differ p q || list_any ent (reasons ids p q)) ≡ c → not b ≡ c
  differ_by is_p is_q ids but true true same hit =
      let none = view_seen is_p is_q ids (view_model_is (view_in p sel) (view_in q sel) same) in cc (sym (neither _ _ none.0 none.1) ∙ hit)
  differ_by is_p is_q ids but true false same hit = refl
  differ_by is_p is_q ids but false true same hit = refl
  differ_by is_p is_q ids but false false same hit =
      let parts = either (all_differ p q) (list_any ent (reasons ids p q)) hit in
      let on : same_view_model (view_in p sel) (view_in q sel) ≡ true = subst (λ v. same_view_model (view_in p sel) v ≡ true) (same_view is_p is_q ids but parts.0 parts.1) (view_model_self (view_in p sel)) in
      cc (sym same ∙ on)

  pub differ_for : IsPublication p → IsPublication q → (ids : List (List ℕ)) → SameBut ids p q → views_differ p q sel ≡ (all_differ p q || list_any (is_entitled sel) (reasons ids p q))
  unfolding views_differ
  differ_for is_p is_q ids but = differ_by is_p is_q ids but (same_view_model (view_in p sel) (view_in q sel)) (all_differ p q || list_any ent (reasons ids p q)) refl refl

-- ---- all subscribers

both_by : {K V : Type 0} (hit : K → Bool) (differ : V → Bool) (k : K) (v : V) (ks : List K) (ms : List (K × V)) (b c : Bool) → b ≡ c → ks ≡ map (λ m. m.0) ms → (if b then k ∷ ks else ks) ≡ map (λ m. m.0) (if c then (k, v) ∷ ms else ms)
both_by hit differ k v ks ms true true same rest = ap (λ l. k ∷ l) rest
both_by hit differ k v ks ms true false same rest = cc same
both_by hit differ k v ks ms false true same rest = cc same
both_by hit differ k v ks ms false false same rest = rest

-- the numbers of those that pass a test, where it is a test of the numbers
pub numbers_of : {K V : Type 0} (hit : K → Bool) (differ : V → Bool) (ms : List (K × V)) → AllByRecursion (λ m. hit m.0 ≡ differ m.1) ms → filter hit (keys_of ms) ≡ map (λ m. m.0) (filter (λ m. differ m.1) ms)
numbers_of hit differ [] all = refl
numbers_of hit differ (m ∷ ms) all = both_by hit differ m.0 m.1 (filter hit (keys_of ms)) (filter (λ n. differ n.1) ms) (hit m.0) (differ m.1) all.0 (numbers_of hit differ ms all.1)

later_found : {V : Type 0} (k : ℕ) (v : V) (es ms : List (ℕ × V)) → AllByRecursion (λ y. nat_cmp k y ≡ Less) (keys_of ms) → AllByRecursion (λ m. lookup (is_at (nat_cmp m.0)) es ≡ Some m.1) ms → AllByRecursion (λ m. lookup (is_at (nat_cmp m.0)) ((k, v) ∷ es) ≡ Some m.1) ms
later_found k v es [] over all = tt
later_found k v es (m ∷ ms) over all = (ap (λ b. cond b (Some v) (lookup (is_at (nat_cmp m.0)) es)) (above m.0 k over.0) ∙ all.0, later_found k v es ms over.1 all.1)
  where
    above : (a b : ℕ) → nat_cmp b a ≡ Less → is_at (nat_cmp a) b ≡ false
    above a b less = grind (arith, nat_tests, less)

-- each is found by its number
pub members_found : {V : Type 0} (ms : List (ℕ × V)) → IsStrictlySortedBy nat_cmp (keys_of ms) → AllByRecursion (λ m. lookup (is_at (nat_cmp m.0)) ms ≡ Some m.1) ms
unfolding IsStrictlySortedBy
members_found [] rising = tt
members_found (m ∷ ms) rising = (ap (λ b. cond b (Some m.1) (lookup (is_at (nat_cmp m.0)) ms)) (itself m.0), later_found m.0 m.1 ms ms rising.0 (members_found ms rising.1))
  where
    itself : (a : ℕ) → is_at (nat_cmp a) a ≡ true
    itself a = grind (arith, nat_tests)

pub each_by : {V : Type 0} (hit : ℕ → Bool) (differ : V → Bool) (es ms : List (ℕ × V)) → ((n : ℕ) (v : V) → lookup (is_at (nat_cmp n)) es ≡ Some v → hit n ≡ differ v) → AllByRecursion (λ m. lookup (is_at (nat_cmp m.0)) es ≡ Some m.1) ms → AllByRecursion (λ m. hit m.0 ≡ differ m.1) ms
each_by hit differ es [] same all = tt
each_by hit differ es (m ∷ ms) same all = (same m.0 m.1 all.0, each_by hit differ es ms same all.1)

-- where a number is hit exactly where its subscriber's views differ, those that are hit are those who are affected
pub affected_are : (old new : Publication) (s : Subscribed) (hit : ℕ → Bool) → IsStrictlySortedBy nat_cmp (keys_of s.members) → ((n : ℕ) (sel : List (List ℕ)) → lookup (is_at (nat_cmp n)) s.members ≡ Some sel → hit n ≡ views_differ old new sel) → filter hit (keys_of s.members) ≡ affected_numbers old new s
unfolding affected_numbers
affected_are old new s hit rising same =
    numbers_of hit (views_differ old new) s.members (each_by hit (views_differ old new) s.members s.members same (members_found s.members rising))
