-- The first fault of a document is at a member that has a name.
use Rattle.std.specs.Prelude.{◌≡◌, ℕ, ◌==◌, ◌||◌, Bool, nat_lt, List, [], length, codes, Option, Some, None, Result, Ok, Err}
use Rattle.std.specs.Str.{bytes_eq}
use Rattle.std.proofs.Common.{refl, subst}
use Rattle.fault_laws.proofs.Common.{Data, get, IdFault, Place, DocFault, or_fault, required, object_at, text_at, number_at, array_at, AreBounded, fault_numbers, IsNamed, document_says}
use Rattle.spiffe_id.specs.Faults.{domain_fault, id_fault, id_domain}
use Rattle.wl_selector.specs.declared.faults.SelectorFault.{SelectorFault}
use Rattle.wl_selector.specs.Selectors.{selector_fault}
use Rattle.wl_entry.specs.declared.limits.TheConstants.{MAX_PART_LEN, MAX_SELECTORS, MAX_FEDERATED, MAX_DNS_NAMES, MAX_HINT_LEN, MAX_ENTRIES, MAX_BUNDLES}
use Rattle.wl_document.specs.declared.limits.TheConstants.{DOCUMENT_LIMIT, MAX_SVIDS, MAX_DNS_NAME_LEN, MAX_TTL, DEFAULT_TTL}
use Rattle.wl_document.specs.declared.fault.DocFault.TheVariants as fault
use Rattle.wl_document.specs.Places.{at_top, at_bundle, at_entry, at_svid, item_at}
use Rattle.json_members.specs.Arrays.{at_end}
use Rattle.json_members.specs.Texts.{value_of}
use Rattle.wl_document.specs.Checks.{decoded, no_id_fault, no_selector_fault}
use Rattle.wl_document.specs.Arrays.{was_given}
use Rattle.wl_document.specs.Members.{text_of, number_of, number_or_zero, list_at, list_of, list_or_empty, domain_at, domain_of, id_of, is_name, name_of, base64_at, base64_of, at_most, text_within, text_or_empty}
use Rattle.wl_document.specs.Bundles.{x509_at, x509_of, bundle_name_of, bundle_domain_of, bundle_of, read_bundles, bundles_of}
use Rattle.wl_document.specs.Entries.{selector_of, selector_list_of, selectors_of, federated_of, federates_of, federated_list_of, federates_with_of, dns_name_of, dns_names_of, dns_names_in, ttl_at, ttl_of, hint_of, extras_of, entry_name_of, entry_of, read_entries, entries_of}
use Rattle.wl_document.specs.Svids.{svid_name_of, svid_of, doc_svid_key, read_svids, svids_of}
use Rattle.wl_document.specs.Documents.{version_of, is_own, top_domain_of, own_domain_of, lists_of, renew_before_of, has_x509, own_bundles_of, top_of, state_of, document_state}
use Rattle.wl_document.specs.States.{State}
use Rattle.wl_entry.specs.Keys.{bundle_key, entry_key}
use Rattle.sorted_lists.specs.Keys as keys
use Rattle.fault_lines.specs.Names.{document_place, document_member, bundle_member, entry_member, svid_member}
use Rattle.fault_laws.proofs.Steps.{FailsBy, next, either, needed, maybe, each, member, object, text, number, array}
use Rattle.fault_laws.proofs.NoQuestionMarks.{item_named}
use Rattle.fault_laws.proofs.NamedFaults.{InDocument, DocumentFault, document_named}

abbrev Fails : {A : Type 0} → Result A DocFault → Type 0
Fails r = FailsBy DocumentFault r

-- ---- a text at a place

id_checked : (p : Place) (text : List ℕ) (o : Option IdFault) → InDocument p → Fails (no_id_fault p text o)
id_checked p text None sited = tt
id_checked p text (Some e) sited = sited

selector_checked : (p : Place) (text : List ℕ) (o : Option SelectorFault) → InDocument p → Fails (no_selector_fault p text o)
selector_checked p text None sited = tt
selector_checked p text (Some e) sited = sited

bytes_checked : (p : Place) (r : Result (List ℕ) _) → InDocument p → Fails (decoded p r)
bytes_checked p (Ok bytes) sited = tt
bytes_checked p (Err e) sited = sited

-- ---- a member at a place

module _ (p : Place) (sited : InDocument p) where
  text_member : (name : List ℕ) (d : Data) → Fails (text_of p name d)
  unfolding text_of
  text_member name d = next DocumentFault (required (fault.Missing p) name d) (text_at (fault.Kind p)) (member DocumentFault (fault.Missing p) sited name d) (text DocumentFault (fault.Kind p) sited)

  number_member : (name : List ℕ) (d : Data) → Fails (number_of p name d)
  unfolding number_of
  number_member name d = next DocumentFault (required (fault.Missing p) name d) (number_at (fault.Kind p)) (member DocumentFault (fault.Missing p) sited name d) (number DocumentFault (fault.Kind p) sited)

  list : (n : ℕ) (d : Data) → Fails (list_at n p d)
  unfolding list_at
  list n d = next DocumentFault (array_at (fault.Kind p) d) _ (array DocumentFault (fault.Kind p) sited d) (λ items. either DocumentFault (nat_lt n (length items)) (Err (fault.TooMany p (length items))) (Ok items) sited tt)

  list_member : (n : ℕ) (name : List ℕ) (d : Data) → Fails (list_of n p name d)
  unfolding list_of
  list_member n name d = next DocumentFault (required (fault.Missing p) name d) (list_at n p) (member DocumentFault (fault.Missing p) sited name d) (list n)

  number_maybe : (name : List ℕ) (d : Data) → Fails (number_or_zero p name d)
  unfolding number_or_zero
  number_maybe name d = maybe DocumentFault (number_at (fault.Kind p)) 0 (get name d) (number DocumentFault (fault.Kind p) sited)

  list_maybe : (n : ℕ) (name : List ℕ) (d : Data) → Fails (list_or_empty n p name d)
  unfolding list_or_empty
  list_maybe n name d = maybe DocumentFault (list_at n p) [] (get name d) (list n)

  domain : (d : Data) → Fails (domain_at p d)
  unfolding domain_at
  domain d = next DocumentFault (text_at (fault.Kind p) d) (λ t. no_id_fault p t (domain_fault 0 t)) (text DocumentFault (fault.Kind p) sited d) (λ t. id_checked p t (domain_fault 0 t) sited)

  domain_member : (name : List ℕ) (d : Data) → Fails (domain_of p name d)
  unfolding domain_of
  domain_member name d = next DocumentFault (required (fault.Missing p) name d) (domain_at p) (member DocumentFault (fault.Missing p) sited name d) domain

  id_member : (own name : List ℕ) (d : Data) → Fails (id_of own p name d)
  unfolding id_of
  id_member own name d = next DocumentFault (text_of p name d) _ (text_member name d) (λ t. next DocumentFault (no_id_fault p t (id_fault t)) _ (id_checked p t (id_fault t) sited)
      (λ found. either DocumentFault (bytes_eq (id_domain found) own) (Ok found) (Err (fault.ForeignDomain p)) tt sited))

  name_member : (name : List ℕ) (d : Data) → Fails (name_of p name d)
  unfolding name_of
  name_member name d = next DocumentFault (text_of p name d) _ (text_member name d) (λ t. either DocumentFault (is_name t) (Ok t) (Err (fault.Kind p)) tt sited)

  base64 : (d : Data) → Fails (base64_at p d)
  unfolding base64_at
  base64 d = next DocumentFault (text_at (fault.Kind p) d) _ (text DocumentFault (fault.Kind p) sited d) (λ t. bytes_checked p _ sited)

  base64_member : (name : List ℕ) (d : Data) → Fails (base64_of p name d)
  unfolding base64_of
  base64_member name d = next DocumentFault (required (fault.Missing p) name d) (base64_at p) (member DocumentFault (fault.Missing p) sited name d) base64

  few : (n : ℕ) (bytes : List ℕ) → Fails (at_most n p bytes)
  unfolding at_most
  few n bytes = either DocumentFault (nat_lt n (length bytes)) (Err (fault.TooLong p (length bytes))) (Ok bytes) sited tt

  few_text : (n : ℕ) (d : Data) → Fails (text_within n p d)
  unfolding text_within
  few_text n d = next DocumentFault (text_at (fault.Kind p) d) (at_most n p) (text DocumentFault (fault.Kind p) sited d) (few n)

  text_maybe : (n : ℕ) (name : List ℕ) (d : Data) → Fails (text_or_empty n p name d)
  unfolding text_or_empty
  text_maybe n name d = maybe DocumentFault (text_within n p) [] (get name d) (few_text n)

  -- ---- of an entry

  selector : (k : ℕ) (d : Data) → Fails (selector_of p k d)
  unfolding selector_of text_at document_place
  selector k d = next DocumentFault (text_at (fault.Kind (item_at p k)) d) _ (text DocumentFault (fault.Kind (item_at p k)) sited d) (λ t. selector_checked (item_at p k) t (selector_fault t) sited)

  selectors : (d : Data) → Fails (selectors_of p d)
  unfolding selectors_of selector_list_of
  selectors d = next DocumentFault (list_of MAX_SELECTORS p (codes "selectors") d) _ (list_member MAX_SELECTORS (codes "selectors") d)
      (λ items. either DocumentFault (length items == 0) _ _ sited (next DocumentFault (selector_list_of p items) _ (each DocumentFault (λ k before d. selector_of p k d) at_end 0 [] items (λ k before d. selector k d)) (λ texts. tt)))

  federated : (ds : List Data) → Fails (federates_of p ds)
  unfolding federates_of federated_of domain_at text_at document_place
  federated ds = each DocumentFault (λ k before d. federated_of p k d) at_end 0 [] ds
      (λ k before d. next DocumentFault (text_at (fault.Kind (item_at p k)) d) (λ t. no_id_fault (item_at p k) t (domain_fault 0 t)) (text DocumentFault (fault.Kind (item_at p k)) sited d) (λ t. id_checked (item_at p k) t (domain_fault 0 t) sited))

  dns_name : (k : ℕ) (d : Data) → Fails (dns_name_of p k d)
  unfolding dns_name_of text_at document_place
  dns_name k d = next DocumentFault (text_at (fault.Kind (item_at p k)) d) _ (text DocumentFault (fault.Kind (item_at p k)) sited d)
      (λ t. either DocumentFault ((length t == 0) || nat_lt MAX_DNS_NAME_LEN (length t)) (Err (fault.Kind (item_at p k))) (Ok t) sited tt)

  dns_names : (ds : List Data) → Fails (dns_names_of p ds)
  unfolding dns_names_of
  dns_names ds = each DocumentFault (λ k before d. dns_name_of p k d) at_end 0 [] ds (λ k before d. dns_name k d)

  ttl : (d : Data) → Fails (ttl_of p d)
  unfolding ttl_of ttl_at
  ttl d = maybe DocumentFault (ttl_at p) DEFAULT_TTL (get (codes "ttl") d)
      (λ v. next DocumentFault (number_at (fault.Kind p) v) _ (number DocumentFault (fault.Kind p) sited v) (λ n. either DocumentFault ((n == 0) || nat_lt MAX_TTL n) (Err (fault.Kind p)) (Ok n) sited tt))

  hint : (version : ℕ) (d : Data) → Fails (hint_of version p d)
  unfolding hint_of
  hint version d = either DocumentFault (version == 2) (text_or_empty MAX_HINT_LEN p (codes "hint") d) (Ok []) (text_maybe MAX_HINT_LEN (codes "hint") d) tt

  x509 : (d : Data) → Fails (x509_of p d)
  unfolding x509_of x509_at
  x509 d = maybe DocumentFault (x509_at p) [] (get (codes "x509") d) (λ v. next DocumentFault (base64_at p v) (at_most MAX_PART_LEN p) (base64 v) (few MAX_PART_LEN))

-- ---- places

top : (field : ℕ) → IsNamed (document_member field) → InDocument (at_top field)
unfolding document_place
top field named fits = named

bundle : (i field : ℕ) → IsNamed (bundle_member field) → InDocument (at_bundle i field)
unfolding document_place
bundle i field named fits = item_named (codes "bundles") (bundle_member field) i refl named fits

entry : (i field : ℕ) → IsNamed (entry_member field) → InDocument (at_entry i field)
unfolding document_place
entry i field named fits = item_named (codes "entries") (entry_member field) i refl named fits

svid : (i field : ℕ) → IsNamed (svid_member field) → InDocument (at_svid i field)
unfolding document_place
svid i field named fits = item_named (codes "svids") (svid_member field) i refl named fits

-- ---- bundles

bundle_name : (i : ℕ) (d : Data) → Fails (bundle_name_of i d)
unfolding bundle_name_of bundle_member
bundle_name i d = next DocumentFault (object_at (fault.Kind (at_bundle i 0)) d) _ (object DocumentFault (fault.Kind (at_bundle i 0)) (bundle i 0 refl) d) (λ _. domain_member (at_bundle i 1) (bundle i 1 refl) (codes "trust_domain") d)

bundle_domain : (i : ℕ) (given : List ℕ → Bool) (d : Data) → Fails (bundle_domain_of i given d)
unfolding bundle_domain_of bundle_member
bundle_domain i given d = next DocumentFault (bundle_name_of i d) _ (bundle_name i d) (λ domain. either DocumentFault (given domain) (Err (fault.Duplicate (at_bundle i 1))) (Ok domain) (bundle i 1 refl) tt)

one_bundle : (i : ℕ) (given : List ℕ → Bool) (d : Data) → Fails (bundle_of i given d)
unfolding bundle_of bundle_member
one_bundle i given d = next DocumentFault (bundle_domain_of i given d) _ (bundle_domain i given d)
    (λ domain. next DocumentFault (x509_of (at_bundle i 2) d) _ (x509 (at_bundle i 2) (bundle i 2 refl) d)
    (λ x509. next DocumentFault (text_or_empty MAX_PART_LEN (at_bundle i 3) (codes "jwks") d) _ (text_maybe (at_bundle i 3) (bundle i 3 refl) MAX_PART_LEN (codes "jwks") d) (λ jwks. tt)))

bundles : (ds : List Data) → Fails (bundles_of ds)
unfolding bundles_of read_bundles
bundles ds = next DocumentFault (read_bundles ds) _ (each DocumentFault (λ i before d. bundle_of i (was_given bundle_key before) d) at_end 0 [] ds (λ i before d. one_bundle i (was_given bundle_key before) d)) (λ bs. tt)

own_bundles : (own : List ℕ) (ds : List Data) → Fails (own_bundles_of own ds)
unfolding own_bundles_of
own_bundles own ds = next DocumentFault (bundles_of ds) _ (bundles ds) (λ bs. either DocumentFault (has_x509 (keys.item_at bundle_key bs own)) (Ok bs) (Err fault.NoOwnBundle) tt tt)

-- ---- entries

extras : (version i : ℕ) (d : Data) → Fails (extras_of version i d)
unfolding extras_of federates_with_of federated_list_of dns_names_in entry_member
extras version i d = next DocumentFault (federates_with_of i d) _ (next DocumentFault (federated_list_of i d) _ (list_maybe (at_entry i 4) (entry i 4 refl) MAX_FEDERATED (codes "federates_with") d) (λ ds. federated (at_entry i 4) (entry i 4 refl) ds))
    (λ federates. next DocumentFault (dns_names_in i d) _ (next DocumentFault (list_or_empty MAX_DNS_NAMES (at_entry i 5) (codes "dns_names") d) _ (list_maybe (at_entry i 5) (entry i 5 refl) MAX_DNS_NAMES (codes "dns_names") d) (λ ds. dns_names (at_entry i 5) (entry i 5 refl) ds))
    (λ names. next DocumentFault (ttl_of (at_entry i 6) d) _ (ttl (at_entry i 6) (entry i 6 refl) d)
    (λ t. next DocumentFault (hint_of version (at_entry i 7) d) _ (hint (at_entry i 7) (entry i 7 refl) version d) (λ h. tt))))

entry_name : (i : ℕ) (given : List ℕ → Bool) (d : Data) → Fails (entry_name_of i given d)
unfolding entry_name_of entry_member
entry_name i given d = next DocumentFault (object_at (fault.Kind (at_entry i 0)) d) _ (object DocumentFault (fault.Kind (at_entry i 0)) (entry i 0 refl) d)
    (λ _. next DocumentFault (name_of (at_entry i 1) (codes "id") d) _ (name_member (at_entry i 1) (entry i 1 refl) (codes "id") d)
    (λ id. either DocumentFault (given id) (Err (fault.Duplicate (at_entry i 1))) (Ok id) (entry i 1 refl) tt))

one_entry : (own : List ℕ) (version i : ℕ) (given : List ℕ → Bool) (d : Data) → Fails (entry_of own version i given d)
unfolding entry_of entry_member
one_entry own version i given d = next DocumentFault (entry_name_of i given d) _ (entry_name i given d)
    (λ id. next DocumentFault (id_of own (at_entry i 2) (codes "spiffe_id") d) _ (id_member (at_entry i 2) (entry i 2 refl) own (codes "spiffe_id") d)
    (λ s. next DocumentFault (selectors_of (at_entry i 3) d) _ (selectors (at_entry i 3) (entry i 3 refl) d)
    (λ ss. next DocumentFault (extras_of version i d) _ (extras version i d) (λ e. tt))))

entries : (own : List ℕ) (version : ℕ) (ds : List Data) → Fails (entries_of own version ds)
unfolding entries_of read_entries
entries own version ds = next DocumentFault (read_entries own version ds) _ (each DocumentFault (λ i before d. entry_of own version i (was_given entry_key before) d) at_end 0 [] ds (λ i before d. one_entry own version i (was_given entry_key before) d)) (λ es. tt)

-- ---- signed identities

svid_name : (i : ℕ) (given : List ℕ → Bool) (d : Data) → Fails (svid_name_of i given d)
unfolding svid_name_of svid_member
svid_name i given d = next DocumentFault (object_at (fault.Kind (at_svid i 0)) d) _ (object DocumentFault (fault.Kind (at_svid i 0)) (svid i 0 refl) d)
    (λ _. next DocumentFault (name_of (at_svid i 1) (codes "entry") d) _ (name_member (at_svid i 1) (svid i 1 refl) (codes "entry") d)
    (λ id. either DocumentFault (given id) (Err (fault.Duplicate (at_svid i 1))) (Ok id) (svid i 1 refl) tt))

one_svid : (i : ℕ) (given : List ℕ → Bool) (d : Data) → Fails (svid_of i given d)
unfolding svid_of svid_member
one_svid i given d = next DocumentFault (svid_name_of i given d) _ (svid_name i given d)
    (λ id. next DocumentFault (base64_of (at_svid i 2) (codes "chain") d) _ (base64_member (at_svid i 2) (svid i 2 refl) (codes "chain") d)
    (λ chain. next DocumentFault (base64_of (at_svid i 3) (codes "key") d) _ (base64_member (at_svid i 3) (svid i 3 refl) (codes "key") d)
    (λ key. next DocumentFault (number_of (at_svid i 4) (codes "not_before") d) _ (number_member (at_svid i 4) (svid i 4 refl) (codes "not_before") d)
    (λ before. next DocumentFault (number_of (at_svid i 5) (codes "not_after") d) _ (number_member (at_svid i 5) (svid i 5 refl) (codes "not_after") d) (λ after. tt)))))

svids : (ds : List Data) → Fails (svids_of ds)
unfolding svids_of read_svids
svids ds = next DocumentFault (read_svids ds) _ (each DocumentFault (λ i before d. svid_of i (was_given doc_svid_key before) d) at_end 0 [] ds (λ i before d. one_svid i (was_given doc_svid_key before) d)) (λ ss. tt)

-- ---- the top

version : (d : Data) → Fails (version_of d)
unfolding version_of document_member
version d = next DocumentFault (number_of (at_top 1) (codes "version") d) _ (number_member (at_top 1) (top 1 refl) (codes "version") d) (λ n. either DocumentFault ((n == 1) || (n == 2)) (Ok n) (Err fault.Version) tt tt)

own_domain : (own : Option (List ℕ)) (d : Data) → Fails (own_domain_of own d)
unfolding own_domain_of top_domain_of document_member
own_domain own d = next DocumentFault (top_domain_of d) _ (domain_member (at_top 2) (top 2 refl) (codes "trust_domain") d) (λ domain. either DocumentFault (is_own own domain) (Ok domain) (Err (fault.ForeignDomain (at_top 2))) tt (top 2 refl))

lists : (d : Data) → Fails (lists_of d)
unfolding lists_of document_member
lists d = next DocumentFault (list_of MAX_BUNDLES (at_top 3) (codes "bundles") d) _ (list_member (at_top 3) (top 3 refl) MAX_BUNDLES (codes "bundles") d)
    (λ bs. next DocumentFault (list_of MAX_ENTRIES (at_top 4) (codes "entries") d) _ (list_member (at_top 4) (top 4 refl) MAX_ENTRIES (codes "entries") d)
    (λ es. next DocumentFault (list_or_empty MAX_SVIDS (at_top 5) (codes "svids") d) _ (list_maybe (at_top 5) (top 5 refl) MAX_SVIDS (codes "svids") d) (λ ss. tt)))

renew_before : (d : Data) → Fails (renew_before_of d)
unfolding renew_before_of document_member
renew_before d = number_maybe (at_top 6) (top 6 refl) (codes "renew_before") d

members : (own : Option (List ℕ)) (d : Data) → Fails (top_of own d)
unfolding top_of document_member
members own d = next DocumentFault (object_at (fault.Kind (at_top 0)) d) _ (object DocumentFault (fault.Kind (at_top 0)) (top 0 refl) d)
    (λ _. next DocumentFault (version_of d) _ (version d)
    (λ v. next DocumentFault (own_domain_of own d) _ (own_domain own d)
    (λ o. next DocumentFault (lists_of d) _ (lists d)
    (λ l. next DocumentFault (renew_before_of d) _ (renew_before d) (λ n. tt)))))

state : (own : Option (List ℕ)) (d : Data) → Fails (state_of own d)
unfolding state_of
state own d = next DocumentFault (top_of own d) _ (members own d)
    (λ t. next DocumentFault (own_bundles_of t.domain t.bundles) _ (own_bundles t.domain t.bundles)
    (λ bs. next DocumentFault (entries_of t.domain t.version t.entries) _ (entries t.domain t.version t.entries)
    (λ es. next DocumentFault (svids_of t.svids) _ (svids t.svids) (λ ss. tt))))

document : (own : Option (List ℕ)) (bytes : List ℕ) → Fails (document_state own bytes)
unfolding document_state document_member
document own bytes = either DocumentFault (nat_lt DOCUMENT_LIMIT (length bytes)) (Err (fault.TooLong (at_top 0) (length bytes))) _ (top 0 refl)
    (next DocumentFault (or_fault fault.NotJson (value_of bytes)) (state_of own) (needed DocumentFault fault.NotJson (value_of bytes) tt) (state own))

pub fault_named : (own : Option (List ℕ)) (bytes : List ℕ) (e : DocFault) → document_state own bytes ≡ Err e → AreBounded (fault_numbers e) → IsNamed (document_says e)
fault_named own bytes e is fit = document_named e (subst (λ (r : Result State DocFault). Fails r) is (document own bytes)) fit
