-- Nothing that is read passes the limits.
use Rattle.std.proofs.Common.{◌≡◌, ℕ, ◌+◌, ◌≤◌, ◌==◌, List, [], ◌∷◌, length, codes, Bool, true, false, if◌then◌else◌, nat_lt, nat_le, Result, Ok, ◌∙◌, ap, subst, arith, length-append}
use Rattle.std.proofs.lemmas.Bool.{ltb-false, leb-true}
use Rattle.std.specs.Cmp.{first_so, second_so}
use Rattle.wl_document.proofs.Common.{Data, Bundle, Entry, DocSvid, each_from, DocFault, Missing, Kind, TooMany, TooLong, Duplicate, NoSelectors, ok_is}
use Rattle.serde_json.specs.Find.{get}
use Rattle.wl_entry.specs.Limits.{EntryWithin, BundleWithin}
use Rattle.json_members.specs.Arrays.{at_end}
use Rattle.json_members.specs.Members.{required, text_at, array_at, object_at}
use Rattle.wl_document.specs.Places.{at_bundle, at_entry, at_svid}
use Rattle.wl_document.specs.Members.{text_of, list_at, list_of, list_or_empty, name_of, is_name, base64_at, base64_of, number_of, at_most, text_within, text_or_empty, id_of}
use Rattle.wl_document.specs.Bundles.{x509_at, x509_of, bundle_domain_of, bundle_of}
use Rattle.wl_document.specs.Entries.{selector_of, selector_list_of, selectors_of, federated_of, federates_of, federated_list_of, federates_with_of, dns_name_of, dns_names_of, dns_names_in, ttl_of, hint_of, Extras, extras_of, entry_name_of, entry_of}
use Rattle.wl_document.specs.Svids.{svid_name_of, svid_of}
use Rattle.wl_document.specs.States.{SvidWithin}
use Rattle.wl_document.specs.declared.fault.Place.{Place}
use Rattle.list_laws.proofs.Results.{bind_then, unless_ok, when_ok}
use Rattle.wl_selector.proofs.Members.{sorted_short}
use Rattle.wl_document.proofs.Checks.{optional_ok}

-- ---- members

at_most_short : (n : ℕ) (p : Place) (bytes out : List ℕ) → at_most n p bytes ≡ Ok out → length out ≤ n
unfolding at_most
at_most_short n p bytes out h = unless_ok (nat_lt n (length bytes)) (TooLong p (length bytes)) (Ok bytes) out h (λ short is. subst (λ (l : List ℕ). length l ≤ n) (ok_is is) (ltb-false n (length bytes) short))

text_short : (n : ℕ) (p : Place) (name : List ℕ) (d : Data) (out : List ℕ) → text_or_empty n p name d ≡ Ok out → length out ≤ n
unfolding text_or_empty text_within
text_short n p name d out h =
    optional_ok (text_within n p) [] (get name d) out h
    (λ is. subst (λ (l : List ℕ). length l ≤ n) is (omega arith))
    (λ v is. bind_then (text_at (Kind p) v) (at_most n p) out is (λ text was last. at_most_short n p text out last))

list_short : (n : ℕ) (p : Place) (d : Data) (out : List Data) → list_at n p d ≡ Ok out → length out ≤ n
unfolding list_at
list_short n p d out h =
    bind_then (array_at (Kind p) d) _ out h
    (λ items was last. unless_ok (nat_lt n (length items)) (TooMany p (length items)) (Ok items) out last
    (λ few is. subst (λ (l : List Data). length l ≤ n) (ok_is is) (ltb-false n (length items) few)))

list_of_short : (n : ℕ) (p : Place) (name : List ℕ) (d : Data) (out : List Data) → list_of n p name d ≡ Ok out → length out ≤ n
unfolding list_of
list_of_short n p name d out h = bind_then (required (Missing p) name d) (list_at n p) out h (λ v was last. list_short n p v out last)

list_or_empty_short : (n : ℕ) (p : Place) (name : List ℕ) (d : Data) (out : List Data) → list_or_empty n p name d ≡ Ok out → length out ≤ n
unfolding list_or_empty
list_or_empty_short n p name d out h =
    optional_ok (list_at n p) [] (get name d) out h
    (λ is. subst (λ (l : List Data). length l ≤ n) is (omega arith))
    (λ v is. list_short n p v out is)

name_short : (p : Place) (name : List ℕ) (d : Data) (out : List ℕ) → name_of p name d ≡ Ok out → length out ≤ 128
unfolding name_of
name_short p name d out h =
    bind_then (text_of p name d) _ out h
    (λ text was last. when_ok (is_name text) (Kind p) (Ok text) out last
    (λ good is. subst (λ (l : List ℕ). length l ≤ 128) (ok_is is) (leb-true (length text) 128 (first_so (nat_le (length text) 128) _ (second_so _ _ good)))))

-- ---- the arrays inside an entry

each_counts : {X : Type 0} (read : ℕ → List X → Data → Result X DocFault) (n : ℕ) (done : List X) (ds : List Data) (all : List X) → each_from read at_end n done ds ≡ Ok all → length all ≡ length done + length ds
unfolding each_from
each_counts read n done [] all h = omega (arith, ap length (ok_is h))
each_counts read n done (d ∷ ds) all h =
    bind_then (read n done d) _ all h
    (λ x was last. omega (arith, each_counts read (n + 1) (at_end done x) ds all last, length-append done (x ∷ [])))

selectors_few : (p : Place) (d : Data) (out : List (List ℕ)) → selectors_of p d ≡ Ok out → length out ≤ 64
unfolding selectors_of selector_list_of
selectors_few p d out h =
    bind_then (list_of 64 p (codes "selectors") d) _ out h
    (λ items was next. unless_ok (length items == 0) (NoSelectors p) _ out next
    (λ some next. bind_then (each_from (λ k before d. selector_of p k d) at_end 0 [] items) _ out next
    (λ texts read last. omega (arith, list_of_short 64 p (codes "selectors") d items was, each_counts (λ k before d. selector_of p k d) 0 [] items texts read, sorted_short texts, ap length (ok_is last)))))

federates_few : (i : ℕ) (d : Data) (out : List (List ℕ)) → federates_with_of i d ≡ Ok out → length out ≤ 64
unfolding federates_with_of federated_list_of federates_of
federates_few i d out h =
    bind_then (list_or_empty 64 (at_entry i 4) (codes "federates_with") d) _ out h
    (λ items was last. omega (arith, list_or_empty_short 64 (at_entry i 4) (codes "federates_with") d items was, each_counts (λ k before d. federated_of (at_entry i 4) k d) 0 [] items out last))

dns_names_few : (i : ℕ) (d : Data) (out : List (List ℕ)) → dns_names_in i d ≡ Ok out → length out ≤ 64
unfolding dns_names_in dns_names_of
dns_names_few i d out h =
    bind_then (list_or_empty 64 (at_entry i 5) (codes "dns_names") d) _ out h
    (λ items was last. omega (arith, list_or_empty_short 64 (at_entry i 5) (codes "dns_names") d items was, each_counts (λ k before d. dns_name_of (at_entry i 5) k d) 0 [] items out last))

hint_short : (version : ℕ) (p : Place) (d : Data) (out : List ℕ) → hint_of version p d ≡ Ok out → length out ≤ 1024
unfolding hint_of
hint_short version p d out h = by (version == 2) h
  where
    by : (b : Bool) → (if b then text_or_empty 1024 p (codes "hint") d else Ok []) ≡ Ok out → length out ≤ 1024
    by true h = text_short 1024 p (codes "hint") d out h
    by false h = subst (λ (l : List ℕ). length l ≤ 1024) (ok_is h) (omega arith)

-- ---- items

pub record ExtrasWithin (x : Extras) : Type 0 where
  pub federates_with : length x.federates_with ≤ 64
  pub dns_names : length x.dns_names ≤ 64
  pub hint : length x.hint ≤ 1024

extras_within : (version i : ℕ) (d : Data) (x : Extras) → extras_of version i d ≡ Ok x → ExtrasWithin x
unfolding extras_of
extras_within version i d x h =
    bind_then (federates_with_of i d) _ x h (λ federates_with a next.
    bind_then (dns_names_in i d) _ x next (λ dns_names b next.
    bind_then (ttl_of (at_entry i 6) d) _ x next (λ ttl c next.
    bind_then (hint_of version (at_entry i 7) d) _ x next (λ hint e last.
    subst ExtrasWithin (ok_is last) (record { federates_with = federates_few i d federates_with a; dns_names = dns_names_few i d dns_names b; hint = hint_short version (at_entry i 7) d hint e })))))

entry_name_short : (i : ℕ) (given : List ℕ → Bool) (d : Data) (out : List ℕ) → entry_name_of i given d ≡ Ok out → length out ≤ 128
unfolding entry_name_of
entry_name_short i given d out h =
    bind_then (object_at (Kind (at_entry i 0)) d) _ out h (λ object a next.
    bind_then (name_of (at_entry i 1) (codes "id") d) _ out next (λ id b next.
    unless_ok (given id) (Duplicate (at_entry i 1)) (Ok id) out next (λ new last.
    name_short (at_entry i 1) (codes "id") d out (b ∙ last))))

pub entry_within : (own : List ℕ) (version i : ℕ) (given : List ℕ → Bool) (d : Data) (e : Entry) → entry_of own version i given d ≡ Ok e → EntryWithin e
unfolding entry_of
entry_within own version i given d e h =
    bind_then (entry_name_of i given d) _ e h (λ id a next.
    bind_then (id_of own (at_entry i 2) (codes "spiffe_id") d) _ e next (λ spiffe_id b next.
    bind_then (selectors_of (at_entry i 3) d) _ e next (λ selectors c next.
    bind_then (extras_of version i d) _ e next (λ x f last.
    let within = extras_within version i d x f in
    subst EntryWithin (ok_is last) (record { id = entry_name_short i given d id a; selectors = selectors_few (at_entry i 3) d selectors c; federates_with = within.federates_with; dns_names = within.dns_names; hint = within.hint })))))

x509_short : (p : Place) (d : Data) (out : List ℕ) → x509_of p d ≡ Ok out → length out ≤ 1048576
unfolding x509_of x509_at
x509_short p d out h =
    optional_ok (x509_at p) [] (get (codes "x509") d) out h
    (λ is. subst (λ (l : List ℕ). length l ≤ 1048576) is (omega arith))
    (λ v is. bind_then (base64_at p v) (at_most 1048576 p) out is (λ bytes was last. at_most_short 1048576 p bytes out last))

pub bundle_within : (i : ℕ) (given : List ℕ → Bool) (d : Data) (b : Bundle) → bundle_of i given d ≡ Ok b → BundleWithin b
unfolding bundle_of
bundle_within i given d b h =
    bind_then (bundle_domain_of i given d) _ b h (λ domain a next.
    bind_then (x509_of (at_bundle i 2) d) _ b next (λ x509 c next.
    bind_then (text_or_empty 1048576 (at_bundle i 3) (codes "jwks") d) _ b next (λ jwks e last.
    subst BundleWithin (ok_is last) (record { x509 = x509_short (at_bundle i 2) d x509 c; jwks = text_short 1048576 (at_bundle i 3) (codes "jwks") d jwks e }))))

svid_name_short : (i : ℕ) (given : List ℕ → Bool) (d : Data) (out : List ℕ) → svid_name_of i given d ≡ Ok out → length out ≤ 128
unfolding svid_name_of
svid_name_short i given d out h =
    bind_then (object_at (Kind (at_svid i 0)) d) _ out h (λ object a next.
    bind_then (name_of (at_svid i 1) (codes "entry") d) _ out next (λ id b next.
    unless_ok (given id) (Duplicate (at_svid i 1)) (Ok id) out next (λ new last.
    name_short (at_svid i 1) (codes "entry") d out (b ∙ last))))

pub svid_within : (i : ℕ) (given : List ℕ → Bool) (d : Data) (s : DocSvid) → svid_of i given d ≡ Ok s → SvidWithin s
unfolding svid_of
svid_within i given d s h =
    bind_then (svid_name_of i given d) _ s h (λ id a next.
    bind_then (base64_of (at_svid i 2) (codes "chain") d) _ s next (λ chain b next.
    bind_then (base64_of (at_svid i 3) (codes "key") d) _ s next (λ key c next.
    bind_then (number_of (at_svid i 4) (codes "not_before") d) _ s next (λ not_before e next.
    bind_then (number_of (at_svid i 5) (codes "not_after") d) _ s next (λ not_after f last.
    subst SvidWithin (ok_is last) (record { entry_id = svid_name_short i given d id a }))))))
