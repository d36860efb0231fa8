-- What the maps hold comes to the lists of the document.
use Rattle.std.proofs.Common.{◌≡◌, ℕ, ◌+◌, ◌||◌, List, [], ◌∷◌, map, Bool, true, false, cond, find, if◌then◌else◌, Option, Some, None, Result, Ok, Err, refl, sym, ◌∙◌, ap}
use Rattle.std.specs.Option.{is_some}
use Rattle.std.specs.List.{list_any}
use Rattle.std.specs.Str.{bytes_eq}
use Rattle.std.specs.BTreeMap.{insert_entry, is_at}
use Rattle.std.specs.Map.{keys_of, values_of, lookup}
use Rattle.std.specs.FinMap.{nat_cmp-IsAntisymmetric, slice_cmp-IsAntisymmetric}
use Rattle.std.specs.Ordering.{nat_cmp, match_ordering}
use Rattle.std.specs.declared.cmp.Ordering.{Ordering}
use Rattle.std.specs.declared.cmp.Ordering.TheVariants.{Less, Equal, Greater}
use Rattle.std.specs.Cmp.{partial_equiv_from_equiv}
use Rattle.std.specs.Cmp.Lexicographic.{slice_cmp, texts_ties, nat_list_eq_equiv}
use Rattle.wl_document.proofs.Common.{Data, Bundle, Entry, ◌>>=◌, each_from, Kept, put, DocFault, NoOwnBundle, DocSvid}
use Rattle.json_members.specs.Arrays.{at_end}
use Rattle.wl_document.specs.Arrays.{was_given, put_by, ascending_onto, ascending}
use Rattle.wl_document.specs.Bundles.{bundle_of, read_bundles, bundles_of}
use Rattle.wl_document.specs.Entries.{entry_of, read_entries, entries_of}
use Rattle.sorted_lists.specs.Keys.{item_at}
use Rattle.wl_entry.specs.Keys.{bundle_key, entry_key}
use Rattle.wl_document.specs.Svids.{svid_of, doc_svid_key, read_svids, svids_of}
use Rattle.wl_document.specs.States.{State}
use Rattle.wl_document.specs.Documents.{has_x509, own_bundles_of, Top, top_of, state_of}
use Rattle.wl_document.specs.Kept.{kept_has, kept_at, IsKeyed}
use Rattle.wl_document.specs.Walks.{bundle_beside, kept_bundles, kept_own_bundles, entry_beside, kept_entries, svid_beside, kept_svids, kept_state}
use Rattle.wl_document.proofs.Orders.{rest, first, keyed_put, keyed_none}

-- ---- one map

same_key : (k l : List ℕ) → is_at (slice_cmp nat_cmp k) l ≡ bytes_eq k l
same_key k l = sym (texts_ties k l)

or_false : (a : Bool) → (a || false) ≡ a
or_false true = refl
or_false false = refl

or_twice : (a b : Bool) → (a || (a || b)) ≡ (a || b)
or_twice true b = refl
or_twice false b = refl

or_swap : (a b c : Bool) → (a || (b || c)) ≡ (b || (a || c))
or_swap true true c = refl
or_swap true false c = refl
or_swap false true c = refl
or_swap false false c = refl

or_move : (a b c : Bool) → (a || (b || c)) ≡ ((b || a) || c)
or_move true true c = refl
or_move true false c = refl
or_move false true c = refl
or_move false false c = refl

some_cond : {X : Type 0} (b : Bool) (x : X) (o : Option X) → is_some (cond b (Some x) o) ≡ (b || is_some o)
some_cond true x o = refl
some_cond false x o = refl

module _ {X : Type 0} (key : X → List ℕ) where
  values_after : (x : X) (o : Ordering) (e : List ℕ × X) (es more : Kept X) (others : List X) → values_of more ≡ others → values_of (match_ordering o ((key x, x) ∷ e ∷ es) ((e.0, x) ∷ es) (e ∷ more)) ≡ match_ordering o (x ∷ e.1 ∷ values_of es) (x ∷ values_of es) (e.1 ∷ others)
  values_after x Less e es more others h = refl
  values_after x Equal e es more others h = refl
  values_after x Greater e es more others h = ap (λ (l : List X). e.1 ∷ l) h

  values_entry : (x : X) (kept : Kept X) → map key (values_of kept) ≡ keys_of kept → values_of (insert_entry (slice_cmp nat_cmp) kept (key x) x) ≡ put_by key (values_of kept) x
  values_entry x [] h = refl
  values_entry x (e ∷ es) h =
      values_after x (slice_cmp nat_cmp (key x) e.0) e es (insert_entry (slice_cmp nat_cmp) es (key x) x) (put_by key (values_of es) x) (values_entry x es (ap rest h))
      ∙ ap (λ (k : List ℕ). match_ordering (slice_cmp nat_cmp (key x) k) (x ∷ e.1 ∷ values_of es) (x ∷ values_of es) (e.1 ∷ put_by key (values_of es) x)) (sym (ap (first e.0) h))

  values_put : (x : X) (kept : Kept X) → IsKeyed key kept → values_of (put kept (key x) x) ≡ put_by key (values_of kept) x
  unfolding put IsKeyed
  values_put x kept h = values_entry x kept h

  -- these items, each put at its key in turn
  abbrev kept_onto : Kept X → List X → Kept X
  kept_onto kept [] = kept
  kept_onto kept (x ∷ xs) = kept_onto (put kept (key x) x) xs

  keyed_onto : (kept : Kept X) (xs : List X) → IsKeyed key kept → IsKeyed key (kept_onto kept xs)
  keyed_onto kept [] h = h
  keyed_onto kept (x ∷ xs) h = keyed_onto (put kept (key x) x) xs (keyed_put key kept x h)

  values_onto : (kept : Kept X) (xs : List X) → IsKeyed key kept → values_of (kept_onto kept xs) ≡ ascending_onto key (values_of kept) xs
  values_onto kept [] h = refl
  values_onto kept (x ∷ xs) h = values_onto (put kept (key x) x) xs (keyed_put key kept x h) ∙ ap (λ (l : List X). ascending_onto key l xs) (values_put x kept h)

  values_kept : (xs : List X) → values_of (kept_onto [] xs) ≡ ascending key xs
  unfolding ascending
  values_kept xs = values_onto [] xs (keyed_none key)

  onto_end : (kept : Kept X) (xs : List X) (x : X) → kept_onto kept (at_end xs x) ≡ put (kept_onto kept xs) (key x) x
  onto_end kept [] x = refl
  onto_end kept (y ∷ ys) x = onto_end (put kept (key y) y) ys x

  at_entry : (k : List ℕ) (kept : Kept X) → map key (values_of kept) ≡ keys_of kept → lookup (is_at (slice_cmp nat_cmp k)) kept ≡ find (λ x. bytes_eq (key x) k) (values_of kept)
  at_entry k [] h = refl
  at_entry k (e ∷ es) h =
      ap (λ (b : Bool). cond b (Some e.1) (lookup (is_at (slice_cmp nat_cmp k)) es)) (same_key k e.0 ∙ ap (bytes_eq k) (sym (ap (first e.0) h)) ∙ (partial_equiv_from_equiv nat_list_eq_equiv).symm k (key e.1))
      ∙ ap (λ (o : Option X). cond (bytes_eq (key e.1) k) (Some e.1) o) (at_entry k es (ap rest h))

  at_same : (k : List ℕ) (kept : Kept X) → IsKeyed key kept → kept_at kept k ≡ item_at key (values_of kept) k
  unfolding kept_at IsKeyed item_at
  at_same k kept h = at_entry k kept h

  -- ---- what was given before

  module _ (p : List ℕ → Bool) where
    has_after : (o : Ordering) (k : List ℕ) (x : X) (e : List ℕ × X) (es more : Kept X) → (o ≡ Equal → k ≡ e.0) → is_some (lookup p more) ≡ (p k || is_some (lookup p es)) → is_some (lookup p (match_ordering o ((k, x) ∷ e ∷ es) ((e.0, x) ∷ es) (e ∷ more))) ≡ (p k || is_some (lookup p (e ∷ es)))
    has_after Less k x e es more same h = some_cond (p k) x (lookup p (e ∷ es))
    has_after Equal k x e es more same h =
        some_cond (p e.0) x (lookup p es)
        ∙ sym (ap (λ (l : List ℕ). p l || is_some (lookup p (e ∷ es))) (same refl) ∙ ap (λ (b : Bool). p e.0 || b) (some_cond (p e.0) e.1 (lookup p es)) ∙ or_twice (p e.0) (is_some (lookup p es)))
    has_after Greater k x e es more same h =
        some_cond (p e.0) e.1 (lookup p more)
        ∙ ap (λ (b : Bool). p e.0 || b) h
        ∙ or_swap (p e.0) (p k) (is_some (lookup p es))
        ∙ ap (λ (b : Bool). p k || b) (sym (some_cond (p e.0) e.1 (lookup p es)))

    has_entry : (kept : Kept X) (k : List ℕ) (x : X) → is_some (lookup p (insert_entry (slice_cmp nat_cmp) kept k x)) ≡ (p k || is_some (lookup p kept))
    has_entry [] k x = some_cond (p k) x None
    has_entry (e ∷ es) k x = has_after (slice_cmp nat_cmp k e.0) k x e es (insert_entry (slice_cmp nat_cmp) es k x) (slice_cmp-IsAntisymmetric nat_cmp-IsAntisymmetric k e.0) (has_entry es k x)

    has_put : (kept : Kept X) (k : List ℕ) (x : X) → is_some (lookup p (put kept k x)) ≡ (p k || is_some (lookup p kept))
    unfolding put
    has_put kept k x = has_entry kept k x

    has_onto : (kept : Kept X) (xs : List X) → is_some (lookup p (kept_onto kept xs)) ≡ (list_any (λ x. p (key x)) xs || is_some (lookup p kept))
    has_onto kept [] = refl
    has_onto kept (x ∷ xs) =
        has_onto (put kept (key x) x) xs
        ∙ ap (λ (b : Bool). list_any (λ y. p (key y)) xs || b) (has_put kept (key x) x)
        ∙ or_move (list_any (λ y. p (key y)) xs) (p (key x)) (is_some (lookup p kept))

  given_same : (xs : List X) (k : List ℕ) → kept_has (kept_onto [] xs) k ≡ was_given key xs k
  unfolding kept_has was_given
  given_same xs k =
      has_onto (is_at (slice_cmp nat_cmp k)) [] xs
      ∙ or_false (list_any (λ x. is_at (slice_cmp nat_cmp k) (key x)) xs)
      ∙ ap (λ (test : X → Bool). list_any test xs) (λ i x. same_key k (key x) i)

-- ---- one walk

bind_same : {A B C : Type 0} (r : Result A DocFault) (f : A → Result C DocFault) (g : A → Result B DocFault) (h : B → Result C DocFault) → ((x : A) → f x ≡ (g x >>= h)) → (r >>= f) ≡ ((r >>= g) >>= h)
bind_same (Ok x) f g h same = same x
bind_same (Err e) f g h same = refl

abbrev as_values : {X : Type 0} → Result (Kept X) DocFault → Result (List X) DocFault
as_values (Ok kept) = Ok (values_of kept)
as_values (Err e) = Err e

module _ {X : Type 0} (key : X → List ℕ) (read : ℕ → (List ℕ → Bool) → Data → Result X DocFault) where
  abbrev beside : ℕ → Kept X → Data → Result X DocFault
  beside i kept d = read i (kept_has kept) d

  abbrev before : ℕ → List X → Data → Result X DocFault
  before i xs d = read i (was_given key xs) d

  abbrev add : Kept X → X → Kept X
  add kept x = put kept (key x) x

  walk_same : (n : ℕ) (xs : List X) (ds : List Data) → each_from beside add n (kept_onto key [] xs) ds ≡ (each_from before at_end n xs ds >>= λ ys. Ok (kept_onto key [] ys))
  unfolding each_from
  walk_same n xs [] = refl
  walk_same n xs (d ∷ ds) =
      ap (λ (given : List ℕ → Bool). read n given d >>= λ x. each_from beside add (n + 1) (add (kept_onto key [] xs) x) ds) (λ i k. given_same key xs k i)
      ∙ bind_same (read n (was_given key xs) d) (λ x. each_from beside add (n + 1) (add (kept_onto key [] xs) x) ds) (λ x. each_from before at_end (n + 1) (at_end xs x) ds) (λ ys. Ok (kept_onto key [] ys))
      (λ x. ap (λ (kept : Kept X). each_from beside add (n + 1) kept ds) (sym (onto_end key [] xs x)) ∙ walk_same (n + 1) (at_end xs x) ds)

  plain : (r : Result (List X) DocFault) → as_values (r >>= λ xs. Ok (kept_onto key [] xs)) ≡ (r >>= λ xs. Ok (ascending key xs))
  plain (Ok xs) = ap (λ (l : List X). Ok l) (values_kept key xs)
  plain (Err e) = refl

-- ---- the arrays of a document

entries_same : (own : List ℕ) (version : ℕ) (ds : List Data) → as_values (kept_entries own version ds) ≡ entries_of own version ds
unfolding kept_entries entry_beside read_entries entries_of
entries_same own version ds = ap as_values (walk_same entry_key (entry_of own version) 0 [] ds) ∙ plain entry_key (entry_of own version) (read_entries own version ds)

svids_same : (ds : List Data) → as_values (kept_svids ds) ≡ svids_of ds
unfolding kept_svids svid_beside read_svids svids_of
svids_same ds = ap as_values (walk_same doc_svid_key svid_of 0 [] ds) ∙ plain doc_svid_key svid_of (read_svids ds)

if_values : {X : Type 0} (b : Bool) (kept : Kept X) (e : DocFault) → as_values (if b then Ok kept else Err e) ≡ (if b then Ok (values_of kept) else Err e)
if_values true kept e = refl
if_values false kept e = refl

own_plain : (own : List ℕ) (r : Result (List Bundle) DocFault) → as_values ((r >>= λ bs. Ok (kept_onto bundle_key [] bs)) >>= λ kept. if has_x509 (kept_at kept own) then Ok kept else Err NoOwnBundle) ≡ ((r >>= λ bs. Ok (ascending bundle_key bs)) >>= λ bs. if has_x509 (item_at bundle_key bs own) then Ok bs else Err NoOwnBundle)
own_plain own (Ok bs) =
    let kept : Kept Bundle = kept_onto bundle_key [] bs in
    if_values (has_x509 (kept_at kept own)) kept NoOwnBundle
    ∙ ap (λ (o : Option Bundle). if has_x509 o then Ok (values_of kept) else Err NoOwnBundle) (at_same bundle_key own kept (keyed_onto bundle_key [] bs (keyed_none bundle_key)))
    ∙ ap (λ (l : List Bundle). if has_x509 (item_at bundle_key l own) then Ok l else Err NoOwnBundle) (values_kept bundle_key bs)
own_plain own (Err e) = refl

own_bundles_same : (own : List ℕ) (ds : List Data) → as_values (kept_own_bundles own ds) ≡ own_bundles_of own ds
unfolding kept_own_bundles kept_bundles bundle_beside read_bundles bundles_of own_bundles_of
own_bundles_same own ds =
    ap (λ (r : Result (Kept Bundle) DocFault). as_values (r >>= λ kept. if has_x509 (kept_at kept own) then Ok kept else Err NoOwnBundle)) (walk_same bundle_key bundle_of 0 [] ds)
    ∙ own_plain own (read_bundles ds)

-- ---- the state

via_values : {X C : Type 0} (r : Result (Kept X) DocFault) (s : Result (List X) DocFault) (f g : List X → Result C DocFault) → as_values r ≡ s → ((xs : List X) → f xs ≡ g xs) → (r >>= λ kept. f (values_of kept)) ≡ (s >>= g)
via_values {X = X} {C = C} r s f g is same = by r ∙ ap (λ (t : Result (List X) DocFault). t >>= f) is ∙ ap (λ (h : List X → Result C DocFault). s >>= h) (λ i xs. same xs i)
  where
    by : (t : Result (Kept X) DocFault) → (t >>= λ kept. f (values_of kept)) ≡ (as_values t >>= f)
    by (Ok kept) = refl
    by (Err e) = refl

pub state_same : (own : Option (List ℕ)) (d : Data) → kept_state own d ≡ state_of own d
unfolding kept_state state_of
state_same own d =
    let made : Top → List Bundle → List Entry → List DocSvid → Result State DocFault = λ top bundles entries svids. Ok (record { domain = top.domain; bundles = bundles; entries = entries; svids = svids; renew_before = top.renew_before }) in
    ap (λ (rest : Top → Result State DocFault). top_of own d >>= rest)
    (λ i top. via_values (kept_own_bundles top.domain top.bundles) (own_bundles_of top.domain top.bundles)
    (λ bundles. kept_entries top.domain top.version top.entries >>= λ entries. kept_svids top.svids >>= λ svids. made top bundles (values_of entries) (values_of svids))
    (λ bundles. entries_of top.domain top.version top.entries >>= λ entries. svids_of top.svids >>= λ svids. made top bundles entries svids)
    (own_bundles_same top.domain top.bundles)
    (λ bundles. via_values (kept_entries top.domain top.version top.entries) (entries_of top.domain top.version top.entries)
    (λ entries. kept_svids top.svids >>= λ svids. made top bundles entries (values_of svids))
    (λ entries. svids_of top.svids >>= λ svids. made top bundles entries svids)
    (entries_same top.domain top.version top.entries)
    (λ entries. via_values (kept_svids top.svids) (svids_of top.svids) (λ svids. made top bundles entries svids) (λ svids. made top bundles entries svids) (svids_same top.svids) (λ svids. refl))) i)
