-- Entries beside their ids.
use Rattle.std.proofs.Common.{◌≡◌, ℕ, ◌+◌, ◌<◌, ◌≤◌, Bool, true, false, cond, List, [], ◌∷◌, ◌++◌, map, length, take, drop, get_or, Ordering, Less, Equal, Greater, refl, sym, ap, ◌∙◌, suc, add-one, arith}
use Rattle.std.specs.Str.{bytes_eq}
use Rattle.std.specs.Map.{keys_of, values_of, remove_entry}
use Rattle.std.specs.BTreeMap.{insert_entry, is_at}
use Rattle.std.specs.Ordering.{nat_cmp, is_eq, match_ordering, ordering_reverse}
use Rattle.std.specs.List.{AllByRecursion}
use Rattle.std.specs.Cmp.Lexicographic.{slice_cmp, nat_list_cmp_total, bytes_decides}
use Rattle.std.proofs.lemmas.Map.Text.{is_eq-slice_cmp}
use Rattle.std.proofs.lemmas.List.{take_more, take-append-drop}
use Rattle.std.proofs.Math.Seq.{drop-cons}
use Rattle.list_laws.specs.Lists.{Rises}
use Rattle.list_laws.proofs.Keys.{parts_of}
use Rattle.wl_entry.specs.Keys.{entry_key}
use Rattle.wl_entry.specs.declared.entries.Entry.{Entry}
use Rattle.wl_match.specs.declared.changes.Change.{Change}
use Rattle.wl_match.specs.declared.changes.Change.TheVariants.{Put, Remove}
use Rattle.wl_match.specs.Changes.{put_entry, take_out, changed_by, changed_entries, by_id}

put_go : (o : Ordering) (e x : Entry) (xs : List Entry) (rest : List (List ℕ × Entry)) → slice_cmp nat_cmp e.id x.id ≡ o → rest ≡ by_id (put_entry e xs)
    → match_ordering o ((e.id, e) ∷ (x.id, x) ∷ by_id xs) ((x.id, e) ∷ by_id xs) ((x.id, x) ∷ rest) ≡ by_id (match_ordering o (e ∷ x ∷ xs) (e ∷ xs) (x ∷ put_entry e xs))
put_go Less e x xs rest is h = refl
put_go Equal e x xs rest is h =
    let same : e.id ≡ x.id = (bytes_decides e.id x.id).0 (sym (is_eq-slice_cmp e.id x.id) ∙ ap is_eq is) in
    ap (λ (k : List ℕ). (k, e) ∷ by_id xs) (sym same)
put_go Greater e x xs rest is h = ap (λ (r : List (List ℕ × Entry)). (x.id, x) ∷ r) h

pub put_by_id : (e : Entry) (xs : List Entry) → insert_entry (slice_cmp nat_cmp) (by_id xs) e.id e ≡ by_id (put_entry e xs)
put_by_id e [] = refl
put_by_id e (x ∷ xs) = put_go (slice_cmp nat_cmp e.id x.id) e x xs (insert_entry (slice_cmp nat_cmp) (by_id xs) e.id e) refl (put_by_id e xs)

take_go : (b : Bool) (x : Entry) (xs : List Entry) (rest : List (List ℕ × Entry)) (less : List Entry) → rest ≡ by_id less → cond b (by_id xs) ((x.id, x) ∷ rest) ≡ by_id (cond b xs (x ∷ less))
take_go true x xs rest less h = refl
take_go false x xs rest less h = ap (λ (r : List (List ℕ × Entry)). (x.id, x) ∷ r) h

pub take_by_id : (id : List ℕ) (xs : List Entry) → remove_entry (is_at (slice_cmp nat_cmp id)) (by_id xs) ≡ by_id (take_out id xs)
take_by_id id [] = refl
take_by_id id (x ∷ xs) = rw (is_eq-slice_cmp id x.id) (take_go (bytes_eq id x.id) x xs (remove_entry (is_at (slice_cmp nat_cmp id)) (by_id xs)) (take_out id xs) (take_by_id id xs))

pub values_by_id : (xs : List Entry) → values_of (by_id xs) ≡ xs
values_by_id [] = refl
values_by_id (x ∷ xs) = ap (λ (r : List Entry). x ∷ r) (values_by_id xs)

pub keys_by_id : (xs : List Entry) → keys_of (by_id xs) ≡ map entry_key xs
keys_by_id [] = refl
keys_by_id (x ∷ xs) = ap (λ (r : List (List ℕ)). x.id ∷ r) (keys_by_id xs)

-- ---- an entry above all others is put at the end

put_last : (e : Entry) (xs : List Entry) → AllByRecursion (λ z. slice_cmp nat_cmp z e.id ≡ Less) (map entry_key xs) → put_entry e xs ≡ xs ++ e ∷ []
put_last e [] all = refl
put_last e (x ∷ xs) all =
    let up : slice_cmp nat_cmp e.id x.id ≡ Greater = nat_list_cmp_total.antisymm e.id x.id ∙ ap ordering_reverse all.0 in
    rw up (ap (λ (r : List Entry). x ∷ r) (put_last e xs all.1))

next : (xs : List Entry) (i : ℕ) (e : Entry) → i < length xs → e ≡ get_or xs i e → drop i xs ≡ e ∷ drop (i + 1) xs
next xs i e lt is = rw (add-one) (drop-cons xs i e lt ∙ ap (λ (x : Entry). x ∷ drop (suc i) xs) (sym is))

pub put_next : (xs : List Entry) (i : ℕ) (e : Entry) → Rises (map entry_key xs) → i < length xs → e ≡ get_or xs i e → put_entry e (take i xs) ≡ take (i + 1) xs
put_next xs i e rises lt is =
    let more : take (i + 1) xs ≡ take i xs ++ e ∷ [] = take_more xs i e lt ∙ ap (λ (x : Entry). take i xs ++ x ∷ []) (sym is) in
    let whole : xs ≡ take i xs ++ e ∷ drop (i + 1) xs = sym (take-append-drop i xs) ∙ ap (λ (r : List Entry). take i xs ++ r) (next xs i e lt is) in
    let p = parts_of entry_key xs (take i xs) e (drop (i + 1) xs) whole rises in
    put_last e (take i xs) p.under ∙ sym more

-- ---- how many

put_few_by : (o : Ordering) (e x : Entry) (xs more : List Entry) → length more ≤ length xs + 1 → length (match_ordering o (e ∷ x ∷ xs) (e ∷ xs) (x ∷ more)) ≤ length (x ∷ xs) + 1
put_few_by Less e x xs more h = omega arith
put_few_by Equal e x xs more h = omega arith
put_few_by Greater e x xs more h = omega (arith, h)

put_few : (e : Entry) (xs : List Entry) → length (put_entry e xs) ≤ length xs + 1
put_few e [] = omega arith
put_few e (x ∷ xs) = put_few_by (slice_cmp nat_cmp e.id x.id) e x xs (put_entry e xs) (put_few e xs)

take_few_by : (b : Bool) (x : Entry) (xs less : List Entry) → length less ≤ length xs → length (cond b xs (x ∷ less)) ≤ length (x ∷ xs)
take_few_by true x xs less h = omega arith
take_few_by false x xs less h = omega (arith, h)

take_few : (id : List ℕ) (xs : List Entry) → length (take_out id xs) ≤ length xs
take_few id [] = omega arith
take_few id (x ∷ xs) = take_few_by (bytes_eq id x.id) x xs (take_out id xs) (take_few id xs)

one_few : (c : Change) (xs : List Entry) → length (changed_by c xs) ≤ length xs + 1
one_few (Put e) xs = put_few e xs
one_few (Remove id) xs = omega (arith, take_few id xs)

pub changed_few : (cs : List Change) (xs : List Entry) → length (changed_entries cs xs) ≤ length xs + length cs
changed_few [] xs = omega arith
changed_few (c ∷ cs) xs = omega (arith, changed_few cs (changed_by c xs), one_few c xs)
