-- What is filed under each selector.
use Rattle.std.proofs.Common.{◌≡◌, ◌<◌, ◌+◌, ℕ, take, get_or, length, Bool, true, false, cond, ◌&&◌, List, [], ◌∷◌, ◌++◌, map, filter, unwrap_or, Option, Some, None, refl, sym, ap, ◌∙◌, append-nil}
use Rattle.std.specs.Str.{bytes_eq}
use Rattle.std.specs.Ordering.{nat_cmp}
use Rattle.std.specs.Map.{lookup, keys_of}
use Rattle.std.specs.BTreeMap.{is_at}
use Rattle.std.specs.Cmp.Lexicographic.{slice_cmp, pointwise, nat_list_eq_equiv}
use Rattle.std.proofs.lemmas.Bool.{and_parts}
use Rattle.std.proofs.lemmas.List.{map-append, take_more}
use Rattle.std.proofs.lemmas.List.Elements.{filter-append}
use Rattle.std.proofs.lemmas.Map.Text.{is_eq-slice_cmp}
use Rattle.std.specs.List.Sorted.{IsStrictlySortedBy}
use Rattle.list_laws.specs.Lists.{Rises}
use Rattle.list_laws.specs.Keys.{item_at}
use Rattle.list_laws.proofs.Equality.{bytes_are, texts_are}
use Rattle.wl_entry.specs.Keys.{entry_key}
use Rattle.wl_entry.specs.declared.entries.Entry.{Entry}
use Rattle.wl_match.specs.declared.postings.Posting.{Posting}
use Rattle.wl_match.specs.Postings.{posting_key, posting_of, first_text, ids_under, ids_of, ids_at}

pub same_posting : (a b : Posting) → (bytes_eq a.selector b.selector && pointwise bytes_eq a.ids b.ids) ≡ true → a ≡ b
same_posting a b h =
    let p = and_parts (bytes_eq a.selector b.selector) (pointwise bytes_eq a.ids b.ids) h in
    ap (λ (s : List ℕ). record a { selector = s }) (bytes_are a.selector b.selector p.0) ∙ ap (λ (i : List (List ℕ)). record { selector = b.selector; ids = i }) (texts_are a.ids b.ids p.1)

-- ---- one more entry

one_by : (b : Bool) (e : Entry) → map entry_key (cond b (e ∷ []) []) ≡ cond b (e.id ∷ []) []
one_by true e = refl
one_by false e = refl

pub ids_one : (q : List ℕ) (e : Entry) → ids_under q (e ∷ []) ≡ cond (bytes_eq (first_text e.selectors) q) (e.id ∷ []) []
unfolding ids_under
ids_one q e = one_by (bytes_eq (first_text e.selectors) q) e

pub ids_under-append : (q : List ℕ) (xs ys : List Entry) → ids_under q (xs ++ ys) ≡ ids_under q xs ++ ids_under q ys
unfolding ids_under
ids_under-append q xs ys = ap (map entry_key) (filter-append (λ e. bytes_eq (first_text e.selectors) q) xs ys)
    ∙ map-append entry_key (filter (λ e. bytes_eq (first_text e.selectors) q) xs) (filter (λ e. bytes_eq (first_text e.selectors) q) ys)

pub ids_more : (q : List ℕ) (xs : List Entry) (i : ℕ) (e : Entry) → i < length xs → e ≡ get_or xs i e → ids_under q (take (i + 1) xs) ≡ ids_under q (take i xs) ++ ids_under q (e ∷ [])
ids_more q xs i e lt is = ap (ids_under q) (take_more xs i e lt ∙ ap (λ (x : Entry). take i xs ++ x ∷ []) (sym is)) ∙ ids_under-append q (take i xs) (e ∷ [])

file_by : (b : Bool) (id : List ℕ) (old at_k : Option (List (List ℕ))) → (b ≡ true → at_k ≡ old)
    → unwrap_or (cond b (Some (unwrap_or at_k [] ++ id ∷ [])) (cond b None old)) [] ≡ unwrap_or old [] ++ cond b (id ∷ []) []
file_by true id old at_k h = ap (λ (o : Option (List (List ℕ))). unwrap_or o [] ++ id ∷ []) (h refl)
file_by false id old at_k h = sym (append-nil (unwrap_or old []))

-- an entry that is filed under one selector is filed under no other
pub file_step : (e : Entry) (q : List ℕ) (es : List (List ℕ × List (List ℕ))) (mid new : Option (List (List ℕ)))
    → mid ≡ cond (is_at (slice_cmp nat_cmp (first_text e.selectors)) q) None (lookup (is_at (slice_cmp nat_cmp q)) es)
    → new ≡ cond (is_at (slice_cmp nat_cmp (first_text e.selectors)) q) (Some (unwrap_or (lookup (is_at (slice_cmp nat_cmp (first_text e.selectors))) es) [] ++ e.id ∷ [])) mid
    → unwrap_or new [] ≡ unwrap_or (lookup (is_at (slice_cmp nat_cmp q)) es) [] ++ ids_under q (e ∷ [])
file_step e q es mid new m n =
    let k = first_text e.selectors in
    let test = is_eq-slice_cmp k q in
    let same : is_at (slice_cmp nat_cmp k) q ≡ true → lookup (is_at (slice_cmp nat_cmp k)) es ≡ lookup (is_at (slice_cmp nat_cmp q)) es =
    (λ h. ap (λ (x : List ℕ). lookup (is_at (slice_cmp nat_cmp x)) es) (bytes_are k q (sym test ∙ h))) in
    rw (n, m) (file_by (is_at (slice_cmp nat_cmp k) q) e.id (lookup (is_at (slice_cmp nat_cmp q)) es) (lookup (is_at (slice_cmp nat_cmp k)) es) same
    ∙ ap (λ (b : Bool). unwrap_or (lookup (is_at (slice_cmp nat_cmp q)) es) [] ++ cond b (e.id ∷ []) []) test
    ∙ ap (λ (ids : List (List ℕ)). unwrap_or (lookup (is_at (slice_cmp nat_cmp q)) es) [] ++ ids) (sym (ids_one q e)))

-- ---- postings of what is filed

pub keys_posted : (es : List (List ℕ × List (List ℕ))) → map posting_key (map posting_of es) ≡ keys_of es
keys_posted [] = refl
keys_posted (e ∷ es) = ap (λ (ks : List (List ℕ)). e.0 ∷ ks) (keys_posted es)

found_by : (b : Bool) (e : List ℕ × List (List ℕ)) (o : Option Posting) (p : Option (List (List ℕ))) → ids_of o ≡ unwrap_or p [] → ids_of (cond b (Some (posting_of e)) o) ≡ unwrap_or (cond b (Some e.1) p) []
found_by true e o p h = refl
found_by false e o p h = h

pub ids_posted : (q : List ℕ) (es : List (List ℕ × List (List ℕ))) → ids_at (map posting_of es) q ≡ unwrap_or (lookup (is_at (slice_cmp nat_cmp q)) es) []
unfolding ids_at item_at
ids_posted q [] = refl
ids_posted q (e ∷ es) =
    let test : bytes_eq e.0 q ≡ is_at (slice_cmp nat_cmp q) e.0 = nat_list_eq_equiv.symm e.0 q ∙ sym (is_eq-slice_cmp q e.0) in
    rw test (found_by (is_at (slice_cmp nat_cmp q) e.0) e (item_at posting_key (map posting_of es) q) (lookup (is_at (slice_cmp nat_cmp q)) es) (ids_posted q es))

pub rises_posted : (es : List (List ℕ × List (List ℕ))) (ps : List Posting) → ps ≡ map posting_of es → IsStrictlySortedBy (slice_cmp nat_cmp) (keys_of es) → Rises (map posting_key ps)
rises_posted es ps is ordered = rw is (rw (keys_posted es) ordered)
