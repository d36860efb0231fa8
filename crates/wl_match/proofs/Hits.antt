-- Which entries are met among those that are filed.
use Rattle.std.proofs.Common.{◌≡◌, ℕ, zero, suc, ◌+◌, ◌<◌, ◌==◌, Bool, true, false, cond, ◌&&◌, ◌||◌, List, [], ◌∷◌, ◌++◌, length, take, get_or, slice_get, Option, Some, None, refl, sym, ap, ◌∙◌, append-nil, arith}
use Rattle.std.specs.Str.{bytes_eq}
use Rattle.std.specs.Ordering.{nat_cmp}
use Rattle.std.specs.BTreeMap.{is_at}
use Rattle.std.specs.List.{list_any, list_all, flat_map}
use Rattle.std.specs.Cmp.Lexicographic.{bytes_decides, nat_list_eq_equiv}
use Rattle.std.proofs.lemmas.Bool.{and_parts, or_left, or_right}
use Rattle.std.proofs.lemmas.Bool.Decides.{nat_tests}
use Rattle.std.proofs.lemmas.List.{take_more}
use Rattle.std.proofs.lemmas.List.Folds.{list_any-append}
use Rattle.std.proofs.lemmas.Grind.{flat_map-append}
use Rattle.wl_selector.specs.Selectors.{has_text, has_texts}
use Rattle.wl_selector.proofs.Members.{has_text_append}
use Rattle.wl_entry.specs.declared.entries.Entry.{Entry}
use Rattle.wl_entry.specs.Entitled.{is_entitled}
use Rattle.wl_match.specs.declared.postings.Posting.{Posting}
use Rattle.wl_match.specs.Postings.{first_text, ids_under, ids_at, is_hit}
use Rattle.wl_match.proofs.AscendingNumbers.{at_is, passes}
use Rattle.wl_match.proofs.PlacesById.{has_id}
use Rattle.wl_match.proofs.SelectorFiles.{ids_one, ids_under-append}

-- ---- tests

and_false : (a : Bool) → (a && false) ≡ false
and_false true = refl
and_false false = refl

or_false : (a : Bool) → (a || false) ≡ a
or_false true = refl
or_false false = refl

or_assoc : (a b c : Bool) → ((a || b) || c) ≡ (a || (b || c))
or_assoc true b c = refl
or_assoc false b c = refl

spread : (a b c : Bool) → (a && (b || c)) ≡ ((a && b) || (a && c))
spread true b c = refl
spread false b c = refl

-- ---- hits

pub hit_none : (sel : List (List ℕ)) (o : Option Entry) → is_hit sel [] o ≡ false
unfolding has_text
hit_none sel None = refl
hit_none sel (Some e) = and_false (is_entitled sel e)

pub hit-append : (sel xs ys : List (List ℕ)) (o : Option Entry) → is_hit sel (xs ++ ys) o ≡ (is_hit sel xs o || is_hit sel ys o)
unfolding has_text
hit-append sel xs ys None = refl
hit-append sel xs ys (Some e) =
    ap (λ (b : Bool). is_entitled sel e && b) (list_any-append (λ other. bytes_eq other e.id) xs ys)
    ∙ spread (is_entitled sel e) (list_any (λ other. bytes_eq other e.id) xs) (list_any (λ other. bytes_eq other e.id) ys)

pub same_hits : (sel : List (List ℕ)) (o : Option Entry) (a : Bool) → a ≡ (a || is_hit sel [] o)
same_hits sel o a = sym (ap (λ (b : Bool). a || b) (hit_none sel o) ∙ or_false a)

pub more_hits : (sel ids : List (List ℕ)) (i : ℕ) (id : List ℕ) (o : Option Entry) (a x y : Bool) → i < length ids → id ≡ get_or ids i id
    → x ≡ (y || is_hit sel (id ∷ []) o) → y ≡ (a || is_hit sel (take i ids) o) → x ≡ (a || is_hit sel (take (i + 1) ids) o)
more_hits sel ids i id o a x y lt is new old =
    let all : take (i + 1) ids ≡ take i ids ++ id ∷ [] = take_more ids i id lt ∙ ap (λ (t : List ℕ). take i ids ++ t ∷ []) (sym is) in
    new ∙ ap (λ (b : Bool). b || is_hit sel (id ∷ []) o) old ∙ or_assoc a (is_hit sel (take i ids) o) (is_hit sel (id ∷ []) o)
    ∙ ap (λ (b : Bool). a || b) (sym (hit-append sel (take i ids) (id ∷ []) o) ∙ ap (λ (t : List (List ℕ)). is_hit sel t o) (sym all))

-- ---- one id

no_hit : (sel : List (List ℕ)) (id : List ℕ) (o : Option Entry) → has_id id o ≡ false → is_hit sel (id ∷ []) o ≡ false
unfolding has_text
no_hit sel id None h = refl
no_hit sel id (Some e) h = ap (λ (b : Bool). is_entitled sel e && (b || false)) (nat_list_eq_equiv.symm id e.id ∙ h) ∙ and_false (is_entitled sel e)

and_true : (a : Bool) → (a && true) ≡ a
and_true true = refl
and_true false = refl

yes_hit : (sel : List (List ℕ)) (id : List ℕ) (e : Entry) → bytes_eq e.id id ≡ true → is_hit sel (id ∷ []) (Some e) ≡ is_entitled sel e
unfolding has_text
yes_hit sel id e h = ap (λ (b : Bool). is_entitled sel e && (b || false)) (nat_list_eq_equiv.symm id e.id ∙ h) ∙ and_true (is_entitled sel e)

pub not_there : (sel : List (List ℕ)) (id : List ℕ) (o : Option Entry) (a : Bool) → has_id id o ≡ false → a ≡ (a || is_hit sel (id ∷ []) o)
not_there sel id o a h = sym (ap (λ (b : Bool). a || b) (no_hit sel id o h) ∙ or_false a)

module _ (sel : List (List ℕ)) (id : List ℕ) (xs : List Entry) (p : ℕ) (e : Entry) (at : slice_get xs p ≡ Some e) (only : (q : ℕ) → has_id id (slice_get xs q) ≡ (p == q)) where
  here : (q : ℕ) (t : Bool) → t ≡ (p == q) → is_hit sel (id ∷ []) (slice_get xs q) ≡ (t && is_entitled sel e)
  here q false t = no_hit sel id (slice_get xs q) (only q ∙ sym t)
  here q true t =
      let same : p ≡ q = grind (arith, nat_tests, t) in
      let found : slice_get xs q ≡ Some e = ap (slice_get xs) (sym same) ∙ at in
      let has : bytes_eq e.id id ≡ true = ap (has_id id) (sym found) ∙ only q ∙ sym t in
      ap (is_hit sel (id ∷ [])) found ∙ yes_hit sel id e has

  kept_by : (t a : Bool) → a ≡ (a || (t && false))
  kept_by true a = sym (or_false a)
  kept_by false a = sym (or_false a)

  pub passed : is_entitled sel e ≡ false → (q : ℕ) (a : Bool) → a ≡ (a || is_hit sel (id ∷ []) (slice_get xs q))
  passed h q a = kept_by (p == q) a ∙ ap (λ (b : Bool). a || b) (sym (here q (p == q) refl ∙ ap (λ (b : Bool). (p == q) && b) h))

  put_by : (t a : Bool) → cond t true a ≡ (a || (t && true))
  put_by true true = refl
  put_by true false = refl
  put_by false a = sym (or_false a)

  pub put_hit : is_entitled sel e ≡ true → (q : ℕ) (a b : Bool) → b ≡ cond (is_at (nat_cmp p) q) true a → b ≡ (a || is_hit sel (id ∷ []) (slice_get xs q))
  put_hit h q a b is = is ∙ ap (λ (c : Bool). cond c true a) (at_is p q) ∙ put_by (p == q) a ∙ ap (λ (c : Bool). a || c) (sym (here q (p == q) refl ∙ ap (λ (c : Bool). (p == q) && c) h))

-- ---- under each selector

pub reach_more : (f : List ℕ → List (List ℕ)) (sel : List (List ℕ)) (i : ℕ) (s : List ℕ) → i < length sel → s ≡ get_or sel i s
    → flat_map f ([] ∷ take (i + 1) sel) ≡ flat_map f ([] ∷ take i sel) ++ f s
reach_more f sel i s lt is =
    ap (λ (t : List (List ℕ)). flat_map f ([] ∷ t)) (take_more sel i s lt ∙ ap (λ (t : List ℕ). take i sel ++ t ∷ []) (sym is))
    ∙ flat_map-append f ([] ∷ take i sel) (s ∷ [])
    ∙ ap (λ (t : List (List ℕ)). flat_map f ([] ∷ take i sel) ++ t) (append-nil (f s))

pub reach_step : (f : List ℕ → List (List ℕ)) (sel ids : List (List ℕ)) (i : ℕ) (s : List ℕ) (o : Option Entry) (x y : Bool) → i < length sel → s ≡ get_or sel i s
    → x ≡ (y || is_hit sel ids o) → ids ≡ f s → y ≡ is_hit sel (flat_map f ([] ∷ take i sel)) o → x ≡ is_hit sel (flat_map f ([] ∷ take (i + 1) sel)) o
reach_step f sel ids i s o x y lt is new of old =
    new ∙ ap (λ (b : Bool). b || is_hit sel ids o) old ∙ ap (λ (t : List (List ℕ)). is_hit sel (flat_map f ([] ∷ take i sel)) o || is_hit sel t o) of
    ∙ sym (hit-append sel (flat_map f ([] ∷ take i sel)) (f s) o) ∙ ap (λ (t : List (List ℕ)). is_hit sel t o) (sym (reach_more f sel i s lt is))

-- ---- all of them

in_by : (f : List ℕ → List (List ℕ)) (y : List ℕ) (keys : List (List ℕ)) (k x : List ℕ) (t : Bool) → bytes_eq y k ≡ t → (t || has_text keys k) ≡ true → has_text (f k) x ≡ true
    → (has_text keys k ≡ true → has_text (flat_map f keys) x ≡ true) → (has_text (f y) x || has_text (flat_map f keys) x) ≡ true
in_by f y keys k x true t h g rest = or_left (has_text (f y) x) (has_text (flat_map f keys) x) (ap (λ (z : List ℕ). has_text (f z) x) ((bytes_decides y k).0 t) ∙ g)
in_by f y keys k x false t h g rest = or_right (has_text (f y) x) (has_text (flat_map f keys) x) (rest h)

none_there : (k : List ℕ) → has_text [] k ≡ true → ⊥
unfolding has_text
none_there k h = cc

has_there : (y : List ℕ) (keys : List (List ℕ)) (k : List ℕ) → has_text (y ∷ keys) k ≡ (bytes_eq y k || has_text keys k)
unfolding has_text
has_there y keys k = refl

has_text_in : (f : List ℕ → List (List ℕ)) (keys : List (List ℕ)) (k x : List ℕ) → has_text keys k ≡ true → has_text (f k) x ≡ true → has_text (flat_map f keys) x ≡ true
has_text_in f [] k x h g = absurd (none_there k h)
has_text_in f (y ∷ keys) k x h g =
    has_text_append (f y) (flat_map f keys) x ∙ in_by f y keys k x (bytes_eq y k) refl (sym (has_there y keys k) ∙ h) g (λ more. has_text_in f keys k x more g)

one_text : (b : Bool) (x : List ℕ) → b ≡ true → has_text (cond b (x ∷ []) []) x ≡ true
unfolding has_text
one_text true x h = or_left (bytes_eq x x) false (nat_list_eq_equiv.refl x)
one_text false x h = cc

under : (xs : List Entry) (q : ℕ) (e : Entry) → slice_get xs q ≡ Some e → has_text (ids_under (first_text e.selectors) xs) e.id ≡ true
under [] q e h = cc
under (x ∷ xs) zero e h =
    let same : x ≡ e = cc in
    let k = first_text e.selectors in
    ap (λ (ids : List (List ℕ)). has_text ids e.id) (ids_under-append k (x ∷ []) xs) ∙ has_text_append (ids_under k (x ∷ [])) (ids_under k xs) e.id
    ∙ or_left (has_text (ids_under k (x ∷ [])) e.id) (has_text (ids_under k xs) e.id)
    (ap (λ (y : Entry). has_text (ids_under k (y ∷ [])) e.id) same ∙ ap (λ (ids : List (List ℕ)). has_text ids e.id) (ids_one k e) ∙ one_text (bytes_eq k k) e.id (nat_list_eq_equiv.refl k))
under (x ∷ xs) (suc q) e h =
    let k = first_text e.selectors in
    ap (λ (ids : List (List ℕ)). has_text ids e.id) (ids_under-append k (x ∷ []) xs) ∙ has_text_append (ids_under k (x ∷ [])) (ids_under k xs) e.id
    ∙ or_right (has_text (ids_under k (x ∷ [])) e.id) (has_text (ids_under k xs) e.id) (under xs q e h)

key_among : (sel ts : List (List ℕ)) → has_texts sel ts ≡ true → has_text ([] ∷ sel) (first_text ts) ≡ true
unfolding has_texts has_text
key_among sel [] h = refl
key_among sel (t ∷ ts) h = or_right (bytes_eq [] t) (list_any (λ other. bytes_eq other t) sel) (and_parts (list_any (λ other. bytes_eq other t) sel) (list_all (has_text sel) ts) h).0

key_of : (sel : List (List ℕ)) (e : Entry) → is_entitled sel e ≡ true → has_text ([] ∷ sel) (first_text e.selectors) ≡ true
unfolding is_entitled
key_of sel e h = key_among sel e.selectors h

due_by : (t h : Bool) → (t ≡ true → h ≡ true) → (t && h) ≡ t
due_by true h imp = imp refl
due_by false h imp = refl

due_at : (sel : List (List ℕ)) (entries : List Entry) (postings : List Posting) → ((k : List ℕ) → ids_at postings k ≡ ids_under k entries) → (q : ℕ) (o : Option Entry) → slice_get entries q ≡ o
    → is_hit sel (flat_map (ids_at postings) ([] ∷ sel)) o ≡ passes (is_entitled sel) o
due_at sel entries postings filed q None is = refl
due_at sel entries postings filed q (Some e) is = due_by (is_entitled sel e) (has_text (flat_map (ids_at postings) ([] ∷ sel)) e.id)
    (λ yes. has_text_in (ids_at postings) ([] ∷ sel) (first_text e.selectors) e.id (key_of sel e yes)
    (ap (λ (ids : List (List ℕ)). has_text ids e.id) (filed (first_text e.selectors)) ∙ under entries q e is))

pub all_due : (sel : List (List ℕ)) (entries : List Entry) (postings : List Posting) → ((k : List ℕ) → ids_at postings k ≡ ids_under k entries) → (q : ℕ)
    → is_hit sel (flat_map (ids_at postings) ([] ∷ sel)) (slice_get entries q) ≡ passes (is_entitled sel) (slice_get entries q)
all_due sel entries postings filed q = due_at sel entries postings filed q (slice_get entries q) refl
