-- What is filed after a change, and what entitles.
use Rattle.std.specs.Prelude.{◌≡◌, ◌||◌, ◌&&◌, ◌==◌, ◌<◌, ◌+◌, ℕ, zero, suc, Bool, true, false, List, [], ◌∷◌, ◌++◌, length, take, filter, slice_get, slice_index, remove, unwrap_or, Option, Some, None}
use Rattle.std.specs.Str.{bytes_eq}
use Rattle.std.specs.List.{list_any, list_all}
use Rattle.std.specs.Ordering.{nat_cmp}
use Rattle.std.specs.Cmp.Lexicographic.{slice_cmp}
use Rattle.std.specs.BTreeMap.{BTreeMap, get, is_at}
use Rattle.std.proofs.Common.{cond, get_or, refl, sym, ◌∙◌, ap, subst, arith}
use Rattle.std.proofs.lemmas.Bool.{and_parts}
use Rattle.std.proofs.lemmas.Bool.Decides.{nat_tests}
use Rattle.std.proofs.lemmas.List.{take_more}
use Rattle.std.proofs.lemmas.List.Folds.{list_any-append}
use Rattle.std.proofs.lemmas.List.Elements.{filter_more}
use Rattle.std.proofs.lemmas.Map.Text.{is_eq-slice_cmp}
use Rattle.wl_subscribe.proofs.Common.{bytes_are, same_bytes, has_text, is_entitled, Entry}
use Rattle.wl_selector.specs.Selectors.{has_texts}
use Rattle.wl_selector.proofs.Members.{has_text_append}
use Rattle.wl_subscribe.specs.Filed.{has_number, numbers_at, is_filed}

or_left : (a b : Bool) → a ≡ true → (a || b) ≡ true
or_left true b on = refl
or_left false b on = cc on

or_right : (a b : Bool) → b ≡ true → (a || b) ≡ true
or_right true b on = refl
or_right false b on = on

pub or_weakened : (a b c : Bool) → (b ≡ true → c ≡ true) → (a || b) ≡ true → (a || c) ≡ true
or_weakened true b c step has = refl
or_weakened false b c step has = step has

-- where one or the other is so, and the one is not
or_other : {P : Type 0} (a b : Bool) → (a ≡ true → P) → (b ≡ true → P) → (a || b) ≡ true → P
or_other true b one other has = one refl
or_other false b one other has = other has

-- ---- numbers

pub has_before : (ns ms : List ℕ) (n : ℕ) → has_number ns n ≡ true → has_number (ns ++ ms) n ≡ true
has_before [] ms n has = cc has
has_before (m ∷ ns) ms n has = or_weakened (m == n) _ _ (has_before ns ms n) has

pub has_last : (ns : List ℕ) (n : ℕ) → has_number (ns ++ n ∷ []) n ≡ true
has_last [] n = or_left (n == n) false (grind (arith, nat_tests))
has_last (m ∷ ns) n = or_right (m == n) _ (has_last ns n)

-- taking out another number leaves it there
pub has_taken : (ns : List ℕ) (place number n : ℕ) → place < length ns → slice_index ns place ≡ number → (n == number) ≡ false → has_number ns n ≡ true → has_number (remove ns place) n ≡ true
has_taken [] place number n lt at other has = cc has
has_taken (m ∷ ns) zero number n lt at other has = or_other (m == n) (has_number ns n) (λ is. absurd (grind (arith, nat_tests, is, at, other))) (λ there. there) has
has_taken (m ∷ ns) (suc place) number n lt at other has = or_weakened (m == n) _ _ (has_taken ns place number n (omega (arith, lt)) at other) has

-- where all are that number no other one is there
pub none_other : (ns : List ℕ) (number n : ℕ) → list_all (λ m. m == number) ns ≡ true → (n == number) ≡ false → has_number ns n ≡ true → ⊥
none_other [] number n all other has = cc has
none_other (m ∷ ns) number n all other has =
    let parts = and_parts (m == number) (list_all (λ k. k == number) ns) all in
    or_other (m == n) (has_number ns n) (λ is. let one = parts.0 in absurd (grind (arith, nat_tests, is, one, other))) (none_other ns number n parts.1 other) has

pub nothing_had : {P : Type 0} (l : List ℕ) (n : ℕ) → l ≡ [] → has_number l n ≡ true → P
nothing_had [] n none has = cc has
nothing_had (m ∷ l) n none has = cc none

-- ---- one change of what is filed

same_text : (k q : List ℕ) → is_at (slice_cmp nat_cmp k) q ≡ true → k ≡ q
same_text k q at = bytes_are k q (sym (is_eq-slice_cmp k q) ∙ at)

text_at : (k : List ℕ) → is_at (slice_cmp nat_cmp k) k ≡ true
text_at k = is_eq-slice_cmp k k ∙ same_bytes k

-- new is old with v at the selector k
abbrev pub PutsAt : BTreeMap (List ℕ) (List ℕ) → BTreeMap (List ℕ) (List ℕ) → List ℕ → Option (List ℕ) → Type 0
PutsAt old new k v = (q : List ℕ) → get (slice_cmp nat_cmp) new q ≡ cond (is_at (slice_cmp nat_cmp k) q) v (get (slice_cmp nat_cmp) old q)

changed_go : (old : BTreeMap (List ℕ) (List ℕ)) (k : List ℕ) (v : Option (List ℕ)) (text : List ℕ) (n : ℕ) (b : Bool) → is_at (slice_cmp nat_cmp k) text ≡ b
    → (has_number (numbers_at old k) n ≡ true → has_number (unwrap_or v []) n ≡ true) → has_number (numbers_at old text) n ≡ true → has_number (unwrap_or (cond b v (get (slice_cmp nat_cmp) old text)) []) n ≡ true
changed_go old k v text n true at grows was = grows (subst (λ t. has_number (numbers_at old t) n ≡ true) (sym (same_text k text at)) was)
changed_go old k v text n false at grows was = was

changed : (old new : BTreeMap (List ℕ) (List ℕ)) (k : List ℕ) (v : Option (List ℕ)) → PutsAt old new k v → (text : List ℕ) (n : ℕ) → (has_number (numbers_at old k) n ≡ true → has_number (unwrap_or v []) n ≡ true)
    → is_filed old text n ≡ true → is_filed new text n ≡ true
unfolding is_filed
changed old new k v up text n grows was =
    subst (λ (o : Option (List ℕ)). has_number (unwrap_or o []) n ≡ true) (sym (up text)) (changed_go old k v text n (is_at (slice_cmp nat_cmp k) text) refl grows was)

-- the numbers at a selector become others, which have those that were there
pub filed_put : (old new : BTreeMap (List ℕ) (List ℕ)) (k v : List ℕ) → PutsAt old new k (Some v) → ((n : ℕ) → has_number (numbers_at old k) n ≡ true → has_number v n ≡ true) → (text : List ℕ) (n : ℕ) → is_filed old text n ≡ true → is_filed new text n ≡ true
filed_put old new k v up grows text n was = changed old new k (Some v) up text n (grows n) was

pub filed_at : (old new : BTreeMap (List ℕ) (List ℕ)) (k v : List ℕ) → PutsAt old new k (Some v) → (n : ℕ) → has_number v n ≡ true → is_filed new k n ≡ true
unfolding is_filed
filed_at old new k v up n has =
    subst (λ (o : Option (List ℕ)). has_number (unwrap_or o []) n ≡ true) (sym (up k ∙ ap (λ b. cond b (Some v) (get (slice_cmp nat_cmp) old k)) (text_at k))) has

-- they become others, which have those that were there except for one
pub filed_taken : (old new : BTreeMap (List ℕ) (List ℕ)) (k v : List ℕ) (number : ℕ) → PutsAt old new k (Some v) → ((n : ℕ) → (n == number) ≡ false → has_number (numbers_at old k) n ≡ true → has_number v n ≡ true)
    → (text : List ℕ) (n : ℕ) → (n == number) ≡ false → is_filed old text n ≡ true → is_filed new text n ≡ true
filed_taken old new k v number up grows text n other was = changed old new k (Some v) up text n (grows n other) was

-- nothing is filed at a selector any more, where that one alone was
pub filed_gone : (old new : BTreeMap (List ℕ) (List ℕ)) (k : List ℕ) (number : ℕ) → PutsAt old new k None → list_all (λ m. m == number) (numbers_at old k) ≡ true
    → (text : List ℕ) (n : ℕ) → (n == number) ≡ false → is_filed old text n ≡ true → is_filed new text n ≡ true
filed_gone old new k number up all text n other was = changed old new k None up text n (λ had. absurd (none_other (numbers_at old k) number n all other had)) was

-- ---- texts among others

one_text : (s t : List ℕ) → has_text (s ∷ []) t ≡ true → s ≡ t
unfolding has_text
one_text s t has = go (bytes_eq s t) refl has
  where
    go : (b : Bool) → bytes_eq s t ≡ b → (b || false) ≡ true → s ≡ t
    go true is has = bytes_are s t is
    go false is has = cc has

-- one more of the texts
pub more_texts : (P : List ℕ → Type 0) (ts : List (List ℕ)) (i : ℕ) (s : List ℕ) → i < length ts → s ≡ get_or ts i s → ((t : List ℕ) → has_text (take i ts) t ≡ true → P t) → P s → (t : List ℕ) → has_text (take (i + 1) ts) t ≡ true → P t
more_texts P ts i s lt is before here t has =
    let all : take (i + 1) ts ≡ take i ts ++ s ∷ [] = take_more ts i s lt ∙ ap (λ (x : List ℕ). take i ts ++ x ∷ []) (sym is) in
    or_other (has_text (take i ts) t) (has_text (s ∷ []) t) (before t) (λ last. subst P (one_text s t last) here)
    (sym (has_text_append (take i ts) (s ∷ []) t) ∙ sym (ap (λ l. has_text l t) all) ∙ has)

pub text_at_place : (ts : List (List ℕ)) (i : ℕ) (s : List ℕ) → i < length ts → s ≡ get_or ts i s → has_text ts s ≡ true
unfolding has_text
text_at_place [] i s lt is = absurd (omega (arith, lt))
text_at_place (t ∷ ts) zero s lt is = or_left (bytes_eq t s) _ (ap (λ x. bytes_eq x s) (sym is) ∙ same_bytes s)
text_at_place (t ∷ ts) (suc i) s lt is = or_right (bytes_eq t s) _ (text_at_place ts i s (omega (arith, lt)) is)

subset_has : (sel ts : List (List ℕ)) → has_texts sel ts ≡ true → (t : List ℕ) → has_text ts t ≡ true → has_text sel t ≡ true
unfolding has_texts has_text
subset_has sel [] on t has = cc has
subset_has sel (s ∷ ts) on t has =
    let parts = and_parts (has_text sel s) (list_all (has_text sel) ts) on in
    or_other (bytes_eq s t) (has_text ts t) (λ is. subst (λ x. has_text sel x ≡ true) (bytes_are s t is) parts.0) (subset_has sel ts parts.1 t) has

-- one who is entitled to an entry has each of its selectors
pub entitled_has : (sel : List (List ℕ)) (e : Entry) → is_entitled sel e ≡ true → (t : List ℕ) → has_text e.selectors t ≡ true → has_text sel t ≡ true
unfolding is_entitled
entitled_has sel e on = subset_has sel e.selectors on

-- found under a number, where entitled
pub and_found : (has on : Bool) → (on ≡ true → has ≡ true) → (has && on) ≡ on
and_found true on found = refl
and_found false true found = found refl
and_found false false found = refl

-- ---- who is hit

or_off : (b : Bool) → (b || false) ≡ b
or_off true = refl
or_off false = refl

pub more_numbers : (ns : List ℕ) (i m n : ℕ) → i < length ns → m ≡ get_or ns i 0 → has_number (take (i + 1) ns) n ≡ (has_number (take i ns) n || (m == n))
more_numbers ns i m n lt is =
    ap (λ l. has_number l n) (take_more ns i 0 lt ∙ ap (λ x. take i ns ++ x ∷ []) (sym is))
    ∙ list_any-append (λ k. k == n) (take i ns) (m ∷ []) ∙ ap (λ b. has_number (take i ns) n || b) (or_off (m == n))

-- those of one item more that pass a test
pub more_passing : {X : Type 0} (t on : X → Bool) (xs : List X) (i : ℕ) (x : X) → i < length xs → x ≡ get_or xs i x → list_any on (filter t (take (i + 1) xs)) ≡ (list_any on (filter t (take i xs)) || (t x && on x))
more_passing t on xs i x lt is =
    ap (λ l. list_any on l) (filter_more t xs i x lt ∙ ap (λ y. filter t (take i xs) ++ cond (t y) (y ∷ []) []) (sym is))
    ∙ list_any-append on (filter t (take i xs)) (cond (t x) (x ∷ []) []) ∙ ap (λ b. list_any on (filter t (take i xs)) || b) (one (t x) (on x))
  where
    one : (b c : Bool) → list_any on (cond b (x ∷ []) []) ≡ (b && on x)
    one true c = or_off (on x)
    one false c = refl

pub hit_more : (new mid old before this after on : Bool) → new ≡ (mid || (this && on)) → mid ≡ (old || (before && on)) → after ≡ (before || this) → new ≡ (old || (after && on))
hit_more new mid old before this after on now earlier all = now ∙ ap (λ b. b || (this && on)) earlier ∙ by old before this on ∙ sym (ap (λ b. old || (b && on)) all)
  where
    by : (a b c d : Bool) → ((a || (b && d)) || (c && d)) ≡ (a || ((b || c) && d))
    by true b c d = refl
    by false true true true = refl
    by false true true false = refl
    by false true false true = refl
    by false true false false = refl
    by false false c d = refl

-- one after another
pub hit_both : (new mid old one other both : Bool) → new ≡ (mid || other) → mid ≡ (old || one) → both ≡ (one || other) → new ≡ (old || both)
hit_both new mid old one other both now earlier all = now ∙ ap (λ b. b || other) earlier ∙ by old one other ∙ sym (ap (λ b. old || b) all)
  where
    by : (a b c : Bool) → ((a || b) || c) ≡ (a || (b || c))
    by true b c = refl
    by false b c = refl

pub hit_same : (new old none : Bool) → new ≡ old → none ≡ false → new ≡ (old || none)
hit_same new old none same off = same ∙ keep old ∙ sym (ap (λ b. old || b) off)
  where
    keep : (a : Bool) → a ≡ (a || false)
    keep true = refl
    keep false = refl

all_of_none : (sel ts : List (List ℕ)) → ts ≡ [] → has_texts sel ts ≡ true
unfolding has_texts
all_of_none sel [] none = refl
all_of_none sel (t ∷ ts) none = cc none

pub first_missing : {X : Type 0} (xs : List X) → None ≡ slice_get xs 0 → xs ≡ []
first_missing [] none = refl
first_missing (x ∷ xs) none = cc none

pub first_there : (ts : List (List ℕ)) (t : List ℕ) → Some t ≡ slice_get ts 0 → has_text ts t ≡ true
unfolding has_text
first_there [] t is = cc is
first_there (s ∷ ts) t is = or_left (bytes_eq s t) _ (ap (λ x. bytes_eq x t) (let same : s ≡ t = cc is in same) ∙ same_bytes t)

-- everyone is entitled to an entry without selectors
pub entitled_to_open : (sel : List (List ℕ)) (e : Entry) → e.selectors ≡ [] → is_entitled sel e ≡ true
unfolding is_entitled
entitled_to_open sel e none = all_of_none sel e.selectors none

pub or_true : (a b : Bool) → b ≡ true → true ≡ (a || b)
or_true true b on = refl
or_true false b on = sym on

-- what is hit from the start, or by the one or the other
pub hit_all : (new mid all one other both : Bool) → new ≡ (mid || other) → mid ≡ ((all || false) || one) → both ≡ (one || other) → new ≡ (all || both)
hit_all new mid all one other both now earlier are = now ∙ ap (λ b. b || other) earlier ∙ by all one other ∙ sym (ap (λ b. all || b) are)
  where
    by : (a b c : Bool) → (((a || false) || b) || c) ≡ (a || (b || c))
    by true b c = refl
    by false b c = refl

pub no_text : {P : Type 0} (t : List ℕ) → has_text [] t ≡ true → P
unfolding has_text
no_text t has = cc has
