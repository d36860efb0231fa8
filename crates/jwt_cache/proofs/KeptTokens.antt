-- What is kept for each entry.
use Rattle.std.proofs.Common.{◌≡◌, Vec, Global, option_map, Ordering, Less, Equal, Greater, ℕ, ◌+◌, ◌-◌, ◌≤◌, Bool, true, false, cond, if◌then◌else◌, not, List, [], ◌∷◌, ◌++◌, map, filter, length, drop, unwrap_or, Option, Some, None, refl, sym, ap, ◌∙◌, length-append, length-drop, arith, append-nil}
use Rattle.std.specs.Str.{bytes_eq}
use Rattle.std.specs.Map.{lookup, set_value, remove_entry}
use Rattle.std.specs.BTreeMap.{insert_entry}
use Rattle.wl_entry.specs.declared.asks.Ask.{Ask}
use Rattle.std.proofs.lemmas.List.Elements.{filter-append}
use Rattle.std.proofs.lemmas.List.{drop-append-le, drop-drop}
use Rattle.std.specs.Ordering.{nat_cmp, is_eq, match_ordering}
use Rattle.std.specs.Cmp.Lexicographic.{slice_cmp, bytes_decides, nat_list_eq_equiv}
use Rattle.std.proofs.lemmas.Map.Text.{is_eq-slice_cmp}
use Rattle.jwt_cache.specs.declared.rings.CachedToken.{CachedToken}
use Rattle.jwt_cache.specs.History.{last_of, is_of, ring_of, without_entry, newest, is_of_use, find_among, find_in}
use Rattle.jwt_cache.specs.Rings.{tokens_for, StandsFor}

-- ---- the last of a list

pub last_last : {A : Type 0} (n : ℕ) (xs : List A) (x : A) → last_of n (last_of n xs ++ x ∷ []) ≡ last_of n (xs ++ x ∷ [])
last_last n xs x =
    let d = length xs - n in
    let e = length (drop d xs ++ x ∷ []) - n in
    let count : length (xs ++ x ∷ []) - n ≡ d + e = omega (arith, length-append xs (x ∷ []), length-append (drop d xs) (x ∷ []), length-drop d xs) in
    let within : d ≤ length xs = omega arith in
    let cut : drop d (xs ++ x ∷ []) ≡ drop d xs ++ x ∷ [] = drop-append-le d xs (x ∷ []) within in
    ap (drop e) (sym cut) ∙ drop-drop e d (xs ++ x ∷ []) ∙ ap (λ (m : ℕ). drop m (xs ++ x ∷ [])) (sym count)

-- ---- one more

-- what is kept after one more, of an entry and of the others
one_by : (b : Bool) (k : CachedToken) → filter (λ x. b) (k ∷ []) ≡ cond b (k ∷ []) []
one_by true k = refl
one_by false k = refl

next_by : (b : Bool) (xs : List CachedToken) (k : CachedToken) → (if b then last_of 16 (last_of 16 xs ++ k ∷ []) else last_of 16 xs) ≡ last_of 16 (xs ++ cond b (k ∷ []) [])
next_by true xs k = last_last 16 xs k
next_by false xs k = ap (last_of 16) (sym (append-nil xs))

single : (b : Bool) (k : CachedToken) → cond b (k ∷ []) [] ≡ (if b then k ∷ [] else [])
single b k = refl

pub ring-push : (history : List CachedToken) (k : CachedToken) (q : List ℕ) → (if is_of q k then last_of 16 (ring_of history q ++ k ∷ []) else ring_of history q) ≡ ring_of (history ++ k ∷ []) q
unfolding ring_of
ring-push history k q = next_by (is_of q k) (filter (is_of q) history) k ∙ ap (last_of 16) (sym (filter-append (is_of q) history (k ∷ [])))

-- ---- by the bytes of a key

abbrev pub finds : List ℕ → Vec ℕ Global → Bool
finds q k = is_eq (slice_cmp nat_cmp q k.items)

abbrev pub vec_cmp : Vec ℕ Global → Vec ℕ Global → Ordering
vec_cmp a b = slice_cmp nat_cmp a.items b.items

same : (a b : List ℕ) → bytes_eq a b ≡ true → a ≡ b
same a b h = (bytes_decides a b).0 h

same_order : (a b : List ℕ) → slice_cmp nat_cmp a b ≡ Equal → a ≡ b
same_order a b h = same a b (sym (is_eq-slice_cmp a b) ∙ ap is_eq h)

itself : (a : List ℕ) → bytes_eq a a ≡ true
itself a = nat_list_eq_equiv.refl a

pub kept_bytes : (id : List ℕ) (es : List (Vec ℕ Global × List CachedToken)) → lookup (bytes_eq id) (map (λ e. ((e.0).items, e.1)) es) ≡ lookup (finds id) es
kept_bytes id [] = refl
kept_bytes id (e ∷ es) = rw (is_eq-slice_cmp id (e.0).items) (ap (cond (bytes_eq id (e.0).items) (Some e.1)) (kept_bytes id es))

twice : {A : Type 0} (b : Bool) (x y z : A) → cond b x z ≡ cond b x (cond b y z)
twice true x y z = refl
twice false x y z = refl

swap : {A : Type 0} (t b : Bool) (x y z : A) → (t ≡ true → b ≡ true → ⊥) → cond t y (cond b x z) ≡ cond b x (cond t y z)
swap true true x y z h = absurd (h refl refl)
swap true false x y z h = refl
swap false true x y z h = refl
swap false false x y z h = refl

insert_go : (o : Ordering) (q : List ℕ) (key : Vec ℕ Global) (v : List CachedToken) (e : Vec ℕ Global × List CachedToken) (es rest : List (Vec ℕ Global × List CachedToken)) → vec_cmp key e.0 ≡ o
    → lookup (finds q) rest ≡ cond (bytes_eq q key.items) (Some v) (lookup (finds q) es)
    → lookup (finds q) (match_ordering o ((key, v) ∷ e ∷ es) ((e.0, v) ∷ es) (e ∷ rest)) ≡ cond (bytes_eq q key.items) (Some v) (cond (finds q e.0) (Some e.1) (lookup (finds q) es))
insert_go Less q key v e es rest is h = ap (λ (b : Bool). cond b (Some v) (cond (finds q e.0) (Some e.1) (lookup (finds q) es))) (is_eq-slice_cmp q key.items)
insert_go Equal q key v e es rest is h =
    let one : key.items ≡ (e.0).items = same_order key.items (e.0).items is in
    let test : finds q e.0 ≡ bytes_eq q key.items = is_eq-slice_cmp q (e.0).items ∙ ap (bytes_eq q) (sym one) in
    rw test (twice (bytes_eq q key.items) (Some v) (Some e.1) (lookup (finds q) es))
insert_go Greater q key v e es rest is h =
    ap (cond (finds q e.0) (Some e.1)) h ∙ swap (finds q e.0) (bytes_eq q key.items) (Some v) (Some e.1) (lookup (finds q) es)
    (λ t b. let here = same q (e.0).items (sym (is_eq-slice_cmp q (e.0).items) ∙ t) in
    let there = same q key.items b in
    let equal : bytes_eq key.items (e.0).items ≡ true = ap (λ (x : List ℕ). bytes_eq x (e.0).items) (sym there) ∙ ap (bytes_eq q) (sym here) ∙ itself q in
    let apart : bytes_eq key.items (e.0).items ≡ false = sym (is_eq-slice_cmp key.items (e.0).items) ∙ ap is_eq is in
    cc)

insert_finds : (q : List ℕ) (key : Vec ℕ Global) (v : List CachedToken) (es : List (Vec ℕ Global × List CachedToken)) → lookup (finds q) (insert_entry vec_cmp es key v) ≡ cond (bytes_eq q key.items) (Some v) (lookup (finds q) es)
insert_finds q key v [] = ap (λ (b : Bool). cond b (Some v) None) (is_eq-slice_cmp q key.items)
insert_finds q key v (e ∷ es) = insert_go (vec_cmp key e.0) q key v e es (insert_entry vec_cmp es key v) refl (insert_finds q key v es)

abbrev pub with_value : {A : Type 0} → A → Option A → Option A
with_value w None = None
with_value w (Some v) = Some w

set_go : (t : Bool) (q id : List ℕ) (w : List CachedToken) (e : Vec ℕ Global × List CachedToken) (es rest : List (Vec ℕ Global × List CachedToken)) → finds id e.0 ≡ t
    → lookup (finds q) rest ≡ cond (bytes_eq q id) (with_value w (lookup (finds id) es)) (lookup (finds q) es)
    → lookup (finds q) (cond t ((e.0, w) ∷ es) (e ∷ rest)) ≡ cond (bytes_eq q id) (with_value w (cond t (Some e.1) (lookup (finds id) es))) (cond (finds q e.0) (Some e.1) (lookup (finds q) es))
set_go true q id w e es rest is h =
    let one : id ≡ (e.0).items = same id (e.0).items (sym (is_eq-slice_cmp id (e.0).items) ∙ is) in
    let test : finds q e.0 ≡ bytes_eq q id = is_eq-slice_cmp q (e.0).items ∙ ap (bytes_eq q) (sym one) in
    rw test (twice (bytes_eq q id) (Some w) (Some e.1) (lookup (finds q) es))
set_go false q id w e es rest is h =
    ap (cond (finds q e.0) (Some e.1)) h ∙ swap (finds q e.0) (bytes_eq q id) (with_value w (lookup (finds id) es)) (Some e.1) (lookup (finds q) es)
    (λ t b. let there = same q id b in
    let yes : finds id e.0 ≡ true = ap (λ (x : List ℕ). finds x e.0) (sym there) ∙ t in
    cc)

nothing : (b : Bool) → cond b (with_value {A = List CachedToken} [] None) None ≡ None
nothing true = refl
nothing false = refl

set_finds : (q id : List ℕ) (w : List CachedToken) (es : List (Vec ℕ Global × List CachedToken)) → lookup (finds q) (set_value (finds id) es w) ≡ cond (bytes_eq q id) (with_value w (lookup (finds id) es)) (lookup (finds q) es)
set_finds q id w [] = sym (nothing (bytes_eq q id))
set_finds q id w (e ∷ es) = set_go (finds id e.0) q id w e es (set_value (finds id) es w) refl (set_finds q id w es)

take_go : (t : Bool) (q id : List ℕ) (e : Vec ℕ Global × List CachedToken) (es rest : List (Vec ℕ Global × List CachedToken)) → finds id e.0 ≡ t → bytes_eq q id ≡ false
    → lookup (finds q) rest ≡ lookup (finds q) es → lookup (finds q) (cond t es (e ∷ rest)) ≡ cond (finds q e.0) (Some e.1) (lookup (finds q) es)
take_go true q id e es rest is off h =
    let one : id ≡ (e.0).items = same id (e.0).items (sym (is_eq-slice_cmp id (e.0).items) ∙ is) in
    let test : finds q e.0 ≡ false = is_eq-slice_cmp q (e.0).items ∙ ap (bytes_eq q) (sym one) ∙ off in
    sym (ap (λ (b : Bool). cond b (Some e.1) (lookup (finds q) es)) test)
take_go false q id e es rest is off h = ap (cond (finds q e.0) (Some e.1)) h

take_finds : (q id : List ℕ) (es : List (Vec ℕ Global × List CachedToken)) → bytes_eq q id ≡ false → lookup (finds q) (remove_entry (finds id) es) ≡ lookup (finds q) es
take_finds q id [] off = refl
take_finds q id (e ∷ es) off = take_go (finds id e.0) q id e es (remove_entry (finds id) es) refl off (take_finds q id es off)

-- ---- one more is put

put_by : (b : Bool) (q id : List ℕ) (old : Option (List CachedToken)) (at_id : Option (List CachedToken)) (k : CachedToken) → (b ≡ true → old ≡ at_id)
    → unwrap_or (cond b (Some (last_of 16 (unwrap_or at_id [] ++ k ∷ []))) old) [] ≡ (if b then last_of 16 (unwrap_or old [] ++ k ∷ []) else unwrap_or old [])
put_by true q id old at_id k h = ap (λ (o : Option (List CachedToken)). last_of 16 (unwrap_or o [] ++ k ∷ [])) (sym (h refl))
put_by false q id old at_id k h = refl

pub put_some : (q id : List ℕ) (es n : List (Vec ℕ Global × List CachedToken)) (ring w : List CachedToken) (k : CachedToken) → n ≡ set_value (finds id) es w → lookup (finds id) es ≡ Some ring → w ≡ last_of 16 (ring ++ k ∷ [])
    → unwrap_or (lookup (finds q) n) [] ≡ (if bytes_eq q id then last_of 16 (unwrap_or (lookup (finds q) es) [] ++ k ∷ []) else unwrap_or (lookup (finds q) es) [])
put_some q id es n ring w k is at by =
    let found : lookup (finds q) n ≡ cond (bytes_eq q id) (Some (last_of 16 (unwrap_or (lookup (finds id) es) [] ++ k ∷ []))) (lookup (finds q) es) =
    ap (lookup (finds q)) is ∙ set_finds q id w es ∙ ap (λ (o : Option (List CachedToken)). cond (bytes_eq q id) o (lookup (finds q) es)) (ap (with_value w) at ∙ ap (λ (r : List CachedToken). Some r) (by ∙ ap (λ (o : Option (List CachedToken)). last_of 16 (unwrap_or o [] ++ k ∷ [])) (sym at))) in
    ap (λ (o : Option (List CachedToken)). unwrap_or o []) found ∙ put_by (bytes_eq q id) q id (lookup (finds q) es) (lookup (finds id) es) k (λ b. ap (λ (x : List ℕ). lookup (finds x) es) (same q id b))

pub put_none : (q : List ℕ) (key : Vec ℕ Global) (es n : List (Vec ℕ Global × List CachedToken)) (v : List CachedToken) (k : CachedToken) → n ≡ insert_entry vec_cmp es key v → None ≡ lookup (finds key.items) es → v ≡ last_of 16 (k ∷ [])
    → unwrap_or (lookup (finds q) n) [] ≡ (if bytes_eq q key.items then last_of 16 (unwrap_or (lookup (finds q) es) [] ++ k ∷ []) else unwrap_or (lookup (finds q) es) [])
put_none q key es n v k is off by =
    let found : lookup (finds q) n ≡ cond (bytes_eq q key.items) (Some (last_of 16 (unwrap_or (lookup (finds key.items) es) [] ++ k ∷ []))) (lookup (finds q) es) =
    ap (lookup (finds q)) is ∙ insert_finds q key v es ∙ ap (λ (r : List CachedToken). cond (bytes_eq q key.items) (Some r) (lookup (finds q) es)) (by ∙ ap (λ (o : Option (List CachedToken)). last_of 16 (unwrap_or o [] ++ k ∷ [])) off) in
    ap (λ (o : Option (List CachedToken)). unwrap_or o []) found ∙ put_by (bytes_eq q key.items) q key.items (lookup (finds q) es) (lookup (finds key.items) es) k (λ b. ap (λ (x : List ℕ). lookup (finds x) es) (same q key.items b))

-- ---- what is found

pub find_none : (ask : Ask) (audience : List (List ℕ)) (since now : ℕ) (es : List (Vec ℕ Global × List CachedToken)) (rings : List (List ℕ × List CachedToken)) → map (λ e. ((e.0).items, e.1)) es ≡ rings
    → None ≡ lookup (finds ask.entry_id) es → None ≡ find_among ask audience since now (tokens_for rings ask.entry_id)
unfolding find_among
find_none ask audience since now es rings view off =
    let none : lookup (bytes_eq ask.entry_id) rings ≡ None = ap (lookup (bytes_eq ask.entry_id)) (sym view) ∙ kept_bytes ask.entry_id es ∙ sym off in
    rw none refl

pub find_some : (ask : Ask) (audience wanted : List (List ℕ)) (since now : ℕ) (es : List (Vec ℕ Global × List CachedToken)) (rings : List (List ℕ × List CachedToken)) (ring : List CachedToken) (o : Option CachedToken) → map (λ e. ((e.0).items, e.1)) es ≡ rings
    → Some ring ≡ lookup (finds ask.entry_id) es → wanted ≡ audience → o ≡ newest (is_of_use ask wanted since now) ring → option_map (λ k. k.token) o ≡ find_among ask audience since now (tokens_for rings ask.entry_id)
unfolding find_among
find_some ask audience wanted since now es rings ring o view at same_audience is =
    let some : lookup (bytes_eq ask.entry_id) rings ≡ Some ring = ap (lookup (bytes_eq ask.entry_id)) (sym view) ∙ kept_bytes ask.entry_id es ∙ sym at in
    rw some (ap (option_map (λ k. k.token)) (is ∙ ap (λ (a : List (List ℕ)). newest (is_of_use ask a since now) ring) same_audience))

-- ---- as the cache is seen

pub kept_put : (q : List ℕ) (es n : List (Vec ℕ Global × List CachedToken)) (rings : List (List ℕ × List CachedToken)) (k : CachedToken) → map (λ e. ((e.0).items, e.1)) es ≡ rings
    → unwrap_or (lookup (finds q) n) [] ≡ (if is_of q k then last_of 16 (unwrap_or (lookup (finds q) es) [] ++ k ∷ []) else unwrap_or (lookup (finds q) es) [])
    → tokens_for (map (λ e. ((e.0).items, e.1)) n) q ≡ (if is_of q k then last_of 16 (tokens_for rings q ++ k ∷ []) else tokens_for rings q)
kept_put q es n rings k seen h =
    let old : unwrap_or (lookup (finds q) es) [] ≡ tokens_for rings q = ap (λ (o : Option (List CachedToken)). unwrap_or o []) (sym (kept_bytes q es)) ∙ ap (λ (r : List (List ℕ × List CachedToken)). tokens_for r q) seen in
    ap (λ (o : Option (List CachedToken)). unwrap_or o []) (kept_bytes q n) ∙ h ∙ ap (λ (r : List CachedToken). if is_of q k then last_of 16 (r ++ k ∷ []) else r) old

pub stands_more : (rings next : List (List ℕ × List CachedToken)) (history : List CachedToken) (k : CachedToken) → ((q : List ℕ) → tokens_for next q ≡ (if is_of q k then last_of 16 (tokens_for rings q ++ k ∷ []) else tokens_for rings q))
    → StandsFor rings history → StandsFor next (history ++ k ∷ [])
stands_more rings next history k step s =
    record { each = λ q. step q ∙ ap (λ (r : List CachedToken). if is_of q k then last_of 16 (r ++ k ∷ []) else r) (s.each q) ∙ ring-push history k q }

pub stands_found : (rings : List (List ℕ × List CachedToken)) (history : List CachedToken) (ask : Ask) (audience : List (List ℕ)) (since now : ℕ) → StandsFor rings history
    → find_among ask audience since now (tokens_for rings ask.entry_id) ≡ find_in history ask audience since now
unfolding find_in
stands_found rings history ask audience since now s = ap (find_among ask audience since now) (s.each ask.entry_id)

-- ---- without an entry

forget_by : (b : Bool) (q id : List ℕ) (es n : List (Vec ℕ Global × List CachedToken)) → bytes_eq q id ≡ b → n ≡ remove_entry (finds id) es → lookup (finds id) n ≡ None
    → unwrap_or (lookup (finds q) n) [] ≡ (if b then [] else unwrap_or (lookup (finds q) es) [])
forget_by true q id es n is gone off = ap (λ (x : List ℕ). unwrap_or (lookup (finds x) n) []) (same q id is) ∙ ap (λ (o : Option (List CachedToken)). unwrap_or o []) off
forget_by false q id es n is gone off = ap (λ (o : Option (List CachedToken)). unwrap_or o []) (ap (lookup (finds q)) gone ∙ take_finds q id es is)

pub kept_less : (q id : List ℕ) (es n : List (Vec ℕ Global × List CachedToken)) (rings : List (List ℕ × List CachedToken)) → map (λ e. ((e.0).items, e.1)) es ≡ rings → n ≡ remove_entry (finds id) es → lookup (finds id) n ≡ None
    → tokens_for (map (λ e. ((e.0).items, e.1)) n) q ≡ (if bytes_eq q id then [] else tokens_for rings q)
kept_less q id es n rings seen gone off =
    let old : unwrap_or (lookup (finds q) es) [] ≡ tokens_for rings q = ap (λ (o : Option (List CachedToken)). unwrap_or o []) (sym (kept_bytes q es)) ∙ ap (λ (r : List (List ℕ × List CachedToken)). tokens_for r q) seen in
    ap (λ (o : Option (List CachedToken)). unwrap_or o []) (kept_bytes q n) ∙ forget_by (bytes_eq q id) q id es n refl gone off ∙ ap (λ (r : List CachedToken). if bytes_eq q id then [] else r) old

pub none_kept : (id : List ℕ) (es : List (Vec ℕ Global × List CachedToken)) → lookup (finds id) es ≡ None → lookup (bytes_eq id) (map (λ e. ((e.0).items, e.1)) es) ≡ None
none_kept id es off = kept_bytes id es ∙ off

none_go : (s : Bool) (id : List ℕ) (k : CachedToken) (rest : List CachedToken) → is_of id k ≡ s → filter (is_of id) rest ≡ [] → filter (is_of id) (cond (not s) (k ∷ rest) rest) ≡ []
none_go true id k rest is h = h
none_go false id k rest is h = ap (λ (b : Bool). cond b (k ∷ filter (is_of id) rest) (filter (is_of id) rest)) is ∙ h

none_left : (id : List ℕ) (ks : List CachedToken) → filter (is_of id) (filter (λ k. not (is_of id k)) ks) ≡ []
none_left id [] = refl
none_left id (k ∷ ks) = none_go (is_of id k) id k (filter (λ x. not (is_of id x)) ks) refl (none_left id ks)

other_go : (s t : Bool) (q : List ℕ) (k : CachedToken) (rest all : List CachedToken) → is_of q k ≡ t → (s ≡ true → t ≡ true → ⊥) → filter (is_of q) rest ≡ all → filter (is_of q) (cond (not s) (k ∷ rest) rest) ≡ cond t (k ∷ all) all
other_go true true q k rest all is apart h = absurd (apart refl refl)
other_go true false q k rest all is apart h = h
other_go false t q k rest all is apart h = ap (λ (b : Bool). cond b (k ∷ filter (is_of q) rest) (filter (is_of q) rest)) is ∙ ap (λ (r : List CachedToken). cond t (k ∷ r) r) h

others_stay : (q id : List ℕ) (ks : List CachedToken) → bytes_eq q id ≡ false → filter (is_of q) (filter (λ k. not (is_of id k)) ks) ≡ filter (is_of q) ks
others_stay q id [] off = refl
others_stay q id (k ∷ ks) off = other_go (is_of id k) (is_of q k) q k (filter (λ x. not (is_of id x)) ks) (filter (is_of q) ks) refl
    (λ s t. let one = same id k.ask.entry_id s in
    let two = same q k.ask.entry_id t in
    let equal : bytes_eq q id ≡ true = ap (bytes_eq q) (one ∙ sym two) ∙ itself q in
    cc)
    (others_stay q id ks off)

left_by : (b : Bool) (q id : List ℕ) (ks : List CachedToken) → bytes_eq q id ≡ b → (if b then [] else ring_of ks q) ≡ ring_of (without_entry id ks) q
unfolding ring_of without_entry
left_by true q id ks is = sym (ap (λ (x : List ℕ). last_of 16 (filter (is_of x) (filter (λ k. not (is_of id k)) ks))) (same q id is) ∙ ap (last_of 16) (none_left id ks))
left_by false q id ks is = ap (last_of 16) (sym (others_stay q id ks is))

pub stands_less : (rings next : List (List ℕ × List CachedToken)) (history : List CachedToken) (id : List ℕ) → ((q : List ℕ) → tokens_for next q ≡ (if bytes_eq q id then [] else tokens_for rings q))
    → StandsFor rings history → StandsFor next (without_entry id history)
stands_less rings next history id step s =
    record { each = λ q. step q ∙ ap (λ (r : List CachedToken). if bytes_eq q id then [] else r) (s.each q) ∙ left_by (bytes_eq q id) q id history refl }
