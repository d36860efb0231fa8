-- What is left where the tokens of some entries are dropped.
use Rattle.std.proofs.Common.{◌≡◌, ℕ, ◌+◌, ◌<◌, ◌||◌, Bool, true, false, cond, if◌then◌else◌, not, List, [], ◌∷◌, ◌++◌, take, get_or, filter, length, refl, sym, ap, ◌∙◌}
use Rattle.std.specs.Str.{bytes_eq}
use Rattle.std.specs.List.{list_any}
use Rattle.std.specs.Cmp.Lexicographic.{bytes_decides, nat_list_eq_equiv}
use Rattle.std.proofs.lemmas.List.{take_more}
use Rattle.std.proofs.lemmas.List.Folds.{list_any-append}
use Rattle.wl_selector.specs.Selectors.{has_text}
use Rattle.jwt_cache.specs.declared.rings.CachedToken.{CachedToken}
use Rattle.jwt_cache.specs.History.{last_of, is_of, ring_of}
use Rattle.jwt_cache.specs.Rings.{tokens_for, StandsFor}
use Rattle.wl_manager.specs.Tokens.{without_all}

turned_go : (a b : Bool) (xs ys : List ℕ) → bytes_eq xs ys ≡ a → bytes_eq ys xs ≡ b → a ≡ b
turned_go true true xs ys p q = refl
turned_go false false xs ys p q = refl
turned_go true false xs ys p q = sym (sym q ∙ ap (λ zs. bytes_eq zs xs) (sym ((bytes_decides xs ys).0 p)) ∙ nat_list_eq_equiv.refl xs) ∙ refl
turned_go false true xs ys p q = sym p ∙ ap (λ zs. bytes_eq xs zs) ((bytes_decides ys xs).0 q) ∙ nat_list_eq_equiv.refl xs

turned : (xs ys : List ℕ) → bytes_eq xs ys ≡ bytes_eq ys xs
turned xs ys = turned_go (bytes_eq xs ys) (bytes_eq ys xs) xs ys refl refl

-- ---- entry by entry

one_more : (a b : Bool) (old : List CachedToken) → (if b then [] else (if a then [] else old)) ≡ (if a || (b || false) then [] else old)
one_more true true old = refl
one_more true false old = refl
one_more false true old = refl
one_more false false old = refl

pub forgotten_more : (q id : List ℕ) (ids : List (List ℕ)) (i : ℕ) (old now new : List CachedToken) → i < length ids → id ≡ get_or ids i id
    → now ≡ (if has_text (take i ids) q then [] else old) → new ≡ (if bytes_eq q id then [] else now) → new ≡ (if has_text (take (i + 1) ids) q then [] else old)
unfolding has_text
forgotten_more q id ids i old now new below at is step =
    let more : take (i + 1) ids ≡ take i ids ++ id ∷ [] = take_more ids i id below ∙ ap (λ x. take i ids ++ x ∷ []) (sym at) in
    let has : list_any (λ o. bytes_eq o q) (take (i + 1) ids) ≡ (list_any (λ o. bytes_eq o q) (take i ids) || (bytes_eq q id || false)) =
    ap (list_any (λ o. bytes_eq o q)) more ∙ (list_any-append (λ o. bytes_eq o q) (take i ids) (id ∷ []) ∙ ap (λ b. list_any (λ o. bytes_eq o q) (take i ids) || (b || false)) (turned id q)) in
    step ∙ ap (λ l. if bytes_eq q id then [] else l) is ∙ one_more (list_any (λ o. bytes_eq o q) (take i ids)) (bytes_eq q id) old ∙ ap (λ b. if b then [] else old) (sym has)

-- ---- what the cache stands for

absurd_bool : {A : Type 0} → false ≡ true → A
absurd_bool is = cc

sift_go : (t b h : Bool) (q : List ℕ) (k : CachedToken) (rest all : List CachedToken) → is_of q k ≡ t → (t ≡ true → h ≡ b) → filter (is_of q) rest ≡ (if b then [] else all)
    → filter (is_of q) (cond (not h) (k ∷ rest) rest) ≡ (if b then [] else cond t (k ∷ all) all)
sift_go true true true q k rest all is same left = left
sift_go true true false q k rest all is same left = absurd_bool (same refl)
sift_go true false true q k rest all is same left = absurd_bool (sym (same refl))
sift_go true false false q k rest all is same left = ap (λ x. cond x (k ∷ filter (is_of q) rest) (filter (is_of q) rest)) is ∙ ap (λ l. k ∷ l) left
sift_go false b true q k rest all is same left = left
sift_go false b false q k rest all is same left = ap (λ x. cond x (k ∷ filter (is_of q) rest) (filter (is_of q) rest)) is ∙ left

same_owner : (ids : List (List ℕ)) (q : List ℕ) (k : CachedToken) → is_of q k ≡ true → has_text ids k.ask.entry_id ≡ has_text ids q
same_owner ids q k is = ap (has_text ids) (sym ((bytes_decides q k.ask.entry_id).0 is))

nothing : (b : Bool) (xs : List CachedToken) → xs ≡ [] → xs ≡ (if b then [] else xs)
nothing true xs is = is
nothing false xs is = refl

sifted : (ids : List (List ℕ)) (q : List ℕ) (history : List CachedToken) → filter (is_of q) (filter (λ k. not (has_text ids k.ask.entry_id)) history) ≡ (if has_text ids q then [] else filter (is_of q) history)
sifted ids q [] = nothing (has_text ids q) [] refl
sifted ids q (k ∷ ks) =
    sift_go (is_of q k) (has_text ids q) (has_text ids k.ask.entry_id) q k (filter (λ x. not (has_text ids x.ask.entry_id)) ks) (filter (is_of q) ks) refl (same_owner ids q k) (sifted ids q ks)

last_by : (b : Bool) (xs : List CachedToken) → (if b then [] else last_of 16 xs) ≡ last_of 16 (if b then [] else xs)
last_by true xs = refl
last_by false xs = refl

pub stands_without : (ids : List (List ℕ)) (rings next : List (List ℕ × List CachedToken)) (history : List CachedToken) → ((q : List ℕ) → tokens_for next q ≡ (if has_text ids q then [] else tokens_for rings q))
    → StandsFor rings history → StandsFor next (without_all ids history)
unfolding ring_of without_all
stands_without ids rings next history step s =
    record { each = λ q. step q ∙ (ap (λ l. if has_text ids q then [] else l) (s.each q) ∙ (last_by (has_text ids q) (filter (is_of q) history) ∙ ap (last_of 16) (sym (sifted ids q history)))) }
