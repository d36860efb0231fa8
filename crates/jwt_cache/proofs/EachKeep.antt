-- What holds of each keep holds of those that stay and of the token that is found.
use Rattle.std.specs.Prelude.{◌≡◌, ℕ, ◌&&◌, ◌-◌, Bool, nat_le, true, false, if◌then◌else◌, List, [], ◌∷◌, ◌++◌, length, filter, option_map, Option, Some, None}
use Rattle.std.specs.Str.{bytes_eq}
use Rattle.std.specs.List.{AllByRecursion, last_or}
use Rattle.std.specs.Cmp.Lexicographic.{pointwise}
use Rattle.std.proofs.Common.{refl, subst}
use Rattle.std.proofs.lemmas.Bool.{and_parts}
use Rattle.list_laws.proofs.Elements.{all_append, all_drop}
use Rattle.wl_entry.specs.Same.{same_ask}
use Rattle.list_laws.proofs.Equality.{texts_are}
use Rattle.wl_entry.proofs.Sames.{ask_is}
use Rattle.wl_entry.specs.Fitness.{is_still_fresh}
use Rattle.wl_entry.specs.declared.asks.Ask.{Ask}
use Rattle.wl_entry.specs.declared.tokens.JwtToken.{JwtToken}
use Rattle.jwt_cache.specs.declared.rings.CachedToken.{CachedToken}
use Rattle.jwt_cache.specs.History.{last_of, is_of_use, newest, find_among}

-- ---- those that stay

-- one more is kept, and the oldest may be pushed out
pub last_holds : {A : Type 0} (P : A → Type 0) (n : ℕ) (xs : List A) (x : A) → AllByRecursion P xs → P x → AllByRecursion P (last_of n (xs ++ x ∷ []))
last_holds P n xs x all one = all_drop P (length (xs ++ x ∷ []) - n) (xs ++ x ∷ []) (all_append P xs (x ∷ []) all (one, tt))

-- ---- the one that is found

-- what holds of an item that passes the test
abbrev Passing : {A : Type 0} → (A → Type 0) → (A → Bool) → Option A → Type 0
Passing {A} P test o = (x : A) → o ≡ Some x → P x × (test x ≡ true)

last_go : {A : Type 0} (P : A → Type 0) (test : A → Bool) (before : Option A) (x : A) (fs : List A) (b : Bool) → test x ≡ b → P x → Passing P test before
    → ((o : Option A) → Passing P test o → Passing P test (last_or o fs)) → Passing P test (last_or before (if b then x ∷ fs else fs))
last_go P test before x fs true is one prior step = step (Some x) (λ y found. let same : x ≡ y = cc in subst (λ z. P z × (test z ≡ true)) same (one, is))
last_go P test before x fs false is one prior step = step before prior

last_passes : {A : Type 0} (P : A → Type 0) (test : A → Bool) (xs : List A) (before : Option A) → AllByRecursion P xs → Passing P test before → Passing P test (last_or before (filter test xs))
last_passes P test [] before all prior = prior
last_passes P test (x ∷ xs) before all prior = last_go P test before x (filter test xs) (test x) refl all.0 prior (λ o. last_passes P test xs o all.1)

none_before : {A : Type 0} (P : A → Type 0) (test : A → Bool) → Passing P test None
none_before P test = λ x found. cc

of_use : (P : Ask → List (List ℕ) → JwtToken → Type 0) (ask : Ask) (audience : List (List ℕ)) (since now : ℕ) (k : CachedToken) → P k.ask k.audience k.token → is_of_use ask audience since now k ≡ true → P ask audience k.token
unfolding is_of_use
of_use P ask audience since now k holds use_is =
    let parts = and_parts (same_ask k.ask ask) (pointwise bytes_eq k.audience audience && (nat_le since k.token.issued_at && is_still_fresh now k.token)) use_is in
    let second = and_parts (pointwise bytes_eq k.audience audience) (nat_le since k.token.issued_at && is_still_fresh now k.token) parts.1 in
    subst (λ a. P ask a k.token) (texts_are k.audience audience second.0) (subst (λ a. P a k.audience k.token) (ask_is k.ask ask parts.0) holds)

found_go : (P : Ask → List (List ℕ) → JwtToken → Type 0) (ask : Ask) (audience : List (List ℕ)) (since now : ℕ) (t : JwtToken) (o : Option CachedToken)
    → Passing (λ k. P k.ask k.audience k.token) (is_of_use ask audience since now) o → option_map (λ k. k.token) o ≡ Some t → P ask audience t
found_go P ask audience since now t None passing found = cc
found_go P ask audience since now t (Some k) passing found =
    let one = passing k refl in
    let same : k.token ≡ t = cc in
    subst (P ask audience) same (of_use P ask audience since now k one.0 one.1)

-- What holds of the ask, the audiences and the token of each keep holds of a token that is found, for the ask and the
-- audiences for which it is found.
pub found_holds : (P : Ask → List (List ℕ) → JwtToken → Type 0) (ask : Ask) (audience : List (List ℕ)) (since now : ℕ) (history : List CachedToken) (t : JwtToken)
    → AllByRecursion (λ k. P k.ask k.audience k.token) history → find_among ask audience since now history ≡ Some t → P ask audience t
unfolding find_among
found_holds P ask audience since now history t all found =
    let P' : CachedToken → Type 0 = λ k. P k.ask k.audience k.token in
    found_go P ask audience since now t (newest (is_of_use ask audience since now) history) (last_passes P' (is_of_use ask audience since now) history None all (none_before P' (is_of_use ask audience since now))) found
