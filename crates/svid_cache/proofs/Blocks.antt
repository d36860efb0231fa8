-- The block of the queue in which an ask stands.
use Rattle.std.specs.Prelude.{◌≡◌, ◌⊎◌, ℕ, zero, suc, ◌+◌, ◌-◌, ◌*◌, ◌/◌, ◌%◌, ◌<◌, ◌≤◌, Bool, true, false, if◌then◌else◌, List, [], ◌∷◌, map, take, drop, set, length, Option, Some, None, option_map}
use Rattle.std.specs.Str.{bytes_eq}
use Rattle.std.specs.List.{AllByRecursion}
use Rattle.std.specs.List.Sorted.{IsStrictlySortedBy}
use Rattle.std.proofs.Common.{Less, inl, inr, arith, refl, sym, ◌∙◌, ap, subst}
use Rattle.std.proofs.lemmas.List.{drop-drop, length-drop}
use Rattle.std.proofs.lemmas.Nat.{div-add-mod', div_below, mod_below}
use Rattle.svid_cache.proofs.Common.{Rises, ask_key, Ask, Svid}
use Rattle.list_laws.specs.Keys.{place_at}
use Rattle.list_laws.proofs.Equality.{bytes_are}
use Rattle.list_laws.proofs.Order.{order}
use Rattle.svid_cache.specs.Queue.{NotBefore, OthersNotBefore, Filed}
use Rattle.svid_cache.proofs.AskBlocks.{rises_drop}
use Rattle.svid_cache.proofs.KeyTests.{above_is_other}

-- none of the asks is of the entry
abbrev Absent : List ℕ → List Ask → Type 0
Absent id asks = AllByRecursion (λ a. bytes_eq a.entry_id id ≡ false) asks

absent_take : (id : List ℕ) (n : ℕ) (asks : List Ask) → Absent id asks → Absent id (take n asks)
absent_take id zero asks all = tt
absent_take id (suc n) [] all = tt
absent_take id (suc n) (a ∷ more) all = (all.0, absent_take id n more all.1)

absent_drop : (id : List ℕ) (n : ℕ) (asks : List Ask) → Absent id asks → Absent id (drop n asks)
absent_drop id zero asks all = all
absent_drop id (suc n) [] all = tt
absent_drop id (suc n) (a ∷ more) all = absent_drop id n more all.1

absent_above : (id : List ℕ) (asks : List Ask) → AllByRecursion (λ y. order id y ≡ Less) (map ask_key asks) → Absent id asks
absent_above id [] above = tt
absent_above id (a ∷ more) above = (above_is_other id a.entry_id above.0 (bytes_eq a.entry_id id) refl, absent_above id more above.1)

-- ---- the place of the entry's ask

abbrev Placed : Bool → Option ℕ → ℕ → Type 0
Placed b rest p = ((b ≡ true) × (p ≡ 0)) ⊎ ((b ≡ false) × (q : ℕ) × (rest ≡ Some q) × (p ≡ suc q))

some_is : (x y : ℕ) → Some x ≡ Some y → x ≡ y
some_is x y is = cc

placed : (b : Bool) (rest : Option ℕ) (p : ℕ) → (if b then Some 0 else option_map suc rest) ≡ Some p → Placed b rest p
placed true rest p is = inl (refl, sym (some_is 0 p is))
placed false None p is = cc
placed false (Some q) p is = inr (refl, q, refl, sym (some_is (suc q) p is))

none_go : (b : Bool) (rest : Option ℕ) → (if b then Some 0 else option_map suc rest) ≡ None → (b ≡ false) × (rest ≡ None)
none_go true rest is = cc
none_go false None is = (refl, refl)
none_go false (Some q) is = cc

absent_of : (id : List ℕ) (asks : List Ask) → place_at ask_key asks id ≡ None → Absent id asks
unfolding place_at
absent_of id [] none = tt
absent_of id (a ∷ more) none = let parts = none_go (bytes_eq a.entry_id id) (place_at ask_key more id) none in (parts.0, absent_of id more parts.1)

-- before its place there is none
before_go : (id : List ℕ) (n p : ℕ) (a : Ask) (more : List Ask) → suc n ≤ p → ((q : ℕ) → n ≤ q → place_at ask_key more id ≡ Some q → Absent id (take n more)) → Placed (bytes_eq a.entry_id id) (place_at ask_key more id) p → Absent id (a ∷ take n more)
before_go id n p a more le before (inl first) = absurd (omega (arith, le, first.1))
before_go id n p a more le before (inr later) = (later.0, before later.1 (omega (arith, le, later.3)) later.2)

absent_before : (id : List ℕ) (n p : ℕ) (asks : List Ask) → n ≤ p → place_at ask_key asks id ≡ Some p → Absent id (take n asks)
unfolding place_at
absent_before id zero p asks le at = tt
absent_before id (suc n) p [] le at = tt
absent_before id (suc n) p (a ∷ more) le at = before_go id n p a more le (λ q few there. absent_before id n q more few there) (placed (bytes_eq a.entry_id id) (place_at ask_key more id) p at)

-- after its place there is none
after_go : (id : List ℕ) (n p : ℕ) (a : Ask) (more : List Ask) → p < suc n → AllByRecursion (λ y. order a.entry_id y ≡ Less) (map ask_key more) → ((q : ℕ) → q < n → place_at ask_key more id ≡ Some q → Absent id (drop n more)) → Placed (bytes_eq a.entry_id id) (place_at ask_key more id) p → Absent id (drop n more)
after_go id n p a more less above after (inl first) =
    absent_drop id n more (absent_above id more (subst (λ k. AllByRecursion (λ y. order k y ≡ Less) (map ask_key more)) (bytes_are a.entry_id id first.0) above))
after_go id n p a more less above after (inr later) = after later.1 (omega (arith, less, later.3)) later.2

absent_after : (id : List ℕ) (n p : ℕ) (asks : List Ask) → Rises (map ask_key asks) → p < n → place_at ask_key asks id ≡ Some p → Absent id (drop n asks)
unfolding place_at IsStrictlySortedBy
absent_after id zero p asks rises less at = absurd (omega (arith, less))
absent_after id (suc n) p [] rises less at = tt
absent_after id (suc n) p (a ∷ more) rises less at = after_go id n p a more less rises.0 (λ q few there. absent_after id n q more rises.1 few there) (placed (bytes_eq a.entry_id id) (place_at ask_key more id) p at)

-- its place in what is left
later_go : (id : List ℕ) (n p : ℕ) (a : Ask) (more : List Ask) → suc n ≤ p → ((q : ℕ) → n ≤ q → place_at ask_key more id ≡ Some q → place_at ask_key (drop n more) id ≡ Some (q - n)) → Placed (bytes_eq a.entry_id id) (place_at ask_key more id) p → place_at ask_key (drop n more) id ≡ Some (p - suc n)
later_go id n p a more le there (inl first) = absurd (omega (arith, le, first.1))
later_go id n p a more le there (inr later) =
    let same : later.1 - n ≡ p - suc n = omega (arith, later.3) in
    there later.1 (omega (arith, le, later.3)) later.2 ∙ ap Some same

place_later : (id : List ℕ) (n p : ℕ) (asks : List Ask) → n ≤ p → place_at ask_key asks id ≡ Some p → place_at ask_key (drop n asks) id ≡ Some (p - n)
unfolding place_at
place_later id zero p asks le at = at ∙ ap Some (let same : p ≡ p - 0 = omega arith in same)
place_later id (suc n) p [] le at = cc
place_later id (suc n) p (a ∷ more) le at = later_go id n p a more le (λ q few there. place_later id n q more few there) (placed (bytes_eq a.entry_id id) (place_at ask_key more id) p at)

-- ---- blocks

others_all : (renew : ℕ) (id : List ℕ) (svids : List Svid) (first : ℕ) (asks : List Ask) → Absent id asks → AllByRecursion (OthersNotBefore renew id svids first) asks → AllByRecursion (NotBefore renew svids first) asks
others_all renew id svids first [] none all = tt
others_all renew id svids first (a ∷ more) none all = (all.0 none.0, others_all renew id svids first more none.1 all.1)

filed_absent : (renew : ℕ) (id : List ℕ) (svids : List Svid) (size : ℕ) (firsts : List ℕ) (asks : List Ask) → Absent id asks → Filed (OthersNotBefore renew id svids) size firsts asks → Filed (NotBefore renew svids) size firsts asks
unfolding Filed
filed_absent renew id svids size [] asks none filed = filed
filed_absent renew id svids size (f ∷ fs) asks none filed =
    (others_all renew id svids f (take size asks) (absent_take id size asks none) filed.0, filed_absent renew id svids size fs (drop size asks) (absent_drop id size asks none) filed.1)

-- where no ask is the entry's each block has its second
pub filed_without : (renew : ℕ) (id : List ℕ) (svids : List Svid) (size : ℕ) (firsts : List ℕ) (asks : List Ask) → place_at ask_key asks id ≡ None → Filed (OthersNotBefore renew id svids) size firsts asks → Filed (NotBefore renew svids) size firsts asks
filed_without renew id svids size firsts asks none filed = filed_absent renew id svids size firsts asks (absent_of id asks none) filed

no_place : (id : List ℕ) (asks : List Ask) (p : ℕ) → asks ≡ [] → place_at ask_key asks id ≡ Some p → None ≡ Some p
unfolding place_at
no_place id asks p none at = ap (λ l. place_at ask_key l id) (sym none) ∙ at

filed_set : (renew : ℕ) (id : List ℕ) (svids : List Svid) (size b r f p : ℕ) (firsts : List ℕ) (asks : List Ask) → p ≡ b * size + r → r < size → Rises (map ask_key asks) → place_at ask_key asks id ≡ Some p
    → Filed (OthersNotBefore renew id svids) size firsts asks → AllByRecursion (NotBefore renew svids f) (take size (drop (b * size) asks)) → Filed (NotBefore renew svids) size (set firsts b f) asks
unfolding Filed
filed_set renew id svids size b r f p [] asks is less rises at filed all = let no = no_place id asks p filed at in cc no
filed_set renew id svids size zero r f p (x ∷ fs) asks is less rises at filed all =
    (subst (λ n. AllByRecursion (NotBefore renew svids f) (take size (drop n asks))) (let none : 0 * size ≡ 0 = omega arith in none) all, filed_absent renew id svids size fs (drop size asks) (absent_after id size p asks rises (omega (arith, is, less)) at) filed.1)
filed_set renew id svids size (suc b) r f p (x ∷ fs) asks is less rises at filed all =
    let le : size ≤ p = omega (arith, is) in
    let rest : p - size ≡ b * size + r = omega (arith, is) in
    let all' : AllByRecursion (NotBefore renew svids f) (take size (drop (b * size) (drop size asks))) = subst (λ l. AllByRecursion (NotBefore renew svids f) (take size l)) (sym (drop-drop (b * size) size asks)) (subst (λ n. AllByRecursion (NotBefore renew svids f) (take size (drop n asks))) (let sum : suc b * size ≡ size + b * size = omega arith in sum) all) in (
      others_all renew id svids x (take size asks) (absent_before id size p asks le at) filed.0,
      filed_set renew id svids size b r f (p - size) fs (drop size asks) rest less (rises_drop size asks rises) (place_later id size p asks le at) filed.1 all',
    )

-- a new second is written for the block of the entry's ask
pub filed_anew : (renew : ℕ) (id : List ℕ) (svids : List Svid) (size f p : ℕ) (firsts : List ℕ) (asks : List Ask) → 0 < size → Rises (map ask_key asks) → place_at ask_key asks id ≡ Some p
    → Filed (OthersNotBefore renew id svids) size firsts asks → AllByRecursion (NotBefore renew svids f) (take size (drop (p / size * size) asks)) → Filed (NotBefore renew svids) size (set firsts (p / size) f) asks
filed_anew renew id svids size f p firsts asks some rises at filed all =
    filed_set renew id svids size (p / size) (p % size) f p firsts asks (sym (div-add-mod' p size)) (mod_below p size some) rises at filed all

-- the blocks hold all asks
filed_long : (Fits : ℕ → Ask → Type 0) (size : ℕ) (firsts : List ℕ) (asks : List Ask) → Filed Fits size firsts asks → length asks ≤ length firsts * size
unfolding Filed
filed_long Fits size [] asks filed = let none : length asks ≡ 0 = ap length filed in omega (arith, none)
filed_long Fits size (f ∷ fs) asks filed =
    let rest : length (drop size asks) ≤ length fs * size = filed_long Fits size fs (drop size asks) filed.1 in
    let long : length (drop size asks) ≡ length asks - size = length-drop size asks in
    omega (arith, rest, long)

pub block_there : (Fits : ℕ → Ask → Type 0) (size p : ℕ) (firsts : List ℕ) (asks : List Ask) → 0 < size → Filed Fits size firsts asks → p < length asks → p / size < length firsts
block_there Fits size p firsts asks some filed below =
    let long : length asks ≤ length firsts * size = filed_long Fits size firsts asks filed in
    div_below p size (length firsts) some (omega (arith, long, below))
