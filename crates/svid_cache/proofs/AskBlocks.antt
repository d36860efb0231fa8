-- Blocks of asks and the seconds before which none of a block is due.
use Rattle.std.specs.Prelude.{◌≡◌, ◌++◌, ℕ, ◌+◌, ◌<◌, ◌≤◌, ◌||◌, nat_le, nat_lt, not, Bool, true, false, if◌then◌else◌, List, [], ◌∷◌, map, filter, find, take, drop, get_or, set, length, Option, Some, None, unwrap_or, option_map}
use Rattle.std.specs.Str.{bytes_eq}
use Rattle.std.specs.List.{AllByRecursion}
use Rattle.std.specs.List.Sorted.{IsStrictlySortedBy}
use Rattle.std.specs.Ordering.{nat_cmp, is_lt, is_gt, is_eq}
use Rattle.std.specs.Cmp.Lexicographic.{slice_cmp}
use Rattle.std.proofs.Common.{Ordering, Less, Equal, Greater, arith, refl, sym, ◌∙◌, ap, subst, append_assoc, append-nil}
use Rattle.std.proofs.lemmas.Bool.Decides.{nat_tests}
use Rattle.std.proofs.lemmas.Map.Text.{is_eq-slice_cmp}
use Rattle.std.proofs.lemmas.List.{take-append-drop, drop_more, take_all, drop_all, get_or_default}
use Rattle.std.proofs.lemmas.List.Edits.{map_over_more}
use Rattle.std.proofs.lemmas.List.Elements.{filter-append}
use Rattle.svid_cache.proofs.Common.{Rises, ask_key, same_ask, Ask, Svid, all_such, kept_for, lasts, is_below, is_above, with_svid}
use Rattle.wl_entry.specs.Fitness.{is_half_over, is_wanted}
use Rattle.wl_entry.specs.declared.signing.Signed.{Signed}
use Rattle.list_laws.proofs.Equality.{same_bytes}
use Rattle.list_laws.proofs.Order.{order}
use Rattle.svid_cache.proofs.CacheFacts.{same_entry_id}
use Rattle.svid_cache.specs.Caches.{is_to_be_replaced, is_due}
use Rattle.svid_cache.specs.Queue.{half_second, due_second, first_second, NotBefore, OthersNotBefore, AllBegunBy, Filed, NoneBelow, clear_second}

-- ---- what is found has what all have

pub some_is : {X : Type 0} (x y : X) → Some x ≡ Some y → x ≡ y
some_is x y is = cc

pub found_go : {X : Type 0} (t : X → Bool) (P : X → Type 0) (y : X) (ys : List X) (x : X) (b : Bool) → P y → (find t ys ≡ Some x → P x) → (if b then Some y else find t ys) ≡ Some x → P x
found_go t P y ys x true here there found = subst P (some_is y x found) here
found_go t P y ys x false here there found = there found

found_such : {X : Type 0} (t : X → Bool) (P : X → Type 0) (xs : List X) (x : X) → AllByRecursion P xs → find t xs ≡ Some x → P x
found_such t P [] x all found = cc
found_such t P (y ∷ ys) x all found = found_go t P y ys x (t y) all.0 (λ there. found_such t P ys x all.1 there) found

-- ---- the first second

-- what is half over has come to that second, whatever its times
half_come : (g : Signed) (now : ℕ) → now < half_second g → is_half_over now g ≡ false
half_come g now before = grind (arith, nat_tests, before)

-- an SVID that has begun is not to be replaced before that second
stays_go : (renew now first : ℕ) (g : Signed) (b : Bool) → nat_lt g.not_before renew ≡ b → g.not_before ≤ now → first ≤ (if b then 0 else half_second g) → now < first → is_to_be_replaced renew now g ≡ false
stays_go renew now first g true is begun from before = absurd (omega (arith, from, before))
stays_go renew now first g false is begun from before =
    let half = half_come g now (omega (arith, from, before)) in
    let wanted : is_wanted renew now g ≡ true = grind (arith, nat_tests, is, begun) in
    λ i. not (wanted i) || half i

not_due_go : (renew now first : ℕ) (o : Option Svid) → ((s : Svid) → o ≡ Some s → s.signed.not_before ≤ now) → first ≤ unwrap_or (option_map (λ s. due_second renew s.signed) o) 0 → now < first → unwrap_or (option_map (λ s. is_to_be_replaced renew now s.signed) o) true ≡ false
not_due_go renew now first None begun from before = absurd (omega (arith, from, before))
not_due_go renew now first (Some s) begun from before = stays_go renew now first s.signed (nat_lt s.signed.not_before renew) refl (begun s refl) from before

not_due : (renew now first : ℕ) (svids : List Svid) (a : Ask) → AllBegunBy now svids → NotBefore renew svids first a → now < first → is_due renew now svids a ≡ false
unfolding is_due first_second kept_for
not_due renew now first svids a begun from before =
    not_due_go renew now first (kept_for svids a) (λ s found. found_such (λ k. same_ask k.ask a) (λ k. k.signed.not_before ≤ now) svids s begun found) from before

-- none of a block is due before its second, where all SVIDs have begun
pub none_due : (renew now first : ℕ) (svids : List Svid) (asks : List Ask) → AllBegunBy now svids → AllByRecursion (NotBefore renew svids first) asks → now < first → filter (is_due renew now svids) asks ≡ []
none_due renew now first svids [] begun all before = refl
none_due renew now first svids (a ∷ more) begun all before = rw (not_due renew now first svids a begun all.0 before) (none_due renew now first svids more begun all.1 before)

-- nor any ask before the least of the seconds
pub none_filed : (renew now next size : ℕ) (svids : List Svid) (firsts : List ℕ) (asks : List Ask) → AllBegunBy now svids → Filed (NotBefore renew svids) size firsts asks → NoneBelow next firsts → now < next → filter (is_due renew now svids) asks ≡ []
unfolding Filed
none_filed renew now next size svids [] asks begun filed all before = ap (filter (is_due renew now svids)) filed
none_filed renew now next size svids (f ∷ fs) asks begun filed all before =
    ap (filter (is_due renew now svids)) (sym (take-append-drop size asks))
    ∙ (filter-append (is_due renew now svids) (take size asks) (drop size asks)
    ∙ (λ i. none_due renew now f svids (take size asks) begun filed.0 (omega (arith, before, all.0)) i ++ none_filed renew now next size svids fs (drop size asks) begun filed.1 all.1 before i))

pub no_seconds : (least : ℕ) (firsts : List ℕ) → firsts ≡ [] → NoneBelow least firsts
no_seconds least firsts empty = subst (NoneBelow least) (sym empty) tt

-- ---- parts of what rises

all_front : (P : List ℕ → Type 0) (xs ys : List Ask) → AllByRecursion P (map ask_key (xs ++ ys)) → AllByRecursion P (map ask_key xs)
all_front P [] ys all = tt
all_front P (x ∷ xs) ys all = (all.0, all_front P xs ys all.1)

rises_front : (xs ys : List Ask) → Rises (map ask_key (xs ++ ys)) → Rises (map ask_key xs)
unfolding IsStrictlySortedBy
rises_front [] ys rises = tt
rises_front (x ∷ xs) ys rises = (all_front (λ k. slice_cmp nat_cmp x.entry_id k ≡ Less) xs ys rises.0, rises_front xs ys rises.1)

rises_back : (xs ys : List Ask) → Rises (map ask_key (xs ++ ys)) → Rises (map ask_key ys)
unfolding IsStrictlySortedBy
rises_back [] ys rises = rises
rises_back (x ∷ xs) ys rises = rises_back xs ys rises.1

pub rises_take : (n : ℕ) (asks : List Ask) → Rises (map ask_key asks) → Rises (map ask_key (take n asks))
rises_take n asks rises = rises_front (take n asks) (drop n asks) (subst (λ l. Rises (map ask_key l)) (sym (take-append-drop n asks)) rises)

pub rises_drop : (n : ℕ) (asks : List Ask) → Rises (map ask_key asks) → Rises (map ask_key (drop n asks))
rises_drop n asks rises = rises_back (take n asks) (drop n asks) (subst (λ l. Rises (map ask_key l)) (sym (take-append-drop n asks)) rises)

-- ---- blocks

pub filed_none : (Fits : ℕ → Ask → Type 0) (size : ℕ) (firsts : List ℕ) (asks : List Ask) → firsts ≡ [] → asks ≡ [] → Filed Fits size firsts asks
unfolding Filed
filed_none Fits size firsts asks none empty = subst (λ f. Filed Fits size f asks) (sym none) empty

pub filed_one : (Fits : ℕ → Ask → Type 0) (size first : ℕ) (firsts : List ℕ) (asks : List Ask) → AllByRecursion (Fits first) (take size asks) → Filed Fits size firsts (drop size asks) → Filed Fits size (first ∷ firsts) asks
unfolding Filed
filed_one Fits size first firsts asks all rest = (all, rest)

pub filed_end : (Fits : ℕ → Ask → Type 0) (size : ℕ) (firsts : List ℕ) (asks : List Ask) → Filed Fits size firsts asks → firsts ≡ [] → asks ≡ []
unfolding Filed
filed_end Fits size firsts asks filed none = subst (λ f. Filed Fits size f asks) none filed

pub record FirstBlock (Fits : ℕ → Ask → Type 0) (size first : ℕ) (firsts : List ℕ) (asks : List Ask) : Type 0 where
  pub here : AllByRecursion (Fits first) (take size asks)
  pub there : Filed Fits size firsts (drop size asks)

filed_open : (Fits : ℕ → Ask → Type 0) (size first : ℕ) (firsts : List ℕ) (asks : List Ask) → Filed Fits size (first ∷ firsts) asks → FirstBlock Fits size first firsts asks
unfolding Filed
filed_open Fits size first firsts asks filed = record { here = filed.0; there = filed.1 }

pub filed_next : (Fits : ℕ → Ask → Type 0) (size i : ℕ) (firsts : List ℕ) (asks : List Ask) → i < length firsts → Filed Fits size (drop i firsts) asks → FirstBlock Fits size (get_or firsts i 0) (drop (i + 1) firsts) asks
filed_next Fits size i firsts asks below filed = filed_open Fits size (get_or firsts i 0) (drop (i + 1) firsts) asks (subst (λ f. Filed Fits size f asks) (drop_more firsts i 0 below) filed)

-- other seconds, which other facts hold of
pub filed_such : (Fits Fits' : ℕ → Ask → Type 0) (f : ℕ → ℕ) → ((first : ℕ) (a : Ask) → Fits first a → Fits' (f first) a) → (size : ℕ) (firsts : List ℕ) (asks : List Ask) → Filed Fits size firsts asks → Filed Fits' size (map f firsts) asks
unfolding Filed
filed_such Fits Fits' f step size [] asks filed = filed
filed_such Fits Fits' f step size (first ∷ firsts) asks filed = (all_such (Fits first) (Fits' (f first)) (take size asks) (step first) filed.0, filed_such Fits Fits' f step size firsts (drop size asks) filed.1)

pub filed_same : (Fits Fits' : ℕ → Ask → Type 0) → ((first : ℕ) (a : Ask) → Fits first a → Fits' first a) → (size : ℕ) (firsts : List ℕ) (asks : List Ask) → Filed Fits size firsts asks → Filed Fits' size firsts asks
unfolding Filed
filed_same Fits Fits' step size [] asks filed = filed
filed_same Fits Fits' step size (first ∷ firsts) asks filed = (all_such (Fits first) (Fits' first) (take size asks) (step first) filed.0, filed_same Fits Fits' step size firsts (drop size asks) filed.1)

-- ---- loops over blocks

-- seconds for the blocks before the rest, to which those for the rest can be added
abbrev pub FiledUpTo : (ℕ → Ask → Type 0) → ℕ → List ℕ → List Ask → List Ask → Type 0
FiledUpTo Fits size firsts rest asks = (more : List ℕ) → Filed Fits size more rest → Filed Fits size (firsts ++ more) asks

pub up_to_start : (Fits : ℕ → Ask → Type 0) (size : ℕ) (firsts : List ℕ) (asks : List Ask) → firsts ≡ [] → FiledUpTo Fits size firsts asks asks
up_to_start Fits size firsts asks none = λ more filed. subst (λ f. Filed Fits size (f ++ more) asks) (sym none) filed

pub up_to_more : (Fits : ℕ → Ask → Type 0) (size first : ℕ) (firsts : List ℕ) (rest asks : List Ask) → FiledUpTo Fits size firsts rest asks → AllByRecursion (Fits first) (take size rest) → FiledUpTo Fits size (firsts ++ first ∷ []) (drop size rest) asks
up_to_more Fits size first firsts rest asks so_far here = λ more filed. subst (λ f. Filed Fits size f asks) (sym (append_assoc firsts (first ∷ []) more)) (so_far (first ∷ more) (filed_one Fits size first more rest here filed))

pub up_to_end : (Fits : ℕ → Ask → Type 0) (size : ℕ) (firsts : List ℕ) (rest asks : List Ask) → FiledUpTo Fits size firsts rest asks → rest ≡ [] → Filed Fits size firsts asks
up_to_end Fits size firsts rest asks so_far empty = subst (λ f. Filed Fits size f asks) (append-nil firsts) (so_far [] (filed_none Fits size [] rest refl empty))

-- no seconds are left, and so no asks
pub no_rest : (Fits : ℕ → Ask → Type 0) (size i : ℕ) (firsts : List ℕ) (rest : List Ask) → Filed Fits size (drop i firsts) rest → length firsts ≤ i → rest ≡ []
no_rest Fits size i firsts rest filed few = filed_end Fits size (drop i firsts) rest filed (drop_all i firsts few)

pub no_asks : (rest : List Ask) → length rest ≡ 0 → rest ≡ []
no_asks [] none = refl
no_asks (a ∷ rest) none = absurd (omega (arith, none))

-- what is chosen from the first block and from the others
pub chosen_parts : (p : Ask → Bool) (size : ℕ) (due : List Ask) (rest : List Ask) → (due ++ filter p (take size rest)) ++ filter p (drop size rest) ≡ due ++ filter p rest
chosen_parts p size due rest =
    append_assoc due (filter p (take size rest)) (filter p (drop size rest))
    ∙ ap (λ l. due ++ l) (sym (filter-append p (take size rest) (drop size rest)) ∙ ap (filter p) (take-append-drop size rest))

pub chosen_end : (p : Ask → Bool) (due rest asks : List Ask) → due ++ filter p rest ≡ filter p asks → rest ≡ [] → due ≡ filter p asks
chosen_end p due rest asks so_far empty = sym (append-nil due) ∙ ap (λ r. due ++ filter p r) (sym empty) ∙ so_far

-- ---- what is found in a part of a list

passing_go : {X : Type 0} (t q : X → Bool) (y : X) (ys fs : List X) (x : X) (tb qb : Bool) → t y ≡ tb → q y ≡ qb → (if tb then Some y else find t ys) ≡ Some x → q x ≡ true → (find t ys ≡ Some x → find t fs ≡ Some x) → find t (if qb then y ∷ fs else fs) ≡ Some x
passing_go t q y ys fs x true true tis qis found passes rest = rw tis found
passing_go t q y ys fs x true false tis qis found passes rest = cc
passing_go t q y ys fs x false true tis qis found passes rest = rw tis (rest found)
passing_go t q y ys fs x false false tis qis found passes rest = rest found

find_passing : {X : Type 0} (t q : X → Bool) (xs : List X) (x : X) → find t xs ≡ Some x → q x ≡ true → find t (filter q xs) ≡ Some x
find_passing t q [] x found passes = found
find_passing t q (y ∷ ys) x found passes = passing_go t q y ys (filter q ys) x (t y) (q y) refl refl found passes (λ there. find_passing t q ys x there passes)

all_go : {X : Type 0} (t q : X → Bool) (y : X) (ys fs : List X) (tb qb : Bool) → t y ≡ tb → q y ≡ qb → (t y ≡ true → q y ≡ true) → find t fs ≡ find t ys → find t (if qb then y ∷ fs else fs) ≡ (if tb then Some y else find t ys)
all_go t q y ys fs true true tis qis only same = rw tis refl
all_go t q y ys fs true false tis qis only same = cc (only tis)
all_go t q y ys fs false true tis qis only same = rw tis same
all_go t q y ys fs false false tis qis only same = same

find_all : {X : Type 0} (t q : X → Bool) → ((x : X) → t x ≡ true → q x ≡ true) → (xs : List X) → find t (filter q xs) ≡ find t xs
find_all t q only [] = refl
find_all t q only (y ∷ ys) = all_go t q y ys (filter q ys) (t y) (q y) refl refl (only y) (find_all t q only ys)

none_go : {X : Type 0} (t q : X → Bool) (y : X) (fs : List X) (tb qb : Bool) → t y ≡ tb → q y ≡ qb → (t y ≡ true → q y ≡ false) → find t fs ≡ None → find t (if qb then y ∷ fs else fs) ≡ None
none_go t q y fs true true tis qis never none = cc (never tis)
none_go t q y fs false true tis qis never none = rw tis none
none_go t q y fs tb false tis qis never none = none

find_none : {X : Type 0} (t q : X → Bool) → ((x : X) → t x ≡ true → q x ≡ false) → (xs : List X) → find t (filter q xs) ≡ None
find_none t q never [] = refl
find_none t q never (y ∷ ys) = none_go t q y (filter q ys) (t y) (q y) refl refl (never y) (find_none t q never ys)

find_front : {X : Type 0} (t : X → Bool) (xs ys : List X) → find t ys ≡ None → find t (xs ++ ys) ≡ find t xs
find_front t [] ys none = none
find_front t (x ∷ xs) ys none = ap (λ o. if t x then Some x else o) (find_front t xs ys none)

back_go : {X : Type 0} (x : X) (o rest other : Option X) (b : Bool) → (if b then Some x else o) ≡ None → (o ≡ None → rest ≡ other) → (if b then Some x else rest) ≡ other
back_go x o rest other true none same = cc
back_go x o rest other false none same = same none

find_back : {X : Type 0} (t : X → Bool) (xs ys : List X) → find t xs ≡ None → find t (xs ++ ys) ≡ find t ys
find_back t [] ys none = refl
find_back t (x ∷ xs) ys none = back_go x (find t xs) (find t (xs ++ ys)) (find t ys) (t x) none (find_back t xs ys)

-- ---- a sweep

-- a list that was written in place
pub written : (new old : List ℕ) (n : ℕ) → length new ≡ length old → length old ≡ n → take n (new ++ drop (length new) old) ≡ new
written new old n same long =
    ap (λ d. take n (new ++ d)) (drop_all (length new) old (omega (arith, same)))
    ∙ (ap (take n) (append-nil new) ∙ take_all n new (omega (arith, same, long)))

-- one more second is written
pub write_more : (f : ℕ → ℕ) (xs ys : List ℕ) (i y : ℕ) → i < length xs → i < length ys → ys ≡ map f (take i xs) ++ drop i xs → y ≡ f (get_or ys i 0) → set ys i y ≡ map f (take (i + 1) xs) ++ drop (i + 1) xs
write_more f xs ys i y below long so_far is = ap (set ys i) is ∙ map_over_more f xs ys i (get_or ys i 0) below so_far (get_or_default ys i 0 (get_or ys i 0) long)

due_go : (renew : ℕ) (g : Signed) (b : Bool) → (if b then 0 else half_second g) ≤ g.not_after
due_go renew g true = omega arith
due_go renew g false = omega arith

-- no SVID comes due after its end
due_ends : (renew : ℕ) (g : Signed) → due_second renew g ≤ g.not_after
due_ends renew g = due_go renew g (nat_lt g.not_before renew)

swept_go : (renew now first : ℕ) (svids : List Svid) (a : Ask) (b : Bool) (o : Option Svid) → nat_le first now ≡ b → kept_for svids a ≡ o → first ≤ unwrap_or (option_map (λ s. due_second renew s.signed) o) 0 → (if b then 0 else first) ≤ unwrap_or (option_map (λ s. due_second renew s.signed) (kept_for (filter (lasts now) svids) a)) 0
unfolding kept_for
swept_go renew now first svids a true o come kept from = omega arith
swept_go renew now first svids a false None come kept from = absurd (grind (arith, nat_tests, come, from))
swept_go renew now first svids a false (Some s) come kept from =
    let within = due_ends renew s.signed in
    let after : now < first = grind (arith, nat_tests, come) in
    let lasting : now < s.signed.not_after = omega (arith, after, from, within) in
    let ends : nat_lt now s.signed.not_after ≡ true = grind (arith, nat_tests, lasting) in
    rw (find_passing (λ k. same_ask k.ask a) (lasts now) svids s kept ends) from

swept_fits : (renew now first : ℕ) (svids : List Svid) (a : Ask) → NotBefore renew svids first a → NotBefore renew (filter (lasts now) svids) (clear_second now first) a
unfolding first_second
swept_fits renew now first svids a from = swept_go renew now first svids a (nat_le first now) (kept_for svids a) refl refl from

pub filed_swept : (renew now size : ℕ) (svids : List Svid) (firsts : List ℕ) (asks : List Ask) → Filed (NotBefore renew svids) size firsts asks → Filed (NotBefore renew (filter (lasts now) svids)) size (map (clear_second now) firsts) asks
filed_swept renew now size svids firsts asks filed = filed_such (NotBefore renew svids) (NotBefore renew (filter (lasts now) svids)) (clear_second now) (λ first a from. swept_fits renew now first svids a from) size firsts asks filed

-- ---- a new SVID

-- a test that only the SVID of this entry can pass
abbrev OnlyOf : (Svid → Bool) → List ℕ → Type 0
OnlyOf t q = (k : Svid) → t k ≡ true → k.ask.entry_id ≡ q

fails_other : (t : Svid → Bool) (q : List ℕ) (s : Svid) → OnlyOf t q → bytes_eq q s.ask.entry_id ≡ false → (b : Bool) → t s ≡ b → t s ≡ false
fails_other t q s only other true is = let same : bytes_eq q q ≡ false = subst (λ k. bytes_eq q k ≡ false) (only s is) other in cc (sym same ∙ same_bytes q)
fails_other t q s only other false is = is

put_go : (s : Svid) (svids : List Svid) (t : Svid → Bool) (q : List ℕ) → OnlyOf t q → t s ≡ false → (o : Ordering) → order q s.ask.entry_id ≡ o → is_eq o ≡ false → find t (with_svid s svids) ≡ find t svids
unfolding with_svid
put_go s svids t q only new Less at other =
    let over : find t (filter (is_above s.ask.entry_id) svids) ≡ None = find_none t (is_above s.ask.entry_id) (λ k same. subst (λ i. is_gt (order i s.ask.entry_id) ≡ false) (sym (only k same)) (ap is_gt at)) svids in
    find_front t (filter (is_below s.ask.entry_id) svids) (s ∷ filter (is_above s.ask.entry_id) svids) (rw new over)
    ∙ find_all t (is_below s.ask.entry_id) (λ k same. subst (λ i. is_lt (order i s.ask.entry_id) ≡ true) (sym (only k same)) (ap is_lt at)) svids
put_go s svids t q only new Greater at other =
    let under : find t (filter (is_below s.ask.entry_id) svids) ≡ None = find_none t (is_below s.ask.entry_id) (λ k same. subst (λ i. is_lt (order i s.ask.entry_id) ≡ false) (sym (only k same)) (ap is_lt at)) svids in
    find_back t (filter (is_below s.ask.entry_id) svids) (s ∷ filter (is_above s.ask.entry_id) svids) under
    ∙ rw new (find_all t (is_above s.ask.entry_id) (λ k same. subst (λ i. is_gt (order i s.ask.entry_id) ≡ true) (sym (only k same)) (ap is_gt at)) svids)
put_go s svids t q only new Equal at other = cc

-- what is found of another entry is found as before
pub find_put : (s : Svid) (svids : List Svid) (t : Svid → Bool) (q : List ℕ) → OnlyOf t q → bytes_eq q s.ask.entry_id ≡ false → find t (with_svid s svids) ≡ find t svids
find_put s svids t q only other = put_go s svids t q only (fails_other t q s only other (t s) refl) (order q s.ask.entry_id) refl (is_eq-slice_cmp q s.ask.entry_id ∙ other)

put_other : (s : Svid) (svids : List Svid) (a : Ask) → bytes_eq a.entry_id s.ask.entry_id ≡ false → kept_for (with_svid s svids) a ≡ kept_for svids a
unfolding kept_for
put_other s svids a other = find_put s svids (λ k. same_ask k.ask a) a.entry_id (λ k same. same_entry_id k.ask a same) other

put_fits : (renew : ℕ) (s : Svid) (svids : List Svid) (first : ℕ) (a : Ask) → NotBefore renew svids first a → OthersNotBefore renew s.ask.entry_id (with_svid s svids) first a
unfolding first_second
put_fits renew s svids first a from = λ other. subst (λ o. first ≤ unwrap_or (option_map (λ k. due_second renew k.signed) o) 0) (sym (put_other s svids a other)) from

pub filed_put : (renew : ℕ) (s : Svid) (size : ℕ) (svids : List Svid) (firsts : List ℕ) (asks : List Ask) → Filed (NotBefore renew svids) size firsts asks → Filed (OthersNotBefore renew s.ask.entry_id (with_svid s svids)) size firsts asks
filed_put renew s size svids firsts asks filed = filed_same (NotBefore renew svids) (OthersNotBefore renew s.ask.entry_id (with_svid s svids)) (λ first a from. put_fits renew s svids first a from) size firsts asks filed

pub others_at : (renew size : ℕ) (id id' : List ℕ) (svids svids' : List Svid) (firsts firsts' : List ℕ) (asks asks' : List Ask) → id ≡ id' → svids ≡ svids' → firsts ≡ firsts' → asks ≡ asks' → Filed (OthersNotBefore renew id' svids') size firsts' asks' → Filed (OthersNotBefore renew id svids) size firsts asks
others_at renew size id id' svids svids' firsts firsts' asks asks' same_id same_svids same_firsts same_asks filed =
    subst (λ x. Filed (OthersNotBefore renew x svids) size firsts asks) (sym same_id)
    (subst (λ x. Filed (OthersNotBefore renew id' x) size firsts asks) (sym same_svids)
    (subst (λ x. Filed (OthersNotBefore renew id' svids') size x asks) (sym same_firsts)
    (subst (λ x. Filed (OthersNotBefore renew id' svids') size firsts' x) (sym same_asks) filed)))
