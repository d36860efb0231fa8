-- Flights that are not marked.
use Rattle.std.specs.Prelude.{◌≡◌, ◌==◌, ℕ, zero, suc, ◌+◌, ◌<◌, ◌≤◌, Bool, true, false, if◌then◌else◌, is_some, List, [], ◌∷◌, ◌++◌, find, take, drop, get_or, set, replicate, length, Option, Some, ◌||◌}
use Rattle.std.specs.List.{list_any}
use Rattle.std.proofs.Common.{arith, refl, sym, ◌∙◌, ap, append-nil}
use Rattle.std.proofs.lemmas.List.{drop_more, drop_all}
use Rattle.std.proofs.lemmas.Bool.Decides.{nat_tests}
use Rattle.wl_store.proofs.Common.{Flight}
use Rattle.wl_store.specs.Flights.{unmarked}
use Rattle.wl_store.specs.Stores.{without_flight}

-- ---- what is found, and whether

any_go : (b : Bool) (f : Flight) (found : Option Flight) (rest : Bool) → is_some found ≡ rest → is_some (if b then Some f else found) ≡ (b || rest)
any_go true f found rest is = refl
any_go false f found rest is = is

pub any_found : (p : Flight → Bool) (fs : List Flight) → is_some (find p fs) ≡ list_any p fs
any_found p [] = refl
any_found p (f ∷ fs) = any_go (p f) f (find p fs) (list_any p fs) (any_found p fs)

-- ---- from a place on

rest_go : (b c : Bool) (f g : Flight) (rest : List Flight) → b ≡ c → f ≡ g → (if b then rest else f ∷ rest) ≡ (if c then rest else g ∷ rest)
rest_go b c f g rest same is = λ i. if same i then rest else is i ∷ rest

pub unmarked_at : (all : List Flight) (marks : List Bool) (i : ℕ) (f : Flight) (mark : Bool) → i < length all → length marks ≡ length all
    → unmarked (drop i all) (drop i marks) ≡ (if get_or marks i mark then unmarked (drop (i + 1) all) (drop (i + 1) marks) else get_or all i f ∷ unmarked (drop (i + 1) all) (drop (i + 1) marks))
unmarked_at all marks i f mark below same =
    let long : i < length marks = omega (arith, below, same) in
    (λ j. unmarked (drop_more all i f below j) (drop_more marks i mark long j))

-- nothing is left at the end
pub unmarked_end : (all : List Flight) (marks : List Bool) (i : ℕ) → length all ≤ i → unmarked (drop i all) (drop i marks) ≡ []
unmarked_end all marks i past = ap (λ fs. unmarked fs (drop i marks)) (drop_all i all past)

-- ---- up to a place

more_one : (b : Bool) (f : Flight) → unmarked (f ∷ []) (b ∷ []) ≡ (if b then [] else f ∷ [])
more_one true f = refl
more_one false f = refl

more_go : (b : Bool) (f : Flight) (new old one : List Flight) → new ≡ old ++ one → (if b then new else f ∷ new) ≡ (if b then old else f ∷ old) ++ one
more_go true f new old one is = is
more_go false f new old one is = ap (λ l. f ∷ l) is

more_suc : (all : List Flight) (marks : List Bool) (i : ℕ) (f : Flight) (mark : Bool) → i < length all → length marks ≡ length all
    → unmarked (take (suc i) all) (take (suc i) marks) ≡ unmarked (take i all) (take i marks) ++ (if get_or marks i mark then [] else get_or all i f ∷ [])
more_suc [] marks i f mark below same = absurd (omega (arith, below))
more_suc (x ∷ xs) [] i f mark below same = absurd (omega (arith, same))
more_suc (x ∷ xs) (b ∷ bs) zero f mark below same = more_one b x
more_suc (x ∷ xs) (b ∷ bs) (suc i) f mark below same =
    more_go b x (unmarked (take (suc i) xs) (take (suc i) bs)) (unmarked (take i xs) (take i bs)) (if get_or bs i mark then [] else get_or xs i f ∷ []) (more_suc xs bs i f mark (omega (arith, below)) (omega (arith, same)))

pub unmarked_more : (all : List Flight) (marks : List Bool) (i : ℕ) (f : Flight) (mark : Bool) → i < length all → length marks ≡ length all
    → unmarked (take (i + 1) all) (take (i + 1) marks) ≡ unmarked (take i all) (take i marks) ++ (if get_or marks i mark then [] else get_or all i f ∷ [])
unmarked_more all marks i f mark below same = (let next : i + 1 ≡ suc i = omega arith in λ j. unmarked (take (next j) all) (take (next j) marks)) ∙ more_suc all marks i f mark below same

-- ---- one more mark

set_suc : (all : List Flight) (marks : List Bool) (i : ℕ) → i < length all → length marks ≡ length all → unmarked all (set marks i true) ≡ unmarked (take i all) (take i marks) ++ unmarked (drop (suc i) all) (drop (suc i) marks)
set_suc [] marks i below same = absurd (omega (arith, below))
set_suc (x ∷ xs) [] i below same = absurd (omega (arith, same))
set_suc (x ∷ xs) (b ∷ bs) zero below same = refl
set_suc (x ∷ xs) (b ∷ bs) (suc i) below same =
    more_go b x (unmarked xs (set bs i true)) (unmarked (take i xs) (take i bs)) (unmarked (drop (suc i) xs) (drop (suc i) bs)) (set_suc xs bs i (omega (arith, below)) (omega (arith, same)))

pub unmarked_set : (all : List Flight) (marks : List Bool) (i : ℕ) → i < length all → length marks ≡ length all → unmarked all (set marks i true) ≡ unmarked (take i all) (take i marks) ++ unmarked (drop (i + 1) all) (drop (i + 1) marks)
unmarked_set all marks i below same = set_suc all marks i below same ∙ (let next : suc i ≡ i + 1 = omega arith in λ j. unmarked (take i all) (take i marks) ++ unmarked (drop (next j) all) (drop (next j) marks))

-- ---- no marks

none_marked : (all : List Flight) → unmarked all (replicate (length all) false) ≡ all
none_marked [] = refl
none_marked (x ∷ xs) = ap (λ l. x ∷ l) (none_marked xs)

pub all_unmarked : (all flights : List Flight) (marks : List Bool) (n : ℕ) → all ≡ flights → marks ≡ replicate n false → n ≡ length flights → unmarked all marks ≡ flights
all_unmarked all flights marks n are none long = (λ i. unmarked (are i) ((none ∙ ap (λ m. replicate m false) long) i)) ∙ none_marked flights

-- ---- a step from a place to the next

passed_marked : (b : Bool) (x : Flight) (rest : List Flight) → b ≡ true → (if b then rest else x ∷ rest) ≡ rest
passed_marked true x rest is = refl
passed_marked false x rest is = cc is

met_unmarked : (b : Bool) (x y : Flight) (rest : List Flight) → b ≡ false → x ≡ y → (if b then rest else y ∷ rest) ≡ x ∷ rest
met_unmarked true x y rest is same = cc is
met_unmarked false x y rest is same = ap (λ f. f ∷ rest) (sym same)

pub at_marked : (all : List Flight) (marks : List Bool) (i : ℕ) (mark : Bool) → i < length all → length marks ≡ length all → get_or marks i mark ≡ true
    → unmarked (drop i all) (drop i marks) ≡ unmarked (drop (i + 1) all) (drop (i + 1) marks)
at_marked [] marks i mark below same is = absurd (omega (arith, below))
at_marked (x ∷ xs) marks i mark below same is = unmarked_at (x ∷ xs) marks i x mark below same ∙ passed_marked (get_or marks i mark) (get_or (x ∷ xs) i x) (unmarked (drop (i + 1) (x ∷ xs)) (drop (i + 1) marks)) is

pub at_unmarked : (all : List Flight) (marks : List Bool) (i : ℕ) (mark : Bool) (x : Flight) → i < length all → length marks ≡ length all → get_or marks i mark ≡ false → x ≡ get_or all i x
    → unmarked (drop i all) (drop i marks) ≡ x ∷ unmarked (drop (i + 1) all) (drop (i + 1) marks)
at_unmarked all marks i mark x below same is met = unmarked_at all marks i x mark below same ∙ met_unmarked (get_or marks i mark) x (get_or all i x) (unmarked (drop (i + 1) all) (drop (i + 1) marks)) is met

nothing_more : (b : Bool) (x : Flight) (l : List Flight) → b ≡ true → l ++ (if b then [] else x ∷ []) ≡ l
nothing_more true x l is = append-nil l
nothing_more false x l is = cc is

one_more : (b : Bool) (x y : Flight) (l : List Flight) → b ≡ false → x ≡ y → l ++ (if b then [] else y ∷ []) ≡ l ++ x ∷ []
one_more true x y l is same = cc is
one_more false x y l is same = ap (λ f. l ++ f ∷ []) (sym same)

pub so_far_marked : (all : List Flight) (marks : List Bool) (i : ℕ) (mark : Bool) → i < length all → length marks ≡ length all → get_or marks i mark ≡ true
    → unmarked (take i all) (take i marks) ≡ unmarked (take (i + 1) all) (take (i + 1) marks)
so_far_marked [] marks i mark below same is = absurd (omega (arith, below))
so_far_marked (x ∷ xs) marks i mark below same is = sym (unmarked_more (x ∷ xs) marks i x mark below same ∙ nothing_more (get_or marks i mark) (get_or (x ∷ xs) i x) (unmarked (take i (x ∷ xs)) (take i marks)) is)

pub so_far_unmarked : (all : List Flight) (marks : List Bool) (i : ℕ) (mark : Bool) (x : Flight) → i < length all → length marks ≡ length all → get_or marks i mark ≡ false → x ≡ get_or all i x
    → unmarked (take i all) (take i marks) ++ x ∷ [] ≡ unmarked (take (i + 1) all) (take (i + 1) marks)
so_far_unmarked all marks i mark x below same is met = sym (unmarked_more all marks i x mark below same ∙ one_more (get_or marks i mark) x (get_or all i x) (unmarked (take i all) (take i marks)) is met)

-- a flight that fails the test is passed over
find_skips : (b : Bool) (x : Flight) (o : Option Flight) → b ≡ false → (if b then Some x else o) ≡ o
find_skips true x o is = cc is
find_skips false x o is = refl

pub find_past : (p : Flight → Bool) (x : Flight) (rest : List Flight) → p x ≡ false → find p (x ∷ rest) ≡ find p rest
find_past p x rest is = find_skips (p x) x (find p rest) is

any_skips : (b c : Bool) → b ≡ false → (b || c) ≡ c
any_skips true c is = cc is
any_skips false c is = refl

pub any_past : (p : Flight → Bool) (x : Flight) (rest : List Flight) → p x ≡ false → list_any p (x ∷ rest) ≡ list_any p rest
any_past p x rest is = any_skips (p x) (list_any p rest) is

out_go : (b : Bool) (x : Flight) (rest more : List Flight) → b ≡ true → (if b then rest else x ∷ more) ≡ rest
out_go true x rest more is = refl
out_go false x rest more is = cc is

past_go : (b : Bool) (x : Flight) (rest more : List Flight) → b ≡ false → (if b then rest else x ∷ more) ≡ x ∷ more
past_go true x rest more is = cc is
past_go false x rest more is = refl

-- the first of the number is left out
pub left_out : (n : ℕ) (x : Flight) (rest : List Flight) → (x.number == n) ≡ true → without_flight n (x ∷ rest) ≡ rest
left_out n x rest is = out_go (x.number == n) x rest (without_flight n rest) is

pub left_past : (n : ℕ) (x : Flight) (rest : List Flight) → (x.number == n) ≡ false → without_flight n (x ∷ rest) ≡ x ∷ without_flight n rest
left_past n x rest is = past_go (x.number == n) x rest (without_flight n rest) is

-- ---- numbers, as the code compares them

pub other_number : (x y : Flight) (n : ℕ) → x ≡ y → (y.number ≡ n → ⊥) → (x.number == n) ≡ false
other_number x y n is other = let apart : (y.number == n) ≡ false = grind (arith, nat_tests, other) in ap (λ f. f.number == n) is ∙ apart

pub its_number : (x y : Flight) (n : ℕ) → x ≡ y → y.number ≡ n → (x.number == n) ≡ true
its_number x y n is same = let equal : (y.number == n) ≡ true = grind (arith, nat_tests, same) in ap (λ f. f.number == n) is ∙ equal
