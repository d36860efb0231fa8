-- Lists of seats: each is ready with its pass, and each is served.
use Rattle.std.specs.Prelude.{◌≡◌, ℕ, suc, ◌<◌, List, [], ◌∷◌, map, length, slice_index_or, Result, Ok, Err, IfOk}
use Rattle.std.specs.List.{All, AllByRecursion, AllZip}
use Rattle.std.proofs.Common.{arith, refl, sym, ap, subst}
use Rattle.std.proofs.lemmas.List.Elements.{All-from_recursion}
use Rattle.wl_entry.specs.declared.asks.Ask.{Ask}
use Rattle.wl_entry.specs.declared.tokens.JwtToken.{JwtToken}
use Rattle.wl_snapshot.specs.Snapshots.{Publication}
use Rattle.wl_publish.specs.Listings.{Listing, Passing, passing}
use Rattle.wl_serve.specs.Views.{SeatView}
use Rattle.wl_serve.specs.Serving.{ends}
use Rattle.wl_serve.specs.Seating.{IsReady, IsIdle, Served, ServedFrom, ArePassesOf, with_pass}

-- what holds at each place holds of the two lists
pub zipped : {T A : Type 0} (f : T → A) (R : A → A → Type 0) (xs ys : List T) → length ys ≡ length xs → ((i : ℕ) (d : T) → i < length xs → R (f (slice_index_or xs i d)) (f (slice_index_or ys i d))) → AllZip R (map f xs) (map f ys)
zipped f R [] [] same at = tt
zipped f R [] (y ∷ ys) same at = let no : ⊥ = omega (arith, same) in absurd no
zipped f R (x ∷ xs) [] same at = let no : ⊥ = omega (arith, same) in absurd no
zipped f R (x ∷ xs) (y ∷ ys) same at = (at 0 x (omega arith), zipped f R xs ys (omega (arith, same)) (λ i d lt. at (suc i) d (omega (arith, lt))))

mapped_all : {T A : Type 0} (f : T → A) (P : A → Type 0) (xs : List T) → AllByRecursion P (map f xs) → AllByRecursion (λ x. P (f x)) xs
mapped_all f P [] all = tt
mapped_all f P (x ∷ xs) all = (all.0, mapped_all f P xs all.1)

-- what holds of each image holds of each element
pub each_of : {T A : Type 0} (f : T → A) (P : A → Type 0) (xs : List T) → AllByRecursion P (map f xs) → All (λ x. P (f x)) xs
each_of f P xs all = All-from_recursion (λ x. P (f x)) xs (mapped_all f P xs all)

-- ---- passes

-- each element is as before except for what f sees of it
pub handed : {T A : Type 0} (f : T → A) (change : A → A) (xs ys : List T) → length ys ≡ length xs → ((i : ℕ) (d : T) → i < length xs → f (slice_index_or ys i d) ≡ change (f (slice_index_or xs i d))) → map f ys ≡ map change (map f xs)
handed f change [] [] same at = refl
handed f change [] (y ∷ ys) same at = let no : ⊥ = omega (arith, same) in absurd no
handed f change (x ∷ xs) [] same at = let no : ⊥ = omega (arith, same) in absurd no
handed f change (x ∷ xs) (y ∷ ys) same at = λ k. at 0 x (omega arith) k ∷ handed f change xs ys (omega (arith, same)) (λ i d lt. at (suc i) d (omega (arith, lt))) k

-- the ends of seats, by what is seen of them
pub ends_shown : {T : Type 0} (xs : List T) (f : T → SeatView) → map (λ x. (f x).end) xs ≡ ends (map f xs)
ends_shown [] f = refl
ends_shown (x ∷ xs) f = λ i. (f x).end ∷ ends_shown xs f i

-- the passes that a publisher begins with
pub passes_are : {E : Type 0} (first named : Publication) → first ≡ named → (r : Result (Listing × List Passing) E) → IfOk r (λ x. AllByRecursion (λ (p : Passing). p ≡ passing x.0.store (first ∷ []) [] (first ∷ [])) x.1) → IfOk r (λ x. ArePassesOf named x.1)
passes_are first named same (Ok x) all = record { given = passing x.0.store (first ∷ []) [] (first ∷ []); seen = ap (λ p. p ∷ []) same; mine = refl; all = all }
passes_are first named same (Err e) all = tt

pub all_ready : (pass : Passing) (vs : List SeatView) → AllByRecursion IsIdle vs → AllByRecursion IsReady (map (with_pass pass) vs)
all_ready pass [] idle = tt
all_ready pass (v ∷ vs) idle = (record { pass = refl; is_open = idle.0.is_open }, all_ready pass vs idle.1)

all_from : (vouched : Ask → List (List ℕ) → JwtToken → Type 0) (links : Type 0) (first : Publication) (pass : Passing) → pass.seen ≡ first ∷ [] → pass.mine ≡ [] → (vs ws : List SeatView) → AllZip (Served vouched links) (map (with_pass pass) vs) ws → AllZip (ServedFrom vouched links first) vs ws
all_from vouched links first pass seen mine [] [] served = tt
all_from vouched links first pass seen mine [] (w ∷ ws) served = absurd served
all_from vouched links first pass seen mine (v ∷ vs) [] served = absurd served
all_from vouched links first pass seen mine (v ∷ vs) (w ∷ ws) served = (record { pass = pass; seen = seen; mine = mine; served = served.0 }, all_from vouched links first pass seen mine vs ws served.1)

-- the same of seats that were given this pass
pub all_given : (vouched : Ask → List (List ℕ) → JwtToken → Type 0) (links : Type 0) (first : Publication) (pass : Passing) → pass.seen ≡ first ∷ [] → pass.mine ≡ [] → (vs us ws : List SeatView) → us ≡ map (with_pass pass) vs → AllZip (Served vouched links) us ws → AllZip (ServedFrom vouched links first) vs ws
all_given vouched links first pass seen mine vs us ws same served = all_from vouched links first pass seen mine vs ws (subst (λ (l : List SeatView). AllZip (Served vouched links) l ws) same served)

-- ---- a call at each seat

-- the seat at a place is ready, as all are
pub ready_at : {T : Type 0} (f : T → SeatView) (xs : List T) → All (λ x. IsReady (f x)) xs → (i : ℕ) (x : T) → i < length xs → x ≡ slice_index_or xs i x → IsReady (f x)
ready_at f xs all i x lt same = subst (λ s. IsReady (f s)) (sym same) (all i x lt)

-- what a call does to a seat it does to the seat at that place
pub served_at : (vouched : Ask → List (List ℕ) → JwtToken → Type 0) (links : Type 0) {T : Type 0} (f : T → SeatView) {x y a b : T} → a ≡ x → b ≡ y → Served vouched links (f a) (f b) → Served vouched links (f x) (f y)
served_at vouched links f {x} {y} {a} {b} first last served = subst (λ t. Served vouched links (f x) (f t)) last (subst (λ t. Served vouched links (f t) (f b)) first served)
