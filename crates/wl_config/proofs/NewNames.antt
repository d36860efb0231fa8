-- Endpoints more, whose names are new ones, and their sockets.
use Rattle.std.proofs.Common.{◌≡◌, ℕ, ◌||◌, ◌&&◌, List, [], ◌∷◌, ◌++◌, map, Bool, true, false, not, refl, sym, ◌∙◌, ap, ap₂, true≢false}
use Rattle.std.specs.List.{list_any, AllByRecursion}
use Rattle.std.specs.Str.{bytes_eq}
use Rattle.list_laws.proofs.Elements.{all_append}
use Rattle.wl_config.specs.SocketPlaces.{name_of}
use Rattle.wl_config.specs.Endpoints.{was_given, are_distinct, are_apart, are_new}
use Rattle.wl_config.specs.Sockets.{fact_of, SocketWithin, SocketsWithin}
use Rattle.wl_config.specs.declared.config.SocketFact.{SocketFact}
use Rattle.wl_config.specs.declared.endpoints.Endpoint.{Endpoint}

abbrev names : List SocketFact → List (List ℕ)
names sockets = map (λ s. name_of s.place) sockets

-- some socket has this name
abbrev given : List SocketFact → List ℕ → Bool
given before name = list_any (λ s. bytes_eq name (name_of s.place)) before

none_of : (a b : Bool) → (a || b) ≡ false → (a ≡ false) × (b ≡ false)
none_of true b h = absurd (true≢false h)
none_of false b h = (refl, h)

both_of : (a b : Bool) → (a && b) ≡ true → (a ≡ true) × (b ≡ true)
both_of true b h = (refl, h)
both_of false b h = absurd (true≢false (sym h))

isn't : (a : Bool) → not a ≡ true → a ≡ false
isn't true h = absurd (true≢false (sym h))
isn't false h = refl

module _ (n : ℕ) (texts : List (List ℕ)) where
  abbrev facts : List Endpoint → List SocketFact
  facts ends = map (fact_of n texts) ends

  own_like : (p : List ℕ) (ends : List Endpoint) → list_any (λ q. bytes_eq q p) (names (facts ends)) ≡ list_any (λ f. bytes_eq (name_of f.place) p) ends
  own_like p [] = refl
  own_like p (f ∷ fs) = ap (λ b. bytes_eq (name_of f.place) p || b) (own_like p fs)

  -- none of them has the name p
  none_like : (p : List ℕ) (ts : List SocketFact) (ends : List Endpoint) → list_any (λ q. bytes_eq q p) (names ts) ≡ false → list_any (λ f. bytes_eq (name_of f.place) p) ends ≡ false → list_any (λ q. bytes_eq q p) (names (ts ++ facts ends)) ≡ false
  none_like p [] ends none all = own_like p ends ∙ all
  none_like p (t ∷ ts) ends none all =
      let first = none_of (bytes_eq (name_of t.place) p) (list_any (λ q. bytes_eq q p) (names ts)) none in
      ap₂ (λ x y. x || y) first.0 (none_like p ts ends first.1 all)

  -- endpoints that are new beside t and ts are new beside each of the two
  apart : (t : SocketFact) (ts : List SocketFact) (ends : List Endpoint) → list_any (λ f. given (t ∷ ts) (name_of f.place)) ends ≡ false → (list_any (λ f. bytes_eq (name_of f.place) (name_of t.place)) ends ≡ false) × (list_any (λ f. given ts (name_of f.place)) ends ≡ false)
  apart t ts [] none = (refl, refl)
  apart t ts (f ∷ fs) none =
      let first = none_of (given (t ∷ ts) (name_of f.place)) (list_any (λ f. given (t ∷ ts) (name_of f.place)) fs) none in
      let one = none_of (bytes_eq (name_of f.place) (name_of t.place)) (given ts (name_of f.place)) first.0 in
      let rest = apart t ts fs first.1 in
      (ap₂ (λ x y. x || y) one.0 rest.0, ap₂ (λ x y. x || y) one.1 rest.1)

  own_apart : (ends : List Endpoint) → are_distinct (names (facts ends)) ≡ are_apart ends
  own_apart [] = refl
  own_apart (f ∷ fs) = ap₂ (λ x y. not x && y) (own_like (name_of f.place) fs) (own_apart fs)

  distinct_all : (before : List SocketFact) (ends : List Endpoint) → are_distinct (names before) ≡ true → are_apart ends ≡ true → list_any (λ f. given before (name_of f.place)) ends ≡ false → are_distinct (names (before ++ facts ends)) ≡ true
  distinct_all [] ends old own new = own_apart ends ∙ own
  distinct_all (t ∷ ts) ends old own new =
      let first = both_of (not (list_any (λ q. bytes_eq q (name_of t.place)) (names ts))) (are_distinct (names ts)) old in
      let split = apart t ts ends new in
      ap₂ (λ x y. not x && y) (none_like (name_of t.place) ts ends (isn't (list_any (λ q. bytes_eq q (name_of t.place)) (names ts)) first.0) split.0) (distinct_all ts ends first.1 own split.1)

  pub within_added : (before : List SocketFact) (ends : List Endpoint) → SocketsWithin before → AllByRecursion SocketWithin (facts ends) → are_new before ends ≡ true → SocketsWithin (before ++ facts ends)
  unfolding are_new was_given
  within_added before ends all own new =
      let fresh = both_of (not (list_any (λ f. given before (name_of f.place)) ends)) (are_apart ends) new in
      record {
        each = all_append SocketWithin before (facts ends) all.each own;
        distinct = distinct_all before ends all.distinct fresh.1 (isn't (list_any (λ f. given before (name_of f.place)) ends) fresh.0);
      }
