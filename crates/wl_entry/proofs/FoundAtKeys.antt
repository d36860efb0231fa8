-- What is found at a key passes the test that no other item of that key passes.
use Rattle.std.specs.Prelude.{◌≡◌, ℕ, Bool, true, false, not, if◌then◌else◌, List, [], ◌∷◌, map, filter, find, Option, Some}
use Rattle.std.specs.Str.{bytes_eq}
use Rattle.std.specs.List.{list_any}
use Rattle.std.proofs.Common.{refl, sym, ◌∙◌, subst}
use Rattle.std.proofs.lemmas.Bool.{or_parts}
use Rattle.list_laws.specs.Keys.{item_at}
use Rattle.wl_selector.specs.Selectors.{has_text}

found_go : {X : Type 0} (key : X → List ℕ) (t : X → Bool) (id : List ℕ) (y : X) (rest : Option X) (found : List X) (x : X) (b c : Bool) → bytes_eq (key y) id ≡ b → t y ≡ c
    → has_text (map key (if not c then y ∷ found else found)) id ≡ false → (if b then Some y else rest) ≡ Some x → (has_text (map key found) id ≡ false → rest ≡ Some x → t x ≡ true) → t x ≡ true
unfolding has_text
found_go key t id y rest found x true true at is out there later = subst (λ z. t z ≡ true) (let same : y ≡ x = cc there in same) is
found_go key t id y rest found x true false at is out there later =
    let parts = or_parts (bytes_eq (key y) id) (list_any (λ other. bytes_eq other id) (map key found)) out in cc (sym at ∙ parts.0)
found_go key t id y rest found x false true at is out there later = later out there
found_go key t id y rest found x false false at is out there later = later (or_parts (bytes_eq (key y) id) (list_any (λ other. bytes_eq other id) (map key found)) out).1 there

pub found_passes : {X : Type 0} (key : X → List ℕ) (t : X → Bool) (id : List ℕ) (xs : List X) (x : X) → has_text (map key (filter (λ y. not (t y)) xs)) id ≡ false → item_at key xs id ≡ Some x → t x ≡ true
unfolding item_at
found_passes key t id [] x out there = cc there
found_passes key t id (y ∷ ys) x out there = found_go key t id y (find (λ z. bytes_eq (key z) id) ys) (filter (λ z. not (t z)) ys) x (bytes_eq (key y) id) (t y) refl refl out there (found_passes key t id ys x)
