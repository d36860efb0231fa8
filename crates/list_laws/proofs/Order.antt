-- The order of byte strings.
use Rattle.std.specs.Prelude.{◌≡◌, ℕ, false, List}
use Rattle.std.specs.Str.{bytes_eq}
use Rattle.std.specs.Ordering.{nat_cmp, is_eq, ordering_reverse}
use Rattle.std.specs.Cmp.Lexicographic.{slice_cmp, nat_list_cmp_total}
use Rattle.std.proofs.Common.{arith, Ordering, Less, Equal, Greater, refl, sym, ◌∙◌, ap}
use Rattle.std.proofs.lemmas.Map.Text.{is_eq-slice_cmp}

abbrev pub order : List ℕ → List ℕ → Ordering
order a b = slice_cmp nat_cmp a b

-- byte strings that an order parts are not equal
pub not_same : (a k : List ℕ) (o : Ordering) → order a k ≡ o → is_eq o ≡ false → bytes_eq a k ≡ false
not_same a k o at other = sym (is_eq-slice_cmp a k) ∙ ap is_eq at ∙ other

pub turned : (a b : List ℕ) → order a b ≡ Less → order b a ≡ Greater
turned a b less = nat_list_cmp_total.antisymm b a ∙ ap ordering_reverse less

level_of : (o : Ordering) → o ≡ ordering_reverse o → o ≡ Equal
level_of Less turned = grind arith
level_of Equal turned = refl
level_of Greater turned = grind arith

-- a byte string is level with itself
pub level_self : (k : List ℕ) → slice_cmp nat_cmp k k ≡ Equal
level_self k = level_of (slice_cmp nat_cmp k k) (nat_list_cmp_total.antisymm k k)
