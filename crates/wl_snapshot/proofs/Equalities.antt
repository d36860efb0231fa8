-- Views are the same exactly where they are equal.
use Rattle.std.specs.Prelude.{◌≡◌, ◌↔◌, Bool, true, Option, Some, None}
use Rattle.std.specs.Option.{option_eq}
use Rattle.std.specs.Str.{bytes_eq}
use Rattle.std.specs.Cmp.Lexicographic.{pointwise}
use Rattle.std.proofs.Common.{arith, refl, ap, subst}
use Rattle.std.proofs.lemmas.Bool.{and_parts}
use Rattle.list_laws.proofs.Equality.{bytes_are, same_bytes, lists_are}
use Rattle.wl_entry.specs.Same.{same_entry, same_svid, same_bundle}
use Rattle.wl_entry.proofs.Sames.{entry_is, svid_is, bundle_is, both_true, list_self, entry_self, svid_self, bundle_self}
use Rattle.wl_snapshot.specs.declared.views.Held.{Held}
use Rattle.wl_snapshot.specs.Views.{ViewModel}
use Rattle.wl_snapshot.specs.Same.{same_held, same_view_model}

-- ---- what the test finds the same is equal

pub options_are : {X : Type 0} (t : X → X → Bool) → ((x y : X) → t x y ≡ true → x ≡ y) → (a b : Option X) → option_eq t a b ≡ true → a ≡ b
options_are t decides None None is = refl
options_are t decides None (Some y) is = grind (arith, is)
options_are t decides (Some x) None is = grind (arith, is)
options_are t decides (Some x) (Some y) is = ap Some (decides x y is)

held_is : (a b : Held) → same_held a b ≡ true → a ≡ b
held_is a b is =
    let parts = and_parts (same_entry a.entry b.entry) (option_eq same_svid a.svid b.svid) is in
    λ i. record { entry = entry_is a.entry b.entry parts.0 i; svid = options_are same_svid svid_is a.svid b.svid parts.1 i }

pub view_model_is : (a b : ViewModel) → same_view_model a b ≡ true → a ≡ b
unfolding same_view_model
view_model_is a b is =
    let domain = and_parts (bytes_eq a.domain b.domain) _ is in
    let parts = and_parts (pointwise same_held a.held b.held) (pointwise same_bundle a.bundles b.bundles) domain.1 in
    λ i. record { domain = bytes_are a.domain b.domain domain.0 i; held = lists_are same_held held_is a.held b.held parts.0 i; bundles = lists_are same_bundle bundle_is a.bundles b.bundles parts.1 i }

-- ---- a view is the same as itself

option_self : {X : Type 0} (t : X → X → Bool) → ((x : X) → t x x ≡ true) → (a : Option X) → option_eq t a a ≡ true
option_self t self None = refl
option_self t self (Some x) = self x

held_self : (a : Held) → same_held a a ≡ true
held_self a = both_true _ _ (entry_self a.entry) (option_self same_svid svid_self a.svid)

pub view_model_self : (a : ViewModel) → same_view_model a a ≡ true
unfolding same_view_model
view_model_self a = both_true _ _ (same_bytes a.domain) (both_true _ _ (list_self same_held held_self a.held) (list_self same_bundle bundle_self a.bundles))

pub view_models_equal : (a b : ViewModel) → (same_view_model a b ≡ true) ↔ (a ≡ b)
view_models_equal a b = (view_model_is a b, λ is. subst (λ c. same_view_model a c ≡ true) is (view_model_self a))
