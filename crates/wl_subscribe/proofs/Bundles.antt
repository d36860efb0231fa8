-- Where all bundles are the same no entry federates anew.
use Rattle.std.specs.Prelude.{◌≡◌, ℕ, ◌||◌, if◌then◌else◌, Bool, true, false, not, List, [], ◌∷◌, filter, Option, Some, None}
use Rattle.std.specs.Option.{option_eq}
use Rattle.std.specs.List.{list_any}
use Rattle.std.specs.Cmp.Lexicographic.{pointwise}
use Rattle.std.proofs.Common.{refl, sym, ◌∙◌, ap, subst}
use Rattle.wl_subscribe.proofs.Common.{item_at, is_entitled, Bundle, Entry, Publication}
use Rattle.wl_entry.specs.Keys.{bundle_key}
use Rattle.wl_entry.specs.Same.{same_bundle}
use Rattle.wl_entry.proofs.Sames.{bundles_are, bundle_self}
use Rattle.wl_subscribe.specs.Differing.{is_other_bundle, federates_anew}

same_found : (found : Option Bundle) → option_eq same_bundle found found ≡ true
same_found None = refl
same_found (Some b) = bundle_self b

same_there : (xs ys : List Bundle) (domain : List ℕ) → xs ≡ ys → option_eq same_bundle (item_at bundle_key xs domain) (item_at bundle_key ys domain) ≡ true
same_there xs ys domain is =
    subst (λ zs. option_eq same_bundle (item_at bundle_key xs domain) (item_at bundle_key zs domain) ≡ true) is (same_found (item_at bundle_key xs domain))

not_other : (old new : Publication) (domain : List ℕ) → old.bundles ≡ new.bundles → is_other_bundle old new domain ≡ false
unfolding is_other_bundle
not_other old new domain is = ap not (same_there old.bundles new.bundles domain is)

none_other : (old new : Publication) (domains : List (List ℕ)) → old.bundles ≡ new.bundles → list_any (is_other_bundle old new) domains ≡ false
none_other old new [] is = refl
none_other old new (d ∷ ds) is = λ i. not_other old new d is i || none_other old new ds is i

not_anew : (old new : Publication) (e : Entry) → old.bundles ≡ new.bundles → federates_anew old new e ≡ false
unfolding federates_anew
not_anew old new e is = none_other old new e.federates_with is

none_pass : {X : Type 0} (t : X → Bool) → ((x : X) → t x ≡ false) → (xs : List X) → filter t xs ≡ []
none_pass t fails [] = refl
none_pass t fails (x ∷ xs) = ap (λ b. if b then x ∷ filter t xs else filter t xs) (fails x) ∙ none_pass t fails xs

pub none_federates : (old new : Publication) → pointwise same_bundle old.bundles new.bundles ≡ true → filter (federates_anew old new) new.entries ≡ []
none_federates old new same = none_pass (federates_anew old new) (λ e. not_anew old new e (bundles_are old.bundles new.bundles same)) new.entries

-- nobody is hit because of no entry
pub none_hit : (hit : Bool) (selectors : List (List ℕ)) (entries : List Entry) → entries ≡ [] → hit ≡ (hit || list_any (is_entitled selectors) entries)
none_hit true selectors entries none = refl
none_hit false selectors entries none = sym (ap (list_any (is_entitled selectors)) none)
