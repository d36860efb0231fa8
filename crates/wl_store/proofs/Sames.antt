-- A publication shows its own parts.
use Rattle.std.specs.Prelude.{◌≡◌, ◌&&◌, Bool, true, false, List}
use Rattle.std.specs.Cmp.Lexicographic.{pointwise}
use Rattle.std.proofs.Common.{refl, ◌∙◌}
use Rattle.wl_store.proofs.Common.{Entry, Bundle, Svid, same_svid, Publication}
use Rattle.wl_entry.specs.Same.{same_entry, same_bundle}
use Rattle.wl_entry.proofs.Sames.{both_true, list_self, entry_self, svid_self, bundle_self}
use Rattle.wl_store.specs.Stores.{shows_parts}

-- a publication shows its own parts
pub shows_itself : (p : Publication) → shows_parts p p.entries p.svids p.bundles ≡ true
shows_itself p = both_true _ _ (list_self same_entry entry_self p.entries) (both_true _ _ (list_self same_svid svid_self p.svids) (list_self same_bundle bundle_self p.bundles))

shows_go : (a b c : Bool) → a ≡ true → c ≡ true → (a && (b && c)) ≡ b
shows_go true true true own also = refl
shows_go true false c own also = refl
shows_go true true false own also = also
shows_go false b c own also = cc own

-- with its own entries and bundles it shows those SVIDs that are its own
pub shows_svids : (p : Publication) (entries : List Entry) (bundles : List Bundle) (svids : List Svid) → entries ≡ p.entries → bundles ≡ p.bundles → shows_parts p entries svids bundles ≡ pointwise same_svid p.svids svids
shows_svids p entries bundles svids are also =
    (λ i. shows_parts p (are i) svids (also i)) ∙ shows_go (pointwise same_entry p.entries p.entries) (pointwise same_svid p.svids svids) (pointwise same_bundle p.bundles p.bundles) (list_self same_entry entry_self p.entries) (list_self same_bundle bundle_self p.bundles)
