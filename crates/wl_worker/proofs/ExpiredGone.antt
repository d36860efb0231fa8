-- What the last publication shows once what has ended was let go.
use Rattle.std.specs.Prelude.{◌≡◌, ℕ, ◌<◌, Bool, true, false, if◌then◌else◌, List, [], ◌∷◌, filter}
use Rattle.std.specs.List.{AllByRecursion}
use Rattle.std.proofs.Common.{arith, refl, sym, ◌∙◌, ap, subst}
use Rattle.std.proofs.lemmas.Bool.Decides.{nat_tests}
use Rattle.wl_entry.specs.declared.signing.Svid.{Svid}
use Rattle.wl_worker.proofs.Common.{Publication, IsLast}
use Rattle.svid_cache.specs.Caches.{lasts}
use Rattle.wl_store.specs.Stores.{Store, after_claim, shows_parts}
use Rattle.wl_store.specs.Steps.{Stored, stored_after}
use Rattle.wl_store.proofs.StoreSteps.{settled_same, settled_new}
use Rattle.wl_worker.specs.Upkeep.{NoneEnded}

abbrev AllLast : ℕ → List Svid → Type 0
AllLast now svids = AllByRecursion (λ (v : Svid). now < v.signed.not_after) svids

last_go : (now : ℕ) (v : Svid) (rest : List Svid) (b : Bool) → lasts now v ≡ b → AllLast now rest → AllLast now (if b then v ∷ rest else rest)
last_go now v rest true is all = (grind (arith, nat_tests, is), all)
last_go now v rest false is all = all

all_last : (now : ℕ) (svids : List Svid) → AllLast now (filter (lasts now) svids)
all_last now [] = tt
all_last now (v ∷ more) = last_go now v (filter (lasts now) more) (lasts now v) refl (all_last now more)

claimed_svids : (now : ℕ) (s : Store) → (after_claim now s).svids ≡ filter (lasts now) s.svids
unfolding after_claim
claimed_svids now s = refl

shown_svids : (b : Bool) (s : Store) (m : Stored) → shows_parts m.published s.entries s.svids s.bundles ≡ b → (stored_after s m).published.svids ≡ s.svids
shown_svids true s m is = let same = settled_same s m is in sym (ap (λ (n : Stored). n.published.svids) same) ∙ ap (λ (n : Stored). n.store.svids) same
shown_svids false s m is = sym (ap (λ (n : Stored). n.published.svids) (settled_new s m is))

-- no SVID of the last publication has ended once the desk was asked what is due
pub none_ended : (now : ℕ) (list : List Publication) (m n : Stored) → IsLast list n.published → n ≡ stored_after (after_claim now m.store) m → NoneEnded now list
none_ended now list m n last is =
    let s = after_claim now m.store in
    let svids = ap (λ (k : Stored). k.published.svids) is ∙ shown_svids (shows_parts m.published s.entries s.svids s.bundles) s m refl ∙ claimed_svids now m.store in
    (n.published, last, subst (λ (l : List Svid). AllLast now l) (sym svids) (all_last now m.store.svids))
