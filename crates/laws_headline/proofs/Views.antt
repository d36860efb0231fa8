-- What is a caller's own decides its view.
use Rattle.std.proofs.Common.{◌≡◌, ℕ, List, [], ◌∷◌, map, filter, refl, sym, ap, subst, ◌∙◌}
use Rattle.wl_entry.specs.Entitled.{is_entitled}
use Rattle.wl_entry.specs.declared.entries.Entry.{Entry}
use Rattle.wl_entry.specs.declared.signing.Svid.{Svid}
use Rattle.wl_snapshot.specs.Views.{held_of, is_seen, view_model_of, view_in}
use Rattle.laws_headline.specs.Own.{own_entries, own_bundles, HaveSameSvids, OwnDecidesViews, OwnIsShared}

held_alike : (xs ys : List Svid) (es : List Entry) → HaveSameSvids xs ys es → map (held_of xs) es ≡ map (held_of ys) es
unfolding held_of
held_alike xs ys [] same = refl
held_alike xs ys (e ∷ es) same = λ i. record { entry = e; svid = same.0 i } ∷ held_alike xs ys es same.1 i

pub own_views : OwnDecidesViews
unfolding view_in view_model_of
own_views selectors p q same =
    let held : map (held_of p.svids) (filter (is_entitled selectors) p.entries) ≡ map (held_of q.svids) (filter (is_entitled selectors) q.entries) =
    held_alike p.svids q.svids (filter (is_entitled selectors) p.entries) same.svids ∙ ap (map (held_of q.svids)) same.entries in
    let bundles : filter (is_seen p.domain (filter (is_entitled selectors) p.entries)) p.bundles ≡ filter (is_seen q.domain (filter (is_entitled selectors) q.entries)) q.bundles =
    same.bundles ∙ (λ i. filter (is_seen (same.domain i) (same.entries i)) q.bundles) in
    λ i. record { domain = same.domain i; held = held i; bundles = bundles i }

svids_shared : (xs ys zs : List Svid) (es : List Entry) → HaveSameSvids xs ys es → HaveSameSvids xs zs es → HaveSameSvids ys zs es
svids_shared xs ys zs [] one two = tt
svids_shared xs ys zs (e ∷ es) one two = (sym one.0 ∙ two.0, svids_shared xs ys zs es one.1 two.1)

pub own_shared : OwnIsShared
own_shared selectors p q r one two = record {
  domain = sym one.domain ∙ two.domain;
  entries = sym one.entries ∙ two.entries;
  svids = subst (λ (es : List Entry). HaveSameSvids q.svids r.svids es) one.entries (svids_shared p.svids q.svids r.svids (own_entries selectors p.entries) one.svids two.svids);
  bundles = subst (λ (es : List Entry). own_bundles q.domain es q.bundles ≡ own_bundles q.domain es r.bundles) one.entries
      (subst (λ (d : List ℕ). own_bundles d (own_entries selectors p.entries) q.bundles ≡ own_bundles d (own_entries selectors p.entries) r.bundles) one.domain (sym one.bundles ∙ two.bundles));
}
