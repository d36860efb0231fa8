-- A step that concerns other callers' data leaves a caller's own as they were.
use Rattle.std.proofs.Common.{◌≡◌, ℕ, Bool, true, false, List, [], ◌∷◌, map, filter, Option, Some, None, refl, sym, ap, subst, ◌∙◌}
use Rattle.std.specs.Prelude.{IfSome}
use Rattle.std.specs.Str.{bytes_eq}
use Rattle.std.specs.List.{list_any, AllByRecursion}
use Rattle.list_laws.proofs.Elements.{both_all, all_such}
use Rattle.sorted_lists.specs.Keys.{item_at}
use Rattle.wl_selector.specs.Selectors.{has_text}
use Rattle.wl_entry.specs.Asks.{ask_of, is_ask_of}
use Rattle.wl_entry.specs.Same.{same_ask}
use Rattle.wl_entry.specs.Entitled.{is_entitled}
use Rattle.wl_entry.specs.Keys.{svid_key}
use Rattle.wl_entry.specs.declared.asks.Ask.{Ask}
use Rattle.wl_entry.specs.declared.entries.Entry.{Entry}
use Rattle.wl_entry.specs.declared.signing.Svid.{Svid}
use Rattle.wl_snapshot.specs.Snapshots.{Publication, IsPublication}
use Rattle.wl_snapshot.specs.Views.{IsAskedFor, held_of, view_model_of}
use Rattle.wl_snapshot.proofs.Choices.{chosen_by}
use Rattle.wl_snapshot.proofs.ViewModels.{view_model_holds}
use Rattle.svid_cache.specs.Caches.{is_listed, lasts}
use Rattle.svid_cache.specs.declared.install.Installed.{Installed}
use Rattle.svid_cache.specs.declared.install.Installed.TheVariants as installed
use Rattle.wl_store.specs.Stores.{Store, asks_of, svids_after, install, with_entries, after_claim, after_signed}
use Rattle.wl_store.specs.Steps.{Stored, stored_of, stored_after}
use Rattle.wl_store.proofs.UntouchedParts.{svid_put}
use Rattle.wl_secrets.proofs.ViewModels.{shown_after, domain_after}
use Rattle.laws_headline.specs.Own.{own_entries, own_bundles, HaveSameSvids}
use Rattle.laws_headline.specs.Changes.{PublishesNothingNew, NoneHas, ForeignSyncs, ForeignClaims, ForeignSignings, ForeignFailures}
use Rattle.laws_headline.proofs.FilteredLists.{found_kept, IsAmong, all_among, any_filtered, any_map}

-- what is kept after a step has the own data of the last publication
record KeepsOwn (selectors : List (List ℕ)) (p : Publication) (s : Store) : Type 0 where
  entries : own_entries selectors p.entries ≡ own_entries selectors s.entries
  svids : HaveSameSvids p.svids s.svids (own_entries selectors p.entries)
  bundles : own_bundles p.domain (own_entries selectors p.entries) p.bundles ≡ own_bundles p.domain (own_entries selectors p.entries) s.bundles

publishes : (selectors : List (List ℕ)) (s : Store) (m : Stored) → KeepsOwn selectors m.published s → PublishesNothingNew selectors m.published (stored_after s m)
publishes selectors s m keeps =
    let shown = shown_after s m in
    record {
      domain = sym (domain_after s m);
      entries = keeps.entries ∙ ap (own_entries selectors) (sym shown.entries);
      svids = subst (λ (l : List Svid). HaveSameSvids m.published.svids l (own_entries selectors m.published.entries)) (sym shown.svids) keeps.svids;
      bundles = keeps.bundles ∙ ap (own_bundles m.published.domain (own_entries selectors m.published.entries)) (sym shown.bundles);
    }

svids_same : (xs : List Svid) (es : List Entry) → HaveSameSvids xs xs es
svids_same xs [] = tt
svids_same xs (e ∷ es) = (refl, svids_same xs es)

-- ---- a sync

asked_held : (svids : List Svid) (es : List Entry) → AllByRecursion IsAskedFor (map (held_of svids) es) → AllByRecursion (λ (e : Entry). IfSome (item_at svid_key svids e.id) (λ v. is_ask_of e v.ask ≡ true)) es
unfolding held_of
asked_held svids [] all = tt
asked_held svids (e ∷ es) all = (all.0, asked_held svids es all.1)

-- each own SVID is the one that is asked for by its entry
own_asked : (selectors : List (List ℕ)) (p : Publication) → IsPublication p
    → AllByRecursion (λ (e : Entry). IfSome (item_at svid_key p.svids e.id) (λ v. is_ask_of e v.ask ≡ true)) (own_entries selectors p.entries)
unfolding view_model_of
own_asked selectors p is =
    asked_held p.svids (own_entries selectors p.entries) (view_model_holds p (own_entries selectors p.entries) is (chosen_by p (is_entitled selectors) is)).asked

-- the ask of an own entry is one of a document's asks
listed : (selectors : List (List ℕ)) (own es : List Entry) (e : Entry) (a : Ask) → own ≡ own_entries selectors es → IsAmong own e → is_ask_of e a ≡ true → is_listed (asks_of es) a ≡ true
unfolding is_listed
listed selectors own es e a are among is =
    any_map (λ b. same_ask b a) ask_of es ∙ any_filtered (λ f. is_ask_of f a) (is_entitled selectors) es (subst (λ (l : List Entry). list_any (λ f. is_ask_of f a) l ≡ true) are (among (λ f. is_ask_of f a) is))

stays_go : (selectors : List (List ℕ)) (own es : List Entry) (e : Entry) (found : Option Svid) → own ≡ own_entries selectors es → IsAmong own e → IfSome found (λ v. is_ask_of e v.ask ≡ true) → IfSome found (λ v. is_listed (asks_of es) v.ask ≡ true)
stays_go selectors own es e None are among is = tt
stays_go selectors own es e (Some v) are among is = listed selectors own es e v.ask are among is

-- a filter that leaves the own SVIDs
left : (t : Svid → Bool) (svids : List Svid) (es : List Entry) → AllByRecursion (λ (e : Entry). IfSome (item_at svid_key svids e.id) (λ v. t v ≡ true)) es → HaveSameSvids svids (filter t svids) es
unfolding item_at
left t svids [] all = tt
left t svids (e ∷ es) all = (sym (found_kept (λ (v : Svid). bytes_eq (svid_key v) e.id) t svids all.0), left t svids es all.1)

pub foreign_syncs : ForeignSyncs
unfolding with_entries
foreign_syncs selectors strict p renew in_flight last d is same =
    let own = own_entries selectors p.entries in
    publishes selectors (with_entries d.entries d.bundles d.renew_before (stored_of strict p renew in_flight last).store) (stored_of strict p renew in_flight last) (record {
      entries = same.entries;
      svids = left (λ (v : Svid). is_listed (asks_of d.entries) v.ask) p.svids own
          (all_such (λ (e : Entry). IsAmong own e × IfSome (item_at svid_key p.svids e.id) (λ v. is_ask_of e v.ask ≡ true)) (λ (e : Entry). IfSome (item_at svid_key p.svids e.id) (λ v. is_listed (asks_of d.entries) v.ask ≡ true)) own
          (λ e both. stays_go selectors own d.entries e (item_at svid_key p.svids e.id) same.entries both.0 both.1)
          (both_all (IsAmong own) (λ (e : Entry). IfSome (item_at svid_key p.svids e.id) (λ v. is_ask_of e v.ask ≡ true)) own (all_among own) (own_asked selectors p is)));
      bundles = same.bundles;
    })

-- ---- a claim

pub foreign_claims : ForeignClaims
unfolding after_claim
foreign_claims selectors strict p renew in_flight last now own =
    publishes selectors (after_claim now (stored_of strict p renew in_flight last).store) (stored_of strict p renew in_flight last) (record {
      entries = refl;
      svids = left (lasts now) p.svids (own_entries selectors p.entries) own;
      bundles = refl;
    })

-- ---- an identity

not_text : (id q : List ℕ) → bytes_eq id q ≡ false → has_text (id ∷ []) q ≡ false
unfolding has_text
not_text id q off = rw off refl

put_after : (v : Svid) (svids : List Svid) (q : List ℕ) (i : Installed) → bytes_eq v.ask.entry_id q ≡ false → item_at svid_key svids q ≡ item_at svid_key (svids_after i v svids) q
put_after v svids q installed.Kept off = sym (svid_put v svids q (not_text v.ask.entry_id q off))
put_after v svids q installed.Spent off = refl
put_after v svids q installed.NoSuchAsk off = refl
put_after v svids q (installed.Unfit u) off = refl
put_after v svids q (installed.Older n) off = refl

others_stay : (v : Svid) (svids : List Svid) (i : Installed) (es : List Entry) → NoneHas v.ask.entry_id es → HaveSameSvids svids (svids_after i v svids) es
others_stay v svids i [] none = tt
others_stay v svids i (e ∷ es) none = (put_after v svids e.id i none.0, others_stay v svids i es none.1)

pub foreign_signings : ForeignSignings
unfolding after_signed
foreign_signings selectors strict p renew in_flight last now ticket ask signed none =
    publishes selectors (after_signed now ticket ask signed (stored_of strict p renew in_flight last).store) (stored_of strict p renew in_flight last) (record {
      entries = refl;
      svids = others_stay (record { ask = ask; signed = signed }) p.svids (install now ask signed (stored_of strict p renew in_flight last).store) (own_entries selectors p.entries) none;
      bundles = refl;
    })

-- ---- a failure

pub foreign_failures : ForeignFailures
foreign_failures selectors strict p renew in_flight last ticket = record { domain = refl; entries = refl; svids = svids_same p.svids (own_entries selectors p.entries); bundles = refl }
