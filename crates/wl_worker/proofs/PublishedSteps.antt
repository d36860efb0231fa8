-- What the last publication shows after a step of the store.
use Rattle.std.specs.Prelude.{◌≡◌, ℕ, ◌+◌, Bool, true, false, List, [], ◌∷◌, ◌++◌, filter, Option, Some, None, IfSome, Result, Ok, Err, IsOkAnd}
use Rattle.std.specs.List.{Contains}
use Rattle.std.proofs.Common.{arith, refl, sym, ◌∙◌, ap, subst}
use Rattle.logbook.specs.Pages.{Book}
use Rattle.wl_worker.proofs.Common.{Ask, Signed, Publication, IsLast}
use Rattle.wl_entry.specs.declared.signing.Svid.{Svid}
use Rattle.wl_document.specs.declared.fault.DocFault.{DocFault}
use Rattle.wl_document.specs.declared.fault.DocFault.TheVariants.{NotJson, Version, Missing, Kind, Id, Selector, NoSelectors, Duplicate, ForeignDomain, Base64, NoOwnBundle, TooMany, TooLong, Memory}
use Rattle.wl_document.specs.Checks.{Faults}
use Rattle.wl_document.specs.Documents.{document_state}
use Rattle.wl_document.specs.States.{State}
use Rattle.svid_cache.specs.Caches.{with_svid, is_below, is_above}
use Rattle.svid_cache.specs.declared.install.Installed.{Installed}
use Rattle.svid_cache.specs.declared.install.Installed.TheVariants as installed
use Rattle.wl_store.specs.declared.tickets.Change.{Change}
use Rattle.wl_store.specs.declared.tickets.Change.TheVariants as change
use Rattle.wl_store.specs.Stores.{Store, with_entries, after_signed, install, svids_after, shows_parts}
use Rattle.wl_store.specs.Steps.{Stored, stored_after, after_sync, change_to}
use Rattle.wl_store.proofs.StoreSteps.{settled_same, settled_new, change_same}
use Rattle.wl_publish.specs.Listings.{Listing, listing}
use Rattle.wl_desk.specs.Desks.{grown, noted}
use Rattle.wl_edge.specs.declared.signer.SignerCall.TheVariants.{X509}
use Rattle.wl_worker.specs.Upkeep.{ShowsState, IsTaken, IsShown}

-- ---- a document

-- the last publication shows the entries and bundles that are kept, and its domain stays
record ShowsKept (s : Store) (before after : Publication) : Type 0 where
  entries : after.entries ≡ s.entries
  bundles : after.bundles ≡ s.bundles
  domain : after.domain ≡ before.domain

shows_kept : (b : Bool) (s : Store) (m : Stored) → shows_parts m.published s.entries s.svids s.bundles ≡ b → ShowsKept s m.published (stored_after s m).published
shows_kept true s m is =
    let same = settled_same s m is in
    record {
      entries = sym (ap (λ (n : Stored). n.published.entries) same) ∙ ap (λ (n : Stored). n.store.entries) same;
      bundles = sym (ap (λ (n : Stored). n.published.bundles) same) ∙ ap (λ (n : Stored). n.store.bundles) same;
      domain = sym (ap (λ (n : Stored). n.published.domain) same);
    }
shows_kept false s m is =
    let new = settled_new s m is in
    record {
      entries = sym (ap (λ (n : Stored). n.published.entries) new);
      bundles = sym (ap (λ (n : Stored). n.published.bundles) new);
      domain = sym (ap (λ (n : Stored). n.published.domain) new);
    }

kept_entries : (d : State) (m : Stored) → (after_sync d m).entries ≡ d.entries
unfolding with_entries
kept_entries d m = refl

kept_bundles : (d : State) (m : Stored) → (after_sync d m).bundles ≡ d.bundles
unfolding with_entries
kept_bundles d m = refl

after_document : (d : State) (m : Stored) → ShowsKept (after_sync d m) m.published (stored_after (after_sync d m) m).published
after_document d m = let s = after_sync d m in shows_kept (shows_parts m.published s.entries s.svids s.bundles) s m refl

-- a document that was taken is shown by the last publication
pub taken_is_shown : (document : List ℕ) (list : List Publication) (m n : Stored) (d : State) → IsLast list n.published → document_state (Some m.published.domain) document ≡ Ok d → n ≡ stored_after (after_sync d m) m → IsTaken document list
taken_is_shown document list m n d last read is =
    let shown = after_document d m in
    let same = ap (λ (k : Stored). k.published) is in
    let domain = ap (λ (p : Publication). p.domain) same ∙ shown.domain in
    let says = ap (λ (own : List ℕ). document_state (Some own) document) domain ∙ read in
    let parts : ShowsState n.published d = (ap (λ (p : Publication). p.entries) same ∙ shown.entries ∙ kept_entries d m, ap (λ (p : Publication). p.bundles) same ∙ shown.bundles ∙ kept_bundles d m) in
    (n.published, last, subst (λ (r : Result State DocFault). IsOkAnd r (ShowsState n.published)) (sym says) parts)

-- ---- a fault

-- a fault other than out of memory is the one that is due
pub fault_is_due : {Y : Type 0} (e : DocFault) (due : Result Y DocFault) → (e ≡ Memory → ⊥) → Faults e due → due ≡ Err e
fault_is_due Memory due other faults = absurd (other refl)
fault_is_due NotJson due other faults = faults
fault_is_due Version due other faults = faults
fault_is_due (Missing p) due other faults = faults
fault_is_due (Kind p) due other faults = faults
fault_is_due (Id p f) due other faults = faults
fault_is_due (Selector p) due other faults = faults
fault_is_due (NoSelectors p) due other faults = faults
fault_is_due (Duplicate p) due other faults = faults
fault_is_due (ForeignDomain p) due other faults = faults
fault_is_due (Base64 p) due other faults = faults
fault_is_due NoOwnBundle due other faults = faults
fault_is_due (TooMany p n) due other faults = faults
fault_is_due (TooLong p n) due other faults = faults

-- ---- an identity

contains_mid : {A : Type 0} (xs ys : List A) (x : A) → Contains (xs ++ x ∷ ys) x
contains_mid [] ys x = (0, omega arith, refl)
contains_mid (y ∷ xs) ys x = let rest = contains_mid xs ys x in (rest.0 + 1, omega (arith, rest.1), grind (arith, rest.2))

contains_kept : (v : Svid) (svids : List Svid) → Contains (with_svid v svids) v
unfolding with_svid
contains_kept v svids = contains_mid (filter (is_below v.ask.entry_id) svids) (filter (is_above v.ask.entry_id) svids) v

kept_svids : (now number : ℕ) (ask : Ask) (signed : Signed) (s : Store) → install now ask signed s ≡ installed.Kept → (after_signed now number ask signed s).svids ≡ with_svid (record { ask = ask; signed = signed }) s.svids
unfolding after_signed
kept_svids now number ask signed s kept = ap (λ (i : Installed). svids_after i (record { ask = ask; signed = signed }) s.svids) kept

-- what is new is what is kept
new_svids : (b : Bool) (s : Store) (m : Stored) → shows_parts m.published s.entries s.svids s.bundles ≡ b → change_to s m ≡ change.New → (stored_after s m).published.svids ≡ s.svids
new_svids true s m is new = let same = change_same s m is ∙ new in grind (arith, same)
new_svids false s m is new = sym (ap (λ (n : Stored). n.published.svids) (settled_new s m is))

new_last : (c : Change) (store : Book) (before after : List Publication) (p : Publication) (note : Listing) → Some note ≡ noted c (listing store after) → after ≡ grown before c p → (c ≡ change.New) × IsLast note.list p
new_last change.Same store before after p note noted grows = absurd (grind (arith, noted))
new_last change.New store before after p note noted grows =
    let same : note ≡ listing store after = grind (arith, noted) in
    (refl, (before, ap (λ (l : Listing). l.list) same ∙ grows))

-- an identity that was kept, with a note, is an SVID of the note's last publication
pub kept_is_shown : (now number : ℕ) (ask : Ask) (signed : Signed) (store : Book) (m n : Stored) (before after : List Publication) (note : Listing) →
    installed.Kept ≡ install now ask signed m.store →
    n ≡ stored_after (after_signed now number ask signed m.store) m →
    after ≡ grown before (change_to (after_signed now number ask signed m.store) m) n.published →
    Some note ≡ noted (change_to (after_signed now number ask signed m.store) m) (listing store after) →
    IsShown note.list (X509 ask (Some signed))
kept_is_shown now number ask signed store m n before after note kept is grows notes =
    let s = after_signed now number ask signed m.store in
    let last = new_last (change_to s m) store before after n.published note notes grows in
    let v : Svid = record { ask = ask; signed = signed } in
    let svids = ap (λ (k : Stored). k.published.svids) is ∙ new_svids (shows_parts m.published s.entries s.svids s.bundles) s m refl last.0 ∙ kept_svids now number ask signed m.store (sym kept) in
    (n.published, last.1, subst (λ (l : List Svid). Contains l v) (sym svids) (contains_kept v m.store.svids))

-- the same of a ticket that may not be in flight: then nothing is kept
pub kept_note : (in_flight : Bool) (now number : ℕ) (ask : Ask) (signed : Signed) (store : Book) (m n : Stored) (before after : List Publication) (answer : Installed) (note : Option Listing) →
    (in_flight ≡ false → answer ≡ installed.Spent) →
    (in_flight ≡ true → n ≡ stored_after (after_signed now number ask signed m.store) m) →
    (in_flight ≡ true → answer ≡ install now ask signed m.store) →
    (in_flight ≡ true → after ≡ grown before (change_to (after_signed now number ask signed m.store) m) n.published) →
    (in_flight ≡ true → note ≡ noted (change_to (after_signed now number ask signed m.store) m) (listing store after)) →
    answer ≡ installed.Kept →
    IfSome note (λ l. IsShown l.list (X509 ask (Some signed)))
kept_note in_flight now number ask signed store m n before after answer None spent is installs grows notes kept = tt
kept_note true now number ask signed store m n before after answer (Some note) spent is installs grows notes kept =
    kept_is_shown now number ask signed store m n before after note (sym kept ∙ installs refl) (is refl) (grows refl) (notes refl)
kept_note false now number ask signed store m n before after answer (Some note) spent is installs grows notes kept =
    let never = sym (spent refl) ∙ kept in absurd (grind (arith, never))
