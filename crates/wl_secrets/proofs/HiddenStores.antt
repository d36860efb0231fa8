-- A store without the chains and keys of foreign SVIDs: each step of the store goes through that.
use Rattle.std.proofs.Common.{◌≡◌, ℕ, ◌+◌, Bool, true, not, if◌then◌else◌, List, [], ◌∷◌, ◌++◌, map, filter, length, Option, Some, None, option_map, refl, sym, ap, ◌∙◌}
use Rattle.std.specs.Prelude.{unwrap_or}
use Rattle.std.proofs.lemmas.List.{map-append}
use Rattle.wl_entry.specs.Same.{same_ask}
use Rattle.wl_entry.specs.declared.asks.Ask.{Ask}
use Rattle.wl_secrets.proofs.Common.{Entry, Signed, Store}
use Rattle.wl_entry.specs.declared.bundles.Bundle.{Bundle}
use Rattle.wl_entry.specs.declared.signing.Svid.{Svid}
use Rattle.svid_cache.specs.Caches.{is_listed, kept_for, is_to_be_replaced, is_due, due_asks, lasts, without_ended, with_svid, is_below, is_above, unless_older}
use Rattle.svid_cache.specs.declared.install.Installed.{Installed}
use Rattle.svid_cache.specs.declared.install.Installed.TheVariants as installed
use Rattle.wl_store.specs.Stores.{asks_of, cached_of, with_entries, is_in_flight, asks_to_claim, flights_from, after_claim, without_flight, without_ticket, refusal, install, svids_after, after_signed}
use Rattle.wl_secrets.proofs.Lists.{filter_through, find_through}

-- an identity without its chain and key, unless they are to be seen
abbrev pub hidden : Bool → Signed → Signed
hidden seen g = record { chain = if seen then g.chain else []; key = if seen then g.key else []; not_before = g.not_before; not_after = g.not_after }

-- an SVID without chain and key where it is of a foreign entry
abbrev pub blind : (List ℕ → Bool) → Svid → Svid
blind ours v = record { ask = v.ask; signed = hidden (ours v.ask.entry_id) v.signed }

abbrev pub shade : (List ℕ → Bool) → Store → Store
shade ours s =
    record { strict = s.strict; entries = s.entries; bundles = s.bundles; svids = map (blind ours) s.svids; renew_before = s.renew_before; in_flight = s.in_flight; last_ticket = s.last_ticket }

-- an SVID of an entry that isn't foreign stays
pub blind_ours : (ours : List ℕ → Bool) (v : Svid) → ours v.ask.entry_id ≡ true → blind ours v ≡ v
blind_ours ours v is = ap (λ (b : Bool). record { ask = v.ask; signed = hidden b v.signed }) is

-- ---- a document was read

pub entries_shade : (ours : List ℕ → Bool) (entries : List Entry) (bundles : List Bundle) (renew : ℕ) (s : Store) → shade ours (with_entries entries bundles renew s) ≡ with_entries entries bundles renew (shade ours s)
unfolding with_entries
entries_shade ours entries bundles renew s =
    ap (λ (xs : List Svid). record { strict = s.strict; entries = entries; bundles = bundles; svids = xs; renew_before = renew; in_flight = s.in_flight; last_ticket = s.last_ticket })
    (filter_through (blind ours) (λ v. is_listed (asks_of entries) v.ask) (λ v. is_listed (asks_of entries) v.ask) (λ v. refl) s.svids)

-- ---- tickets are claimed

lasting : (ours : List ℕ → Bool) (now : ℕ) (svids : List Svid) → map (blind ours) (filter (lasts now) svids) ≡ filter (lasts now) (map (blind ours) svids)
lasting ours now svids = filter_through (blind ours) (lasts now) (lasts now) (λ v. refl) svids

kept_shade : (ours : List ℕ → Bool) (svids : List Svid) (a : Ask) → option_map (blind ours) (kept_for svids a) ≡ kept_for (map (blind ours) svids) a
unfolding kept_for
kept_shade ours svids a = find_through (blind ours) (λ v. same_ask v.ask a) (λ v. same_ask v.ask a) (λ v. refl) svids

replaced_go : (ours : List ℕ → Bool) (renew now : ℕ) (o : Option Svid) → unwrap_or (option_map (λ (v : Svid). is_to_be_replaced renew now v.signed) (option_map (blind ours) o)) true ≡ unwrap_or (option_map (λ (v : Svid). is_to_be_replaced renew now v.signed) o) true
replaced_go ours renew now None = refl
replaced_go ours renew now (Some v) = refl

due_shade : (ours : List ℕ → Bool) (renew now : ℕ) (svids : List Svid) (a : Ask) → is_due renew now (map (blind ours) svids) a ≡ is_due renew now svids a
unfolding is_due
due_shade ours renew now svids a =
    ap (λ (o : Option Svid). unwrap_or (option_map (λ (v : Svid). is_to_be_replaced renew now v.signed) o) true) (sym (kept_shade ours svids a)) ∙ replaced_go ours renew now (kept_for svids a)

dues_shade : (ours : List ℕ → Bool) (now : ℕ) (s : Store) → due_asks now (without_ended now (cached_of (shade ours s))) ≡ due_asks now (without_ended now (cached_of s))
dues_shade ours now s =
    λ i. filter (λ (a : Ask). (ap (λ (xs : List Svid). is_due s.renew_before now xs a) (sym (lasting ours now s.svids)) ∙ due_shade ours s.renew_before now (filter (lasts now) s.svids) a) i) (asks_of s.entries)

pub claim_asks_shade : (ours : List ℕ → Bool) (now : ℕ) (s : Store) → asks_to_claim now (shade ours s) ≡ asks_to_claim now s
unfolding asks_to_claim
claim_asks_shade ours now s = ap (filter (λ a. not (is_in_flight s.in_flight a))) (dues_shade ours now s)

pub claim_shade : (ours : List ℕ → Bool) (now : ℕ) (s : Store) → shade ours (after_claim now s) ≡ after_claim now (shade ours s)
unfolding after_claim
claim_shade ours now s =
    λ i. record {
      strict = s.strict;
      entries = s.entries;
      bundles = s.bundles;
      svids = lasting ours now s.svids i;
      renew_before = s.renew_before;
      in_flight = s.in_flight ++ flights_from s.last_ticket (sym (claim_asks_shade ours now s) i);
      last_ticket = s.last_ticket + length (sym (claim_asks_shade ours now s) i);
    }

-- ---- a ticket comes back

older_go : (ours : List ℕ → Bool) (renew now : ℕ) (g : Signed) (o : Option Svid) → unless_older renew now g (option_map (blind ours) o) ≡ unless_older renew now g o
older_go ours renew now g None = refl
older_go ours renew now g (Some v) = refl

-- Install hangs on no chain and key that is kept
pub install_shade : (ours : List ℕ → Bool) (now : ℕ) (a : Ask) (g : Signed) (s : Store) → install now a g (shade ours s) ≡ install now a g s
unfolding install refusal
install_shade ours now a g s =
    ap (λ (i : Installed). unwrap_or (refusal now a g s) i) (ap (unless_older s.renew_before now g) (sym (kept_shade ours s.svids a)) ∙ older_go ours s.renew_before now g (kept_for s.svids a))

with_shade : (ours : List ℕ → Bool) (v : Svid) (svids : List Svid) → map (blind ours) (with_svid v svids) ≡ with_svid (blind ours v) (map (blind ours) svids)
unfolding with_svid
with_shade ours v svids =
    map-append (blind ours) (filter (is_below v.ask.entry_id) svids) (v ∷ filter (is_above v.ask.entry_id) svids)
    ∙ (λ i. filter_through (blind ours) (is_below v.ask.entry_id) (is_below v.ask.entry_id) (λ w. refl) svids i
    ++ blind ours v ∷ filter_through (blind ours) (is_above v.ask.entry_id) (is_above v.ask.entry_id) (λ w. refl) svids i)

after_shade : (ours : List ℕ → Bool) (i : Installed) (v : Svid) (svids : List Svid) → map (blind ours) (svids_after i v svids) ≡ svids_after i (blind ours v) (map (blind ours) svids)
after_shade ours installed.Kept v svids = with_shade ours v svids
after_shade ours installed.NoSuchAsk v svids = refl
after_shade ours (installed.Unfit u) v svids = refl
after_shade ours (installed.Older n) v svids = refl
after_shade ours installed.Spent v svids = refl

abbrev put_back : ℕ → Installed → Svid → Store → Store
put_back n i v s =
    record { strict = s.strict; entries = s.entries; bundles = s.bundles; svids = svids_after i v s.svids; renew_before = s.renew_before; in_flight = without_flight n s.in_flight; last_ticket = s.last_ticket }

signed_shade : (ours : List ℕ → Bool) (now n : ℕ) (a : Ask) (g : Signed) (s : Store)
    → shade ours (after_signed now n a g s) ≡ put_back n (install now a g s) (record { ask = a; signed = hidden (ours a.entry_id) g }) (shade ours s)
unfolding after_signed
signed_shade ours now n a g s =
    ap (λ (xs : List Svid). record { strict = s.strict; entries = s.entries; bundles = s.bundles; svids = xs; renew_before = s.renew_before; in_flight = without_flight n s.in_flight; last_ticket = s.last_ticket })
    (after_shade ours (install now a g s) (record { ask = a; signed = g }) s.svids)

-- identities that are alike, each fit where the other is, leave stores that are alike
pub signed_alike : (ours : List ℕ → Bool) (now n : ℕ) (a : Ask) (g h : Signed) (s t : Store) → shade ours s ≡ shade ours t → hidden (ours a.entry_id) g ≡ hidden (ours a.entry_id) h
    → install now a g s ≡ install now a h t → shade ours (after_signed now n a g s) ≡ shade ours (after_signed now n a h t)
signed_alike ours now n a g h s t alike same fit =
    signed_shade ours now n a g s
    ∙ ((λ i. put_back n (fit i) (record { ask = a; signed = same i }) (alike i)) ∙ sym (signed_shade ours now n a h t))

-- the same identity is fit for both or for none
pub install_alike : (ours : List ℕ → Bool) (now : ℕ) (a : Ask) (g : Signed) (s t : Store) → shade ours s ≡ shade ours t → install now a g s ≡ install now a g t
install_alike ours now a g s t alike = sym (install_shade ours now a g s) ∙ (ap (install now a g) alike ∙ install_shade ours now a g t)

-- ---- both stores

pub entries_alike : (ours : List ℕ → Bool) (entries : List Entry) (bundles : List Bundle) (renew : ℕ) (s t : Store) → shade ours s ≡ shade ours t → shade ours (with_entries entries bundles renew s) ≡ shade ours (with_entries entries bundles renew t)
entries_alike ours entries bundles renew s t alike = entries_shade ours entries bundles renew s ∙ (ap (with_entries entries bundles renew) alike ∙ sym (entries_shade ours entries bundles renew t))

pub claim_alike : (ours : List ℕ → Bool) (now : ℕ) (s t : Store) → shade ours s ≡ shade ours t → shade ours (after_claim now s) ≡ shade ours (after_claim now t)
claim_alike ours now s t alike = claim_shade ours now s ∙ (ap (after_claim now) alike ∙ sym (claim_shade ours now t))

pub ticket_alike : (ours : List ℕ → Bool) (n : ℕ) (s t : Store) → shade ours s ≡ shade ours t → shade ours (without_ticket n s) ≡ shade ours (without_ticket n t)
unfolding without_ticket
ticket_alike ours n s t alike = ap (without_ticket n) alike
