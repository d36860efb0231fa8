-- Publication 0 of a document has the facts that every publication has.
use Rattle.std.specs.Prelude.{◌≡◌, ℕ, ◌≤◌, ◌+◌, Bool, true, false, if◌then◌else◌, List, [], ◌∷◌, ◌++◌, map, length, nat_lt, nat_le, ◌==◌, Option, Some, None, IfSome, IsSomeAnd, is_none}
use Rattle.std.specs.List.{AllByRecursion}
use Rattle.std.specs.List.Sorted.{IsStrictlySortedBy}
use Rattle.std.specs.Ordering.{nat_cmp}
use Rattle.std.specs.Cmp.Lexicographic.{slice_cmp}
use Rattle.std.specs.Cmp.{nat_eq_equiv}
use Rattle.std.specs.Cmp.Lexicographic.{nat_list_eq_equiv, lists_equiv}
use Rattle.std.proofs.Common.{Less, arith, refl, sym, subst}
use Rattle.list_laws.specs.Lists.{Rises}
use Rattle.sorted_lists.specs.Keys.{item_at}
use Rattle.sorted_lists.proofs.Selections.{all_append, keys_append}
use Rattle.sorted_lists.proofs.SearchResults.{found_has, found_all}
use Rattle.wl_entry.specs.Asks.{ask_of, is_ask_of}
use Rattle.wl_entry.specs.Fitness.{signed_unfit}
use Rattle.wl_entry.specs.Keys.{entry_key, svid_key}
use Rattle.wl_entry.specs.Limits.{SignedWithin}
use Rattle.wl_entry.specs.declared.entries.Entry.{Entry}
use Rattle.wl_entry.specs.declared.signing.Svid.{Svid}
use Rattle.wl_entry.specs.declared.signing.Signed.{Signed}
use Rattle.wl_entry.specs.declared.unfit.Unfit.{Unfit}
use Rattle.wl_entry.specs.declared.unfit.Unfit.TheVariants as unfit
use Rattle.wl_document.specs.declared.state.DocSvid.{DocSvid}
use Rattle.wl_document.specs.States.{State, Within}
use Rattle.wl_document.specs.Svids.{doc_svid_key}
use Rattle.wl_snapshot.specs.Snapshots.{IsPublication, IsAsked, SvidWithin}
use Rattle.wl_agent.specs.Kept.{is_fit, kept_for, kept_of, kept_in, publication_of}

last_test : {A : Type 0} (a b c d e : Bool) (v w x y z : A) → is_none (if a then Some v else if b then Some w else if c then Some x else if d then Some y else if e then Some z else None) ≡ true → e ≡ false
last_test true b c d e v w x y z none = grind arith
last_test false true c d e v w x y z none = grind arith
last_test false false true d e v w x y z none = grind arith
last_test false false false true e v w x y z none = grind arith
last_test false false false false true v w x y z none = grind arith
last_test false false false false false v w x y z none = refl

not_more : (m n : ℕ) → nat_lt m n ≡ false → n ≤ m
not_more m n less = grind arith

-- an identity that is fit is within its limit
fit_within : (s : Signed) → is_fit s ≡ true → SignedWithin s
unfolding signed_unfit
fit_within s fit = record { size = not_more 65536 (length s.chain + length s.key) (last_test {A = Unfit} (nat_le s.not_after s.not_before) (nat_le s.not_after s.not_before) (length s.chain == 0) (length s.key == 0) (nat_lt 65536 (length s.chain + length s.key)) unfit.Times unfit.Expired unfit.EmptyChain unfit.EmptyKey (unfit.TooLong (length s.chain + length s.key)) fit) }

-- an entry has its own ask
asks_itself : (e : Entry) → is_ask_of e (ask_of e) ≡ true
asks_itself e = rw (nat_list_eq_equiv.refl e.id) (rw (nat_list_eq_equiv.refl e.spiffe_id) (rw ((lists_equiv nat_list_eq_equiv).refl e.dns_names) (nat_eq_equiv.refl e.ttl)))

-- ---- one signed identity

-- the entry that was found by this id is the one of its id, which is this
abbrev IsFound : List Entry → List ℕ → Option Entry → Type 0
IsFound entries k o = IfSome o (λ e. (item_at entry_key entries e.id ≡ Some e) × (e.id ≡ k))

found_at : (entries : List Entry) (k : List ℕ) → Rises (map entry_key entries) → IsFound entries k (item_at entry_key entries k)
found_at entries k rises = found_has (λ e. item_at entry_key entries e.id ≡ Some e) entry_key entries k (found_all entry_key entries rises)

keys_for : (P : List ℕ → Type 0) (entries : List Entry) (k : List ℕ) (signed : Signed) (o : Option Entry) (fit : Bool) → IsFound entries k o → P k → AllByRecursion P (map svid_key (kept_for fit signed o))
keys_for P entries k signed None fit at p = tt
keys_for P entries k signed (Some e) true at p = (subst P (sym at.1) p, tt)
keys_for P entries k signed (Some e) false at p = tt

rises_for : (entries : List Entry) (k : List ℕ) (signed : Signed) (o : Option Entry) (fit : Bool) (rest : List Svid) → IsFound entries k o → AllByRecursion (λ y. slice_cmp nat_cmp k y ≡ Less) (map svid_key rest) → Rises (map svid_key rest) → Rises (map svid_key (kept_for fit signed o ++ rest))
unfolding IsStrictlySortedBy
rises_for entries k signed None fit rest at above rises = rises
rises_for entries k signed (Some e) true rest at above rises = (subst (λ l. AllByRecursion (λ y. slice_cmp nat_cmp l y ≡ Less) (map svid_key rest)) (sym at.1) above, rises)
rises_for entries k signed (Some e) false rest at above rises = rises

asked_for : (entries : List Entry) (k : List ℕ) (signed : Signed) (o : Option Entry) (fit : Bool) → IsFound entries k o → AllByRecursion (IsAsked entries) (kept_for fit signed o)
asked_for entries k signed None fit at = tt
asked_for entries k signed (Some e) true at = (subst (λ f. IsSomeAnd f (λ d. is_ask_of d (ask_of e) ≡ true)) (sym at.0) (asks_itself e), tt)
asked_for entries k signed (Some e) false at = tt

within_for : (signed : Signed) (o : Option Entry) (fit : Bool) → fit ≡ is_fit signed → AllByRecursion SvidWithin (kept_for fit signed o)
within_for signed None fit is = tt
within_for signed (Some e) true is = (fit_within signed (sym is), tt)
within_for signed (Some e) false is = tt

-- ---- all of them

keys_in : (P : List ℕ → Type 0) (entries : List Entry) (svids : List DocSvid) → Rises (map entry_key entries) → AllByRecursion P (map doc_svid_key svids) → AllByRecursion P (map svid_key (kept_in entries svids))
unfolding kept_in kept_of
keys_in P entries [] rises all = tt
keys_in P entries (s ∷ ss) rises all =
    keys_append P svid_key (kept_of entries s) (kept_in entries ss) (keys_for P entries s.entry_id s.signed (item_at entry_key entries s.entry_id) (is_fit s.signed) (found_at entries s.entry_id rises) all.0) (keys_in P entries ss rises all.1)

rises_in : (entries : List Entry) (svids : List DocSvid) → Rises (map entry_key entries) → Rises (map doc_svid_key svids) → Rises (map svid_key (kept_in entries svids))
unfolding kept_in kept_of IsStrictlySortedBy
rises_in entries [] rises climbs = tt
rises_in entries (s ∷ ss) rises climbs =
    rises_for entries s.entry_id s.signed (item_at entry_key entries s.entry_id) (is_fit s.signed) (kept_in entries ss) (found_at entries s.entry_id rises) (keys_in (λ y. slice_cmp nat_cmp s.entry_id y ≡ Less) entries ss rises climbs.0) (rises_in entries ss rises climbs.1)

asked_in : (entries : List Entry) (svids : List DocSvid) → Rises (map entry_key entries) → AllByRecursion (IsAsked entries) (kept_in entries svids)
unfolding kept_in kept_of
asked_in entries [] rises = tt
asked_in entries (s ∷ ss) rises =
    all_append (IsAsked entries) (kept_of entries s) (kept_in entries ss) (asked_for entries s.entry_id s.signed (item_at entry_key entries s.entry_id) (is_fit s.signed) (found_at entries s.entry_id rises)) (asked_in entries ss rises)

within_in : (entries : List Entry) (svids : List DocSvid) → AllByRecursion SvidWithin (kept_in entries svids)
unfolding kept_in kept_of
within_in entries [] = tt
within_in entries (s ∷ ss) = all_append SvidWithin (kept_of entries s) (kept_in entries ss) (within_for s.signed (item_at entry_key entries s.entry_id) (is_fit s.signed) refl) (within_in entries ss)

-- publication 0 of a document's state
pub is_publication : (s : State) → Within s → IsPublication (publication_of s)
unfolding publication_of
is_publication s within = record {
  entries = within.entries;
  svids = rises_in s.entries s.svids within.entries within.svids;
  bundles = within.bundles;
  asked = asked_in s.entries s.svids within.entries;
  few_entries = within.few_entries;
  few_bundles = within.few_bundles;
  entries_within = within.entries_within;
  svids_within = within_in s.entries s.svids;
  bundles_within = within.bundles_within;
}
