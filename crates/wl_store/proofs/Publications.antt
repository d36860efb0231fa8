-- What is kept can be published.
use Rattle.std.specs.Prelude.{◌≡◌, ℕ, Bool, true, false, if◌then◌else◌, List, [], ◌∷◌, map, Option, Some, None, option_map, IsSomeAnd}
use Rattle.std.specs.Str.{bytes_eq}
use Rattle.std.specs.List.Sorted.{IsStrictlySortedBy}
use Rattle.std.proofs.Common.{arith, refl, sym, ◌∙◌, ap}
use Rattle.wl_store.proofs.Common.{Rises, ask_of, entry_key, same_ask, Ask, Entry, Bundle, Svid, Cached, is_listed, asks_of}
use Rattle.list_laws.specs.Keys.{item_at}
use Rattle.list_laws.proofs.Elements.{all_such}
use Rattle.wl_entry.specs.Asks.{is_ask_of}
use Rattle.wl_snapshot.specs.Snapshots.{IsPublication, IsAsked}
use Rattle.wl_entry.specs.Keys.{ask_key}
use Rattle.svid_cache.specs.Caches.{IsCached}
use Rattle.svid_cache.proofs.KeyTests.{passes, listed_found}
use Rattle.wl_store.specs.Steps.{IsStock}
use Rattle.wl_store.proofs.Asks.{asks_rise}

-- no keys rise
pub none_rises : Rises []
unfolding IsStrictlySortedBy
none_rises = tt

-- the ask of an entry is found where the entry is
ask_at_go : (e : Entry) (rest : Option Entry) (found : Option Ask) (b : Bool) → found ≡ option_map ask_of rest → (if b then Some (ask_of e) else found) ≡ option_map ask_of (if b then Some e else rest)
ask_at_go e rest found true same = refl
ask_at_go e rest found false same = same

pub ask_at : (entries : List Entry) (k : List ℕ) → item_at ask_key (asks_of entries) k ≡ option_map ask_of (item_at entry_key entries k)
unfolding item_at
ask_at [] k = refl
ask_at (e ∷ es) k = ask_at_go e (item_at entry_key es k) (item_at ask_key (asks_of es) k) (bytes_eq e.id k) (ask_at es k)

passes_is : (a : Ask) (found : Option Entry) → passes (λ b. same_ask b a) (option_map ask_of found) ≡ true → IsSomeAnd found (λ e. is_ask_of e a ≡ true)
passes_is a None is = grind (arith, is)
passes_is a (Some e) is = is

-- what is listed among the asks of the entries is the ask of its entry
asked : (entries : List Entry) (asks : List Ask) → asks ≡ asks_of entries → Rises (map entry_key entries) → (s : Svid) → is_listed asks s.ask ≡ true → IsAsked entries s
asked entries asks are rises s listed =
    let found : passes (λ b. same_ask b s.ask) (option_map ask_of (item_at entry_key entries s.ask.entry_id)) ≡ true =
    ap (passes (λ b. same_ask b s.ask)) (sym (ask_at entries s.ask.entry_id) ∙ ap (λ l. item_at ask_key l s.ask.entry_id) (sym are)) ∙ sym (listed_found asks s.ask (asks_rise entries asks are rises)) ∙ listed in
    passes_is s.ask (item_at entry_key entries s.ask.entry_id) found

pub publishable : (n : ℕ) (domain : List ℕ) (entries : List Entry) (bundles : List Bundle) (c : Cached) → IsStock entries bundles → IsCached c → c.asks ≡ asks_of entries → IsPublication (record { number = n; domain = domain; entries = entries; svids = c.svids; bundles = bundles })
publishable n domain entries bundles c stock is are =
    record {
      entries = stock.entries;
      svids = is.svids;
      bundles = stock.bundles;
      asked = all_such (λ s. is_listed c.asks s.ask ≡ true) (IsAsked entries) c.svids (asked entries c.asks are stock.entries) is.listed;
      few_entries = stock.few_entries;
      few_bundles = stock.few_bundles;
      entries_within = stock.entries_within;
      svids_within = is.within;
      bundles_within = stock.bundles_within;
    }
