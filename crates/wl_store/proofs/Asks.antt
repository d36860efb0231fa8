-- The asks of entries rise as the entries do.
use Rattle.std.specs.Prelude.{◌≡◌, List, map}
use Rattle.std.proofs.Common.{refl, sym, subst}
use Rattle.wl_store.proofs.Common.{Rises, ask_of, entry_key, Ask, Entry, asks_of}
use Rattle.list_laws.proofs.AscendingKeys.{rises_map}
use Rattle.wl_entry.specs.Keys.{ask_key}

pub asks_rise : (entries : List Entry) (asks : List Ask) → asks ≡ asks_of entries → Rises (map entry_key entries) → Rises (map ask_key asks)
asks_rise entries asks are rises =
    subst (λ l. Rises (map ask_key l)) (sym are) (subst Rises (sym (rises_map entry_key ask_key ask_of (λ e. refl) entries)) rises)
