-- Where two publications may differ (own rule).
use Rattle.std.specs.Prelude.{◌≡◌, ℕ, false, List}
use Rattle.sorted_lists.specs.Keys.{item_at}
use Rattle.wl_selector.specs.Selectors.{has_text}
use Rattle.wl_entry.specs.Keys.{entry_key, svid_key}
use Rattle.wl_snapshot.specs.Snapshots.{Publication}

-- two publications have the same entries and SVIDs, except those of these entry ids
pub record SameBut (ids : List (List ℕ)) (old new : Publication) : Type 0 where
  pub entries : (id : List ℕ) → has_text ids id ≡ false → item_at entry_key new.entries id ≡ item_at entry_key old.entries id
  pub svids : (id : List ℕ) → has_text ids id ≡ false → item_at svid_key new.svids id ≡ item_at svid_key old.svids id
