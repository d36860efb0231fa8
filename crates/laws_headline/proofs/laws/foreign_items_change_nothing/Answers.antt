use Rattle.wl_entry.specs.Entitled.{is_entitled}
use Rattle.wl_snapshot.specs.Views.{is_seen}
use Rattle.laws_headline.proofs.FilteredLists.{passed_over, replaced}
use Rattle.laws_headline.proofs.laws.foreign_items_change_nothing.Goals as goal

pub returns : goal.returns
returns c = record {
  entry_added = λ selectors. passed_over (is_entitled selectors);
  entry_changed = λ selectors. replaced (is_entitled selectors);
  bundle_added = λ domain own. passed_over (is_seen domain own);
  bundle_changed = λ domain own. replaced (is_seen domain own);
}
