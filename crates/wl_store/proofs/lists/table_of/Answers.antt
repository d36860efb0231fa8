use Rattle.wl_store.proofs.Asks.{asks_rise}
use Rattle.wl_store.proofs.lists.table_of.Goals as goal

pub prepare_sync-requires-clause-rises : goal.prepare_sync-requires-clause-rises
prepare_sync-requires-clause-rises c = asks_rise c.args.entries.now c.in_ok-asks.asks c.in_ok-asks.ensures c.requires.rises
