use Rattle.std.proofs.Common.{[], refl}
use Rattle.svid_cache.specs.Queue.{NotBefore}
use Rattle.svid_cache.proofs.AskBlocks.{filed_none, no_seconds}
use Rattle.svid_cache.proofs.CacheFacts.{empty_cached}
use Rattle.svid_cache.proofs.timetable.Timetable.start.Goals as goal

pub returns-clause-about : goal.returns-clause-about
returns-clause-about c = record {
  cached = empty_cached 0 [] refl;
  filed = filed_none (NotBefore 0 []) 64 c.new.result.items [] c.new.ensures.items refl;
  none_below = no_seconds 18446744073709551615 c.new.result.items c.new.ensures.items;
  ends = tt;
  begun = tt;
}
