use Rattle.std.proofs.Common.{sym, ◌∙◌}
use Rattle.svid_cache.proofs.CacheFacts.{fits}
use Rattle.svid_cache.proofs.timetable.Timetable.judge.Goals as goal

pub returns-in-None-clause-within : goal.returns-in-None-clause-within
returns-in-None-clause-within c = λ kept. fits c.args.now c.args.svid.now.signed (sym c.unfit.ensures ∙ c.in-None.is)
