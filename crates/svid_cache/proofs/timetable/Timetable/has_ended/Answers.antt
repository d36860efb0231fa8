use Rattle.std.specs.Prelude.{not}
use Rattle.std.proofs.Common.{sym, ◌∙◌}
use Rattle.sorted_blocks.specs.Blocks.{join}
use Rattle.svid_cache.specs.Caches.{lasts}
use Rattle.svid_cache.specs.Timetables.{cached_by}
use Rattle.svid_cache.proofs.Expiries.{any_join, ended_is, all_kept}
use Rattle.svid_cache.proofs.timetable.Timetable.has_ended.Goals as goal

pub returns-then-may_have_ended-clause-ended : goal.returns-then-may_have_ended-clause-ended
returns-then-may_have_ended-clause-ended c =
    c.any_ended_in.ensures ∙ (any_join (λ s. not (lasts c.args.now s)) c.blocks-then-may_have_ended.result.now ∙ ended_is c.args.now (cached_by c.args.self.now c.args.svids.now) (join c.blocks-then-may_have_ended.result.now) c.blocks-then-may_have_ended.ensures)

pub returns-then-may_have_ended-clause-kept : goal.returns-then-may_have_ended-clause-kept
returns-then-may_have_ended-clause-kept c = λ none.
    all_kept c.args.now (cached_by c.args.self.now c.args.svids.now) (sym (returns-then-may_have_ended-clause-ended c) ∙ none)

pub returns-else-may_have_ended-clause-kept : goal.returns-else-may_have_ended-clause-kept
returns-else-may_have_ended-clause-kept c = λ none.
    all_kept c.args.now (cached_by c.args.self.now c.args.svids.now) (c.may_have_ended.ensures c.args.svids.now c.requires none)
