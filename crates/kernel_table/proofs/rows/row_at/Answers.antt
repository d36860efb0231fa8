use Rattle.std.proofs.Common.{◌==◌, rules, tests}
use Rattle.std.proofs.lemmas.Iterator.Consumers.{nth_from_yields_List, YieldsList-from_filter, YieldsList-at}
use Rattle.std.proofs.lemmas.Iterator.Splits.{YieldsList-from_slice_split}
use Rattle.kernel_table.specs.Rows.{is_of}
use Rattle.kernel_table.proofs.rows.row_at.Goals as goal

pub returns : goal.returns
returns c =
    nth_from_yields_List _ _ c.args.place c.nth.ensures.ran (
    YieldsList-from_filter _ (is_of c.args.local.now c.args.remote.now) (
    YieldsList-at c.filter.ensures.source (YieldsList-from_slice_split _ (λ b. b == 10) c.args.table.now c.split.ensures.rest c.split.ensures.done c.split.ensures.closure (λ x b q k. search (rules, tests)))
    ) c.filter.ensures.closure (λ x b q k. search (rules, tests))
    )
