use Rattle.wl_heard.proofs.HeardStatuses.{statuses_are_heard, http_refusals_are_heard}
use Rattle.wl_heard.proofs.laws.statuses_are_heard.Goals as goal

pub returns : goal.returns
returns c = record { status = statuses_are_heard; http = http_refusals_are_heard }
