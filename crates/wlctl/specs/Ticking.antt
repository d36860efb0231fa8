-- What a link tells that renews files while it waits (own rule): its own answers, which are those of the link within and a failure
-- where files can't be renewed, and what that link took.
use Rattle.std.specs.Prelude.{ℕ, List, Option, option_map}
use Rattle.wl_edge.specs.Links.{LinkLog}
use Rattle.wl_edge.specs.declared.link.Heard.{Heard}

abbrev pub told_of : List Heard → Option LinkLog → Option LinkLog
told_of gave inner = option_map (λ log. record { gave = gave; took = log.took }) inner
