use Rattle.std.proofs.Common.{◌≡◌, ◌++◌, drop}
use Rattle.std.specs.Option.{option_copied, option_to_list}
use Rattle.h2_headers.specs.Values.{values_of}
use Rattle.h2_headers.proofs.values.value_once.Given as goal

abbrev pub invariant-loop-header : goal.invariant-loop-header
invariant-loop-header l = values_of l.name l.headers ≡ option_to_list (option_copied l.found) ++ values_of l.name (drop l.header-index l.headers)
