use Rattle.std.proofs.Common.{◌≡◌, drop}
use Rattle.h2_headers.specs.Values.{values_of}
use Rattle.wl_client.proofs.headers.value_first.Given as goal

abbrev pub invariant-loop-header : goal.invariant-loop-header
invariant-loop-header l = values_of l.name l.headers ≡ values_of l.name (drop l.header-index l.headers)
