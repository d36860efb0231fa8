use Rattle.std.proofs.Common.{◌≡◌, ◌++◌, drop}
use Rattle.svid_forms.specs.Json.{items_from}
use Rattle.svid_forms.specs.Decoded.{decoded_item}
use Rattle.svid_forms.proofs.decoded.put_decoded_items.Given as goal

-- what is written, and what is still due from here
abbrev pub invariant-loop-at : goal.invariant-loop-at
invariant-loop-at l = l.out.items ++ items_from decoded_item l.at (drop l.at l.svids) ≡ l.initial.out.items ++ items_from decoded_item 0 l.svids
