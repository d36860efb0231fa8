use Rattle.std.proofs.Common.{◌≡◌, ◌+◌, ◌*◌, ◌≤◌, ◌++◌, length}
use Rattle.arrayvec.specs.ArrayVec.{array_vec_len}
use Rattle.kernel_table.specs.Ends.{address_text}
use Rattle.kernel_table.proofs.ends.push_address.Given as goal

abbrev pub invariant-words : goal.invariant-words
invariant-words l = record {
  items : l.text.items ++ address_text l.rest ≡ l.initial.text.items ++ address_text l.initial.rest;
  room : array_vec_len l.text + 2 * length l.rest ≤ array_vec_len l.initial.text + 2 * length l.initial.rest;
}

abbrev pub decreases-words : goal.decreases-words
decreases-words l = length l.rest
