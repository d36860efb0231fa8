use Rattle.std.proofs.Common.{◌≡◌, ap, ◌∙◌, arith}
use Rattle.std.proofs.lemmas.List.{take_all}
use Rattle.hpack.specs.Writing.{block_bytes}
use Rattle.hpack.proofs.WrittenBlocks.{block_spelled, block_again}
use Rattle.hpack.proofs.Lengths.{block_small}
use Rattle.hpack.proofs.encode.encode_plain.Goals as goal
use Rattle.hpack.proofs.encode.encode_plain.Goals.{After-from_vec}

written : (c : After-from_vec) → c.from_vec.result ≡ block_bytes c.args.headers.now
written c = c.from_vec.ensures ∙ (c.loop-header.invariant ∙ ap block_bytes (take_all c.loop-header.header-index c.args.headers.now (omega arith)))

pub returns-clause-readable : goal.returns-clause-readable
returns-clause-readable c = λ fits table. rw (written c) (block_spelled c.args.headers.now fits table)

pub returns-clause-read_again : goal.returns-clause-read_again
returns-clause-read_again c = λ fits table. rw (written c) (block_again c.args.headers.now fits table)

pub returns-clause-small : goal.returns-clause-small
returns-clause-small c = λ fits. rw (written c) (block_small c.args.headers.now fits)
