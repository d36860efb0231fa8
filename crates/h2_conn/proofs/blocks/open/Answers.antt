use Rattle.h2_conn.proofs.Sounds.{is_above}
use Rattle.h2_conn.proofs.blocks.open.Goals as goal

pub add-requires-clause-above : goal.add-requires-clause-above
add-requires-clause-above c = is_above c.args.state.now c.args.block.now.stream c.requires.new c.requires.sound
