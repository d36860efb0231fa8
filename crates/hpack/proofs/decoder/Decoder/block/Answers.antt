use Rattle.hpack.proofs.Standings.{found-from_step, only-from_step, err-from_step, stands-from_step}
use Rattle.hpack.proofs.decoder.Decoder.block.Goals as goal

pub returns-clause-found : goal.returns-clause-found
returns-clause-found c = found-from_step c.args.self.now c.advance.new.self c.args.block.now c.advance.result c.advance.ensures.step

pub returns-clause-only : goal.returns-clause-only
returns-clause-only c = only-from_step c.args.self.now c.advance.new.self c.args.block.now c.advance.result c.advance.ensures.step

pub returns-clause-err : goal.returns-clause-err
returns-clause-err c = err-from_step c.args.self.now c.advance.new.self c.args.block.now c.advance.result c.advance.ensures.step

pub returns-clause-stands : goal.returns-clause-stands
returns-clause-stands c = stands-from_step c.args.self.now c.advance.new.self c.args.block.now c.advance.result c.advance.ensures.step
