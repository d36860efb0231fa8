use Rattle.std.proofs.Common.{arith}
use Rattle.h2_frame.proofs.Pieces.{data_waits, data_put, data_gained}
use Rattle.h2_frame.proofs.pending.Pending.read.Goals as goal

pub returns-then-len-head-clause-ok : goal.returns-then-len-head-clause-ok
returns-then-len-head-clause-ok c =
    data_waits c.args.into.now c.args.self.now c.self.inside.front.items c.self.inside.payload.items c.in-Some.head (rw c.as_slice.ensures.value at c.in-Some.ensures) (grind arith) (grind arith)

pub returns-then-len-head-2-clause-ok : goal.returns-then-len-head-2-clause-ok
returns-then-len-head-2-clause-ok c =
    data_put c.put.result c.args.into.now c.put.new.into c.args.self.now c.self.inside.front.items c.self.inside.payload.items _ c.in-Some.head c.data_frame.result (rw c.as_slice.ensures.value at c.in-Some.ensures) (grind arith) (grind arith) (grind arith) (grind arith) c.put.ensures.ok

pub returns-then-len-head-2-clause-prefix : goal.returns-then-len-head-2-clause-prefix
returns-then-len-head-2-clause-prefix c =
    data_gained c.put.result c.args.into.now c.put.new.into c.args.self.now c.self.inside.front.items c.self.inside.payload.items c.in-Some.head c.data_frame.result (rw c.as_slice.ensures.value at c.in-Some.ensures) (grind arith) (grind arith) (grind arith) c.put.ensures.ok c.put.ensures.same
