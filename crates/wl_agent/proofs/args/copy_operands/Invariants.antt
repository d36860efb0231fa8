use Rattle.std.proofs.Common.{◌≡◌, take, map}
use Rattle.wl_agent.proofs.args.copy_operands.Given as goal

abbrev pub invariant-loop-operand : goal.invariant-loop-operand
invariant-loop-operand l = l.texts ≡ map (λ s. s.now) (take l.operand-index l.operands)
