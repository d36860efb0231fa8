use Rattle.std.proofs.Common.{◌∙◌, sym}
use Rattle.wl_control.proofs.Standings.{step_limit}
use Rattle.wl_control.proofs.program.Call.go_on.Goals as goal

pub returns-in-Some-clause-steps : goal.returns-in-Some-clause-steps
returns-in-Some-clause-steps g c = λ q start answers stood.
    step_limit q start _ _ c.args.self.now answers c.in-Some.fault c.fail.result stood (sym c.limit_fault.ensures ∙ c.in-Some.is) c.fail.ensures.delivers
