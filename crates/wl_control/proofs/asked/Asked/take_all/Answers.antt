use Rattle.wl_control.proofs.Courses.{runs_go, runs_stop, runs_over}
use Rattle.wl_control.proofs.asked.Asked.take_all.Goals as goal

pub returns-then-is_some : goal.returns-then-is_some
returns-then-is_some c =
    runs_stop c.args.told.now c.parts.rest.now c.in-Some.heard.now c.in-Some.after.now c.args.self.now c.parts.self c.take.new.self c.args.text.now.items c.parts.text.items c.take.new.text.items c.in_ok-verdict.verdict
    c.in-Some.ensures.cases.0 (cc) c.parts.invariant c.in_ok-verdict.ensures

pub parts-preserved : goal.parts-preserved
parts-preserved c =
    runs_go c.args.told.now c.parts.rest.now c.in-Some.heard.now c.in-Some.after.now c.args.self.now c.parts.self c.take.new.self c.args.text.now.items c.parts.text.items c.take.new.text.items c.in_ok-verdict.verdict
    c.in-Some.ensures.cases.0 (cc) c.parts.invariant c.in_ok-verdict.ensures

pub returns : goal.returns
returns c = runs_over c.args.told.now c.parts.rest.now c.args.self.now c.parts.self c.args.text.now.items c.parts.text.items c.in_default.ensures.cases c.parts.invariant
