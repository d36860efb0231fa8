use Rattle.std.proofs.Common.{◌≡◌, List, ℕ, Some, IfSome, refl, sym, subst, arith}
use Rattle.wl_edge.specs.Links.{with_heard}
use Rattle.wl_edge.specs.declared.link.Heard.TheVariants as answer
use Rattle.wl_control.proofs.Passages.{gives_one}
use Rattle.wl_control.proofs.Standings.{step_got, step_idle, step_end, step_failed}
use Rattle.wl_control.proofs.program.Call.receive.Goals as goal

pub returns-in-Got-clause-steps : goal.returns-in-Got-clause-steps
returns-in-Got-clause-steps g c = λ q start answers stood.
    let told = subst (λ (p : List ℕ). IfSome (g.L.Link.told c.args.link.now) (λ log. g.L.Link.told c.receive.new.self ≡ Some (with_heard log (answer.Piece p)))) (sym c.split_at.ensures.front) c.in-Got.ensures.gives.tells in
    step_got q start _ _ _ c.args.self.now c.take.new.self answers c.split_at.result.0.now c.take.result stood (omega (arith, c.requires.room, c.requires.within)) c.requires.idles
    (gives_one _ _ _ _ _ _ _ _ (answer.Piece c.split_at.result.0.now) told c.in-Got.ensures.gives.later c.in-Got.ensures.sends)
    c.take.ensures.left c.take.ensures.idles c.take.ensures.delivers c.take.ensures.goes_on

pub returns-in-Idle-clause-steps : goal.returns-in-Idle-clause-steps
returns-in-Idle-clause-steps g c = λ q start answers stood.
    step_idle q start _ _ c.args.self.now _ answers stood (omega (arith, c.requires.room, c.requires.within)) c.requires.idles
    (gives_one _ _ _ _ _ _ _ _ answer.Idle c.in-Idle.ensures.gives.tells c.in-Idle.ensures.gives.later c.in-Idle.ensures.sends)
    refl refl refl refl refl

pub returns-in-End-clause-steps : goal.returns-in-End-clause-steps
returns-in-End-clause-steps g c = λ q start answers stood.
    step_end q start _ _ _ c.args.self.now answers _ c.fail.result stood (omega (arith, c.requires.room, c.requires.within)) c.requires.idles
    (gives_one _ _ _ _ _ _ _ _ answer.End c.in-End.ensures.gives.tells c.in-End.ensures.gives.later c.in-End.ensures.sends)
    c.rest-rest.ensures c.fail.ensures.delivers

pub returns-in-Failed-clause-steps : goal.returns-in-Failed-clause-steps
returns-in-Failed-clause-steps g c = λ q start answers stood.
    step_failed q start _ _ _ _ _ _ _ _ c.args.self.now answers stood (omega (arith, c.requires.room, c.requires.within)) c.requires.idles
    c.in-Failed.ensures.gives.tells c.in-Failed.ensures.gives.failed c.in-Failed.ensures.gives.later c.in-Failed.ensures.sends
