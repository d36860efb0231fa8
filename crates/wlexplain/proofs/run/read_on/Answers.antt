use Rattle.std.proofs.Common.{◌≡◌, ◌≤◌, ℕ, List, Some, IfSome, length, take, drop, sym, subst, arith}
use Rattle.wlexplain.proofs.Runs.{step_got, step_fails, step_unread}
use Rattle.wlexplain.proofs.run.read_on.Goals as goal

pub returns-in-Ok-clause-steps : goal.returns-in-Ok-clause-steps
returns-in-Ok-clause-steps g c = λ start read f.
    let n = c.in-Got.count in
    let came = subst (λ (p : List ℕ). IfSome (g.I.Source.left c.args.input.now) (λ rest. (g.I.Source.left c.read.new.self ≡ Some (drop n rest)) × (p ≡ take n rest) × (n ≤ length rest))) (sym c.split_at.ensures.front) c.in-Got.ensures.gives.2 in
    step_got start _ _ _ _ _ _ _ _ c.args.remaining.now _ n c.args.line.now.items c.take.new.line.items c.split_at.result.0.now read f c.split_at.ensures.front_len (omega (arith, c.requires.within, c.in-Got.ensures.gives.1)) c.in-Got.ensures.later came
    c.in-Ok.ensures.line c.in-Ok.ensures.wrote

pub returns-in-Err-clause-steps : goal.returns-in-Err-clause-steps
returns-in-Err-clause-steps g c = λ start read f.
    let n = c.in-Got.count in
    let came = subst (λ (p : List ℕ). IfSome (g.I.Source.left c.args.input.now) (λ rest. (g.I.Source.left c.read.new.self ≡ Some (drop n rest)) × (p ≡ take n rest) × (n ≤ length rest))) (sym c.split_at.ensures.front) c.in-Got.ensures.gives.2 in
    step_fails start _ _ _ _ _ _ _ _ c.args.remaining.now n c.in-Err.status c.args.line.now.items c.split_at.result.0.now read f came c.in-Err.ensures.wrote

pub returns-in-Failed-clause-steps : goal.returns-in-Failed-clause-steps
returns-in-Failed-clause-steps g c = λ start read f.
    step_unread start _ (g.I.Source.left c.read.new.self) _ _ _ _ _ _ read f c.in-Failed.ensures.gives.0
