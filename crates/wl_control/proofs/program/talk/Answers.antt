use Rattle.std.proofs.Common.{arith}
use Rattle.wl_control.proofs.Standings.{ended, went_on, broken, smaller}
use Rattle.wl_control.proofs.program.talk.Goals as goal

pub receives-init : goal.receives-init
receives-init g c = λ q start answers stood. (answers, stood)

pub go_on-requires : goal.go_on-requires
go_on-requires g c = omega (arith, c.receives.auto.room, c.requires)

pub returns-in-Ok-Some : goal.returns-in-Ok-Some
returns-in-Ok-Some g c = λ q start answers stood.
    let s = c.receives.invariant q start answers stood in
    ended q start _ c.go_on.new.self c.go_on.result c.in-Ok-Some.status (cc) (c.go_on.ensures.steps q start s.0 s.1)

pub receives-smaller : goal.receives-smaller
receives-smaller g c = smaller _ c.go_on.result (cc) c.go_on.ensures.smaller

pub receives-preserved : goal.receives-preserved
receives-preserved g c = λ q start answers stood.
    let s = c.receives.invariant q start answers stood in
    went_on q start _ c.go_on.new.self c.go_on.result (cc) (c.go_on.ensures.steps q start s.0 s.1)

pub returns-in-Err : goal.returns-in-Err
returns-in-Err g c = λ q start answers stood.
    let s = c.receives.invariant q start answers stood in
    broken q start _ c.go_on.new.self c.go_on.result c.in-Err.field-0 c.in-Err.is (c.go_on.ensures.steps q start s.0 s.1)
