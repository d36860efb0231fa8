use Rattle.std.proofs.Common.{◌<◌, subst}
use Rattle.wl_snapshot.specs.Snapshots.{Publication}
use Rattle.wl_session_tests.proofs.tests.take_round.Goals as goal

-- src/tests.rt: a turn on a publication of a higher number
pub turn-requires-clause-follows : goal.turn-requires-clause-follows
turn-requires-clause-follows g c = c.feed.ensures.keeps c.following-snapshot.result (c.requires c.following-snapshot.result c.following-snapshot.ensures)

pub returns : goal.returns
returns g c = λ x less. c.give.ensures.keeps x (c.turn.ensures.later x (subst (λ (s : Publication). s.number < x.number) c.snapshot.view_is less))
