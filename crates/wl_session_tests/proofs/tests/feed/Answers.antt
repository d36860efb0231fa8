use Rattle.wl_session_tests.proofs.tests.feed.Goals as goal

pub returns-clause-keeps : goal.returns-clause-keeps
returns-clause-keeps g c = λ x may. c.name.ensures.keeps x (c.hear.ensures.keeps x may)
