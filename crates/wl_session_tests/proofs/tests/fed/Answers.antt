use Rattle.wl_session_tests.proofs.tests.fed.Goals as goal

pub returns-clause-may : goal.returns-clause-may
returns-clause-may g c = λ x. c.feed.ensures.keeps x (c.fresh-session.ensures x)
