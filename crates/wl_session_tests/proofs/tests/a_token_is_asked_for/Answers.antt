use Rattle.wl_session_tests.proofs.tests.a_token_is_asked_for.Goals as goal

pub turn-requires-clause-follows : goal.turn-requires-clause-follows
turn-requires-clause-follows g c = c.fed-session.ensures.may c.publication-snapshot.result
