use Rattle.wl_session_tests.proofs.tests.write_with.Goals as goal

-- a session of which bytes came may take its turn on any publication
pub turn_with-requires-clause-follows : goal.turn_with-requires-clause-follows
turn_with-requires-clause-follows g c = c.fed-session.ensures.may c.args.snapshot.now
