use Rattle.wl_session_tests.proofs.tests.take_turns.Goals as goal

pub turn-requires-clause-follows : goal.turn-requires-clause-follows
turn-requires-clause-follows g c = c.fed-session.ensures.may c.args.snapshot.now
