use Rattle.wl_session_tests.proofs.tests.take_turns_by_index.Goals as goal

pub turn_by-requires-clause-follows : goal.turn_by-requires-clause-follows
turn_by-requires-clause-follows g c = c.fed-session.ensures.may c.args.snapshot.now
