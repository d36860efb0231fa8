use Rattle.wl_session_tests.proofs.tests.take_rounds.Goals as goal

-- a session on which no turn was taken
pub take_round-number-requires : goal.take_round-number-requires
take_round-number-requires g c = λ x less. c.fresh-session.ensures x
