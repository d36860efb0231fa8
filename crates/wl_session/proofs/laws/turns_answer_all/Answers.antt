use Rattle.wl_session.proofs.PeerAnswers.{fresh_complete, feed_keeps, name_keeps, token_keeps, turn_answers}
use Rattle.wl_session.proofs.laws.turns_answer_all.Goals as goal

pub returns : goal.returns
returns c = record { first = fresh_complete; fed = feed_keeps; named = name_keeps; given = token_keeps; turned = turn_answers }
