use Rattle.wl_session.proofs.TurnPublications.{first_may, feed_keeps, name_keeps, token_keeps, turn_may}
use Rattle.wl_session.proofs.laws.turns_may_follow.Goals as goal

pub returns : goal.returns
returns c = record { first = first_may; fed = feed_keeps; named = name_keeps; given = token_keeps; turned = turn_may }
