use Rattle.wl_session.proofs.TurnPublications.{feeds_follow}
use Rattle.wl_session_tests.proofs.tests.hear_singly.Goals as goal

pub loop-byte-preserved : goal.loop-byte-preserved
loop-byte-preserved g c = λ x may. feeds_follow x _ _ _ _ _ _ c.feed.ensures (c.loop-byte.invariant x may)
