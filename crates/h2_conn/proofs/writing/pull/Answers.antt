use Rattle.h2_conn.proofs.Sounds.{s_pulled}
use Rattle.h2_conn.proofs.writing.pull.Goals as goal
use Rattle.h2_conn.proofs.writing.pull.Goals.{then-begun, else-begun+else-len-ne0}

pub end_responses-requires : goal.end_responses-requires
end_responses-requires c =
    let q = c.args.state.now in
    let s = s_pulled q.last_stream_id q.streams q.outbox c.pull.new.self q.open_block c.in_ok-pull.ensures.left c.requires in
    elim c.if-begun.branch [ then-begun w ↦ rw w.state-is s | else-begun+else-len-ne0 w ↦ rw w.state-is s ]
