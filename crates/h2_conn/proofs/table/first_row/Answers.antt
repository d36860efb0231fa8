use Rattle.h2_conn.proofs.Choice.{guard_stops}
use Rattle.h2_conn.proofs.table.first_row.Goals as goal

pub returns-in-Err : goal.returns-in-Err
returns-in-Err c = guard_stops c.args.state.now c.args.frame c.in-Err.error c.in-Err.ensures
