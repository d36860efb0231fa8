use Rattle.wl_config.proofs.NewNames.{within_added}
use Rattle.wl_config.proofs.sockets.socket.Goals as goal

pub returns-clause-within : goal.returns-clause-within
returns-clause-within c =
    let facts = rw (c.as_slice-2.ensures.value, c.as_slice-3.ensures.value) at c.in_ok-sockets.ensures.value in
    let each = rw facts at c.in_ok-sockets.ensures.within in
    rw facts (within_added c.in_ok-connections.connections c.in_ok-texts.texts.items c.args.before.now c.in_ok-ends.ends.items c.requires.within each c.in_ok-ends.ensures.fresh)
