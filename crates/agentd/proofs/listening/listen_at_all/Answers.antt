use Rattle.std.proofs.Common.{◌≡◌, ◌∙◌, ap}
use Rattle.wl_edge.specs.declared.origin.Origin.{Origin}
use Rattle.agentd.proofs.OneMore.{listened_more, paths_more}
use Rattle.agentd.proofs.listening.listen_at_all.Goals as goal

pub loop-socket-preserved : goal.loop-socket-preserved
loop-socket-preserved g c = record {
  sockets = listened_more c.args.sockets.now c.loop-socket.socket-index c.socket-item.result c.loop-socket-test.true c.socket-item.is _ _ c.in_ok-origin.origin
      (ap (λ (o : Origin). o.selectors) c.in_ok-origin.ensures) (ap (λ (o : Origin). o.socket) c.in_ok-origin.ensures) c.in_ok-listen_at.ensures.sockets c.loop-socket.invariant.sockets;
  paths = paths_more c.args.sockets.now c.loop-socket.socket-index c.socket-item.result c.loop-socket-test.true c.socket-item.is _ _ c.in_ok-listen_at.ensures.paths c.loop-socket.invariant.paths;
  fresh = c.listen_at.ensures.faults ∙ c.loop-socket.invariant.fresh;
  told = c.listen_at.ensures.told ∙ c.loop-socket.invariant.told;
}
