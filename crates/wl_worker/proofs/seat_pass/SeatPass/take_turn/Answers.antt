use Rattle.std.proofs.Common.{sym, subst}
use Rattle.wl_session.specs.Sharing.{MayShare, SharesOf}
use Rattle.wl_worker.proofs.Common.{Publication, Passing, IsLast}
use Rattle.wl_worker.specs.Served.{IsAmong}
use Rattle.wl_worker.proofs.SeenPublications.{may_share, shares_among}
use Rattle.wl_worker.proofs.seat_pass.SeatPass.take_turn.Goals as goal

pub turn_with-requires-clause-shares : goal.turn_with-requires-clause-shares
turn_with-requires-clause-shares g c =
    let among = subst (λ (k : Passing). IsAmong k.seen c.self.inside.views) c.self.view_is c.self.invariant in
    subst (λ (p : Publication). MayShare p c.self.inside.views) (sym c.snapshot.ensures) (may_share c.args.self.now.seen c.args.published_snapshot.now c.self.inside.views c.requires.numbered c.requires.last among)

pub invariant_of-self : goal.invariant_of-self
invariant_of-self g c =
    let shares = subst (λ (p : Publication). SharesOf p c.self.inside.views c.turn_with.new.views) c.snapshot.ensures c.turn_with.ensures.shares in
    let last = subst (λ (k : Passing). IsLast k.seen c.args.published_snapshot.now) (sym c.self.view_is) c.requires.last in
    shares_among c.self.inside.pass.seen c.args.published_snapshot.now c.self.inside.views c.turn_with.new.views shares last c.self.invariant
