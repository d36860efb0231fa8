use Rattle.std.proofs.Common.{arith, refl, ap, ◌∙◌}
use Rattle.wl_worker.specs.Outcomes.{asker}
use Rattle.wl_worker.proofs.ConnectionRounds.{serving_none, fresh_seen, never_served, serving_still, ends_serving}
use Rattle.wl_worker.specs.declared.ended.Ended.{Ended}
use Rattle.wl_worker.specs.declared.ended.RoundEnd.TheVariants as ends
use Rattle.wl_worker.proofs.CompleteEnds.{complete, rose_since}
use Rattle.wl_worker.proofs.connection.serve_connection.Goals as goal

pub returns-in-Err-clause-tells : goal.returns-in-Err-clause-tells
returns-in-Err-clause-tells g c = never_served g.T.V.Voucher.signed (asker c.args.connection g.T.V.Voucher.token) (g.L.Link.origin c.args.link.now) _ _

pub returns-in-Err-new-clause-tells : goal.returns-in-Err-new-clause-tells
returns-in-Err-new-clause-tells g c = never_served g.T.V.Voucher.signed (asker c.args.connection g.T.V.Voucher.token) (g.L.Link.origin c.args.link.now) _ _

pub rounds-init : goal.rounds-init
rounds-init g c = record {
  serving = serving_none g.T.V.Voucher.signed (asker c.args.connection g.T.V.Voucher.token) (g.L.Link.origin c.args.link.now) _ _ c.in-Ok.served c.in-Ok.ensures;
  seen = fresh_seen g.T.V.Voucher.signed (asker c.args.connection g.T.V.Voucher.token) (g.L.Link.origin c.args.link.now) _ c.in-Ok.served c.in-Ok.ensures;
  origin = refl;
  receives = omega arith;
  sends = omega arith;
}

pub rounds-preserved : goal.rounds-preserved
rounds-preserved g c = record {
  serving = serving_still g.T.V.Voucher.signed (asker c.args.connection g.T.V.Voucher.token) (g.L.Link.origin c.args.link.now) c.round-end.result c.in_default.not-Ended c.rounds.invariant.serving (rw c.rounds.invariant.origin at c.round-end.ensures.tells);
  seen = c.round-end.ensures.seen;
  origin = c.round-end.ensures.origin ∙ c.rounds.invariant.origin;
  receives = omega (arith, c.rounds.invariant.receives, c.round-end.ensures.receives);
  sends = omega (arith, c.rounds.invariant.sends, c.round-end.ensures.sends);
}

pub returns-in-Ended-clause-tells : goal.returns-in-Ended-clause-tells
returns-in-Ended-clause-tells g c = ends_serving g.T.V.Voucher.signed (asker c.args.connection g.T.V.Voucher.token) (g.L.Link.origin c.args.link.now) c.in-Ended.end c.rounds.invariant.serving (rw c.rounds.invariant.origin at c.in-Ended.ensures.tells)

pub returns-in-Ended-clause-completeness : goal.returns-in-Ended-clause-completeness
returns-in-Ended-clause-completeness g c = complete _ _ _ _ _ _ _ _ c.in-Ended.end
    (λ is. rose_since _ _ _ c.rounds.invariant.receives (c.in-Ended.ensures.read_fault (ap (λ (e : Ended). ends.Ended e) is)))
    (λ is. rose_since _ _ _ c.rounds.invariant.sends (c.in-Ended.ensures.write_fault (ap (λ (e : Ended). ends.Ended e) is)))
