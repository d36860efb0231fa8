use Rattle.std.proofs.Common.{arith}
use Rattle.wl_worker.proofs.Pulls.{not_pulled, pulled_or_rests, faults_or_rests, again_is_later}
use Rattle.wl_worker.proofs.upkeep.pull_documents.Goals as goal

pub loop-init : goal.loop-init
loop-init g c = record { can = (tt, tt); pulled = not_pulled (g.U.Upstream.told c.args.upstream.now); again = λ used. grind (arith, used); faults = omega arith }

pub returns-then-seats-eq0-clause-pulled : goal.returns-then-seats-eq0-clause-pulled
returns-then-seats-eq0-clause-pulled g c =
    pulled_or_rests c.loop.is_in_use (g.U.Upstream.told c.args.upstream.now) (g.U.Upstream.told c.loop.upstream) (g.U.Upstream.told c.sync_if_changed-synced.new.upstream) _ _ _ _ _ c.loop.invariant.pulled c.loop.invariant.again c.sync_if_changed-synced.ensures

pub returns-then-seats-eq0-clause-faults : goal.returns-then-seats-eq0-clause-faults
returns-then-seats-eq0-clause-faults g c =
    omega (arith, c.loop.invariant.faults, faults_or_rests c.loop.is_in_use _ _ _ _ _ _ _ c.sync_if_changed-synced.ensures)

pub loop-preserved : goal.loop-preserved
loop-preserved g c =
    let asked = pulled_or_rests c.loop.is_in_use (g.U.Upstream.told c.args.upstream.now) (g.U.Upstream.told c.loop.upstream) (g.U.Upstream.told c.sync_if_changed-synced.new.upstream) _ _ _ _ _ c.loop.invariant.pulled c.loop.invariant.again c.sync_if_changed-synced.ensures in
    record {
      can = (tt, tt);
      pulled = again_is_later (g.U.Upstream.told c.args.upstream.now) (g.U.Upstream.told c.sync_if_changed-synced.new.upstream) asked;
      again = λ used. asked;
      faults = omega (arith, c.loop.invariant.faults, faults_or_rests c.loop.is_in_use _ _ _ _ _ _ _ c.sync_if_changed-synced.ensures);
    }
