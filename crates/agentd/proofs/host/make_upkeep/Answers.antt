use Rattle.agentd.proofs.host.make_upkeep.Goals as goal

pub returns-clause-faults : goal.returns-clause-faults
returns-clause-faults g c = c.in_ok-upstream.ensures.faults

pub returns-clause-told : goal.returns-clause-told
returns-clause-told g c = c.in_ok-upstream.ensures.told
