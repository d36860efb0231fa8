use Rattle.wl_worker.proofs.served.Served.settle.Goals as goal

pub returns-clause-settles : goal.returns-clause-settles
returns-clause-settles g c = rw c.give_back.ensures c.send_unsent-end.ensures.settles
