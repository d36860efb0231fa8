use denote.Param.Send.{sendable}
use Rattle.wl_serve.specs.Seating.{IsReady}
use Rattle.wl_serve.proofs.Lists.{each_of, zipped}
use Rattle.wl_serve.proofs.serving.with_desk.Goals as goal

pub serve_all-requires-clause-ready : goal.serve_all-requires-clause-ready
serve_all-requires-clause-ready g c κs within = each_of _ IsReady _ c.requires.ready

pub returns-clause-served : goal.returns-clause-served
returns-clause-served g c = zipped _ _ _ _ c.serve_all.ensures.count c.serve_all.ensures.served

pub serve_all-requires-clause-each : goal.serve_all-requires-clause-each
serve_all-requires-clause-each g c κs within = λ i p lt same. (search sendable, search sendable, search sendable, search sendable, search sendable, search sendable, search sendable)
