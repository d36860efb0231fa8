use Rattle.std.proofs.Common.{List, ◌+◌, ◌*◌, ◌-◌}
use Rattle.wl_edge.specs.declared.link.Heard.{Heard as Answer}
use Rattle.wl_control.specs.declared.request.Request.{Request}
use Rattle.wl_control.specs.Ends.{Moment, moment}
use Rattle.wl_control.specs.Standings.{Standing}
use Rattle.wl_control.proofs.program.talk.Given as goal

-- wherever the call stood at first, it stands after more answers
abbrev pub invariant-receives : goal.invariant-receives
invariant-receives g l = (q : Request) (start : Moment) (answers : List Answer) → Standing q start
    (moment (g.L.Link.told l.fn.link) (g.K.Sink.taken l.fn.sink) (g.L.Link.failed_receives l.fn.link) (g.L.Link.failed_sends l.fn.link) (g.K.Sink.faults l.fn.sink))
    l.fn.call answers → (more : List Answer) × Standing q start
    (moment (g.L.Link.told l.link) (g.K.Sink.taken l.sink) (g.L.Link.failed_receives l.link) (g.L.Link.failed_sends l.link) (g.K.Sink.faults l.sink))
    l.call more

abbrev pub decreases-receives : goal.decreases-receives
decreases-receives g l = l.call.left * 4294967296 + (l.call.patience - l.call.idles)
