use Rattle.std.proofs.Common.{◌≡◌, ◌++◌}
use Rattle.wl_session.specs.Talks.{frames_said}
use Rattle.wl_session.proofs.talk.Talk.frames.Given as goal

abbrev pub invariant-loop-frame : goal.invariant-loop-frame
invariant-loop-frame l = record {
  whole : l.fn.frames ≡ l.yielded ++ l.frame-iterator.rest.items;
  after : l.self ≡ (frames_said l.yielded l.fn.self).after;
  bytes : l.out ≡ l.fn.out ++ (frames_said l.yielded l.fn.self).bytes;
  fault : l.first ≡ (frames_said l.yielded l.fn.self).fault;
}
