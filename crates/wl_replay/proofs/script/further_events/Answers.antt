use Rattle.std.proofs.Common.{[], ◌∷◌}
use Rattle.std.proofs.lemmas.Result.{err_from_is_err_and}
use Rattle.list_laws.proofs.Elements.{all_append}
use Rattle.wl_core.specs.Events.{IsWithin}
use Rattle.wl_replay.specs.Words.{lines_of, telling}
use Rattle.wl_replay.proofs.Steps.{event_more, event_faults, events_end}
use Rattle.wl_replay.proofs.script.further_events.Goals as goal

pub returns-in_err-event-clause-value : goal.returns-in_err-event-clause-value
returns-in_err-event-clause-value c =
    let p = err_from_is_err_and c.from_residual.result c.from_residual.ensures.1 in
    rw (p.1, p.2) (event_faults _ c.lines.events (telling c.lines.number (lines_of c.lines.left.now)) _ _ _ c.lines.invariant.reached c.in-Some.ensures.found c.in_err-event.ensures.value)

pub lines-preserved : goal.lines-preserved
lines-preserved c = rw c.in_ok-push.ensures.ok (record {
  reached = event_more _ c.lines.events (telling c.lines.number (lines_of c.lines.left.now)) _ _ c.in_ok-event.field-0 c.lines.invariant.reached c.in-Some.ensures.found c.in_ok-event.ensures.value;
  within = all_append IsWithin c.lines.events (c.in_ok-event.field-0 ∷ []) c.lines.invariant.within (c.in_ok-event.ensures.within, tt);
  room = c.in-Some.ensures.room;
})

pub returns-clause-value : goal.returns-clause-value
returns-clause-value c = events_end _ c.lines.events (telling c.lines.number (lines_of c.lines.left.now)) c.lines.invariant.reached (c.next_telling.ensures.none c.in_default.is)
