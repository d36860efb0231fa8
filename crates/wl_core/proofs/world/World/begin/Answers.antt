use Rattle.std.proofs.Common.{List, Option, sym, subst}
use Rattle.wl_core.specs.declared.seats.Seat.{Seat}
use Rattle.wl_core.specs.Worlds.{WorksOn}
use Rattle.wl_core.specs.Marks.{Marked, Follows, none_marked}
use Rattle.wl_core.proofs.AfterEvents.{begins_well}
use Rattle.wl_core.proofs.MarkLaws.{none_follows}
use Rattle.wl_core.proofs.world.World.begin.Goals as goal

pub invariant_of-result : goal.invariant_of-result
invariant_of-result c = (
  λ is. subst (λ (s : List (Option Seat)). WorksOn c.args.manager s) (sym c.in_ok-start.ensures.seats) (begins_well c.args.manager c.requires),
  λ is. subst (λ (m : Marked). Follows c.args.manager.stored.published m c.in_ok-start.field-0.seats.items) (sym c.in_ok-start-2.ensures)
      (subst (λ (s : List (Option Seat)). Follows c.args.manager.stored.published none_marked s) (sym c.in_ok-start.ensures.seats) (none_follows c.args.manager.stored.published)),
)
