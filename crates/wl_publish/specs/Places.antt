-- What a place at the table of readers and writer knows.
use Rattle.std.specs.Prelude.{Option}
use Rattle.atomic_table.specs.declared.shared.Seat.{Seat}
use Rattle.left_right.specs.declared.part.Part.{Part}
use Rattle.left_right.specs.declared.board.Doing.{Doing}
use Rattle.left_right.specs.Sides.{view}

abbrev pub known_at : {T V : Type 0} → Seat (Option (Part T)) (Doing T V) → V
known_at place = view place
