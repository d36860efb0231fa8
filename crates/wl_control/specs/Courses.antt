-- How the parts of an answer meet what was asked for (own rules).
use Rattle.std.specs.Prelude.{ℕ, ◌-◌, ◌==◌, ◌&&◌, not, if◌then◌else◌, List, [], ◌∷◌, ◌++◌, Result, Ok, Err}
use Rattle.pb_wire.specs.declared.fault.FieldFault.{FieldFault}
use Rattle.wl_client.specs.declared.fault.ClientFault.TheVariants as faults
use Rattle.wl_client.specs.declared.reply.Heard.{Heard}
use Rattle.wl_client.specs.declared.reply.Heard.TheVariants.{Head, Message, Status}
use Rattle.wl_control.specs.declared.asked.Asked.{Asked}
use Rattle.wl_control.specs.declared.asked.Verdict.{Verdict}
use Rattle.wl_control.specs.declared.asked.Verdict.TheVariants.{Done, Denied, Faulted}
use Rattle.wl_control.specs.Lines.{lines_of}

-- the lines that are due, and what is asked for still or how it was decided
pub record Course : Type 0 where
  pub lines : List ℕ
  pub after : Result Asked Verdict

abbrev pub asks : Asked → Course
asks a = record { lines = []; after = Ok a }

abbrev pub decides : Verdict → Course
decides v = record { lines = []; after = Err v }

-- one message less is asked for; with the last all was had, except a status that is awaited
abbrev pub one_less : Asked → Result Asked Verdict
one_less a = if (a.left == 1) && not a.awaits then Err Done else Ok (record a { left = a.left - 1 })

abbrev pub message_course : Result (List ℕ) FieldFault → Asked → Course
message_course (Ok lines) a = record { lines = lines; after = one_less a }
message_course (Err fault) a = decides (Faulted (faults.Undecodable fault))

-- The status 0 after what was asked for is awaited where it is; any other status is a refusal. A unary call has one message
-- (gRPC, "Core concepts"): a second one before its status is a fault.
unfoldable pub part_course : Heard → Asked → Course
part_course Head a = asks a
part_course (Message m) a = if a.left == 0 then decides (Faulted faults.TooMany) else message_course (lines_of a.kind m) a
part_course (Status code text) a = if (a.left == 0) && (code == 0) then decides Done else decides (Denied code text)

abbrev pub then_course : List ℕ → Result Asked Verdict → (Asked → Course) → Course
then_course lines (Err v) go_on = record { lines = lines; after = Err v }
then_course lines (Ok a) go_on = record { lines = lines ++ (go_on a).lines; after = (go_on a).after }

-- the parts in turn, up to the one that decides
unfoldable pub course : List Heard → Asked → Course
course [] a = asks a
course (h ∷ hs) a = then_course (part_course h a).lines (part_course h a).after (course hs)
