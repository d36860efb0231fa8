-- The faults of a client, by number, and those of the crates below as a client has them (own rule).
use Rattle.std.specs.Prelude.{ℕ}
use Rattle.h2_frame.specs.declared.fault.FrameFault.{FrameFault}
use Rattle.h2_frame.specs.declared.fault.FrameFault.TheVariants as frame_faults
use Rattle.hpack.specs.declared.fault.HpackFault.{HpackFault}
use Rattle.hpack.specs.declared.fault.HpackFault.TheVariants as header_faults
use Rattle.grpc_wire.specs.declared.fault.MessageFault.{MessageFault}
use Rattle.grpc_wire.specs.declared.fault.MessageFault.TheVariants as message_faults
use Rattle.wl_client.specs.declared.fault.ClientFault.{ClientFault}
use Rattle.wl_client.specs.declared.fault.ClientFault.TheVariants.{Frame, Header, Order, HttpStatus, NoStatus, Message, Undecodable, Cut, TooMuch, Idle, Reset, GoAway, Memory, TooMany}

abbrev pub number_of : ClientFault → ℕ
number_of (Frame fault) = 1
number_of (Header fault) = 2
number_of (Order stream) = 3
number_of (HttpStatus status) = 4
number_of NoStatus = 5
number_of (Message fault) = 6
number_of (Undecodable fault) = 7
number_of (Cut bytes) = 8
number_of TooMuch = 9
number_of Idle = 10
number_of (Reset code) = 11
number_of (GoAway code) = 12
number_of Memory = 13
number_of TooMany = 14

-- running out of memory is one fault, whoever met it
abbrev pub of_frame : FrameFault → ClientFault
of_frame frame_faults.Memory = Memory
of_frame (frame_faults.BadPreface at) = Frame (frame_faults.BadPreface at)
of_frame (frame_faults.TooLarge length) = Frame (frame_faults.TooLarge length)
of_frame (frame_faults.WrongLength kind length) = Frame (frame_faults.WrongLength kind length)
of_frame frame_faults.BadPadding = Frame frame_faults.BadPadding

abbrev pub of_header : HpackFault → ClientFault
of_header header_faults.Memory = Memory
of_header header_faults.Index = Header header_faults.Index
of_header header_faults.Integer = Header header_faults.Integer
of_header header_faults.Truncated = Header header_faults.Truncated
of_header header_faults.Padding = Header header_faults.Padding
of_header header_faults.SizeUpdate = Header header_faults.SizeUpdate
of_header header_faults.ListTooLong = Header header_faults.ListTooLong

abbrev pub of_message : MessageFault → ClientFault
of_message message_faults.Memory = Memory
of_message (message_faults.Flag flag) = Message (message_faults.Flag flag)
of_message (message_faults.TooLong length) = Message (message_faults.TooLong length)

-- what was answered is what is due, unless memory ran out
abbrev pub Refuses : ClientFault → Type 0 → Type 0
Refuses Memory due = Unit {0}
Refuses (Frame fault) due = due
Refuses (Header fault) due = due
Refuses (Order stream) due = due
Refuses (HttpStatus status) due = due
Refuses NoStatus due = due
Refuses (Message fault) due = due
Refuses (Undecodable fault) due = due
Refuses (Cut bytes) due = due
Refuses TooMuch due = due
Refuses Idle due = due
Refuses (Reset code) due = due
Refuses (GoAway code) due = due
Refuses TooMany due = due
