-- Where a client hears a refusal by HTTP in the answer to its one call, it hears its number.
use Rattle.std.proofs.Common.{◌≡◌, List, [], Result, Ok, Err}
use Rattle.wl_heard.proofs.Common.{Frame, talk_after, Move, steps_of, steps_fit, ClientFault, Listener, frames_heard, fresh_listener, state_after, heard_in, frames_written, MakesOneCall}
use Rattle.h2_frame.specs.Reading as reader
use Rattle.wl_client.specs.declared.fault.ClientFault.TheVariants as faults
use Rattle.wl_client.specs.Clients.{ClientState, Listening, Failed}
use Rattle.wl_heard.proofs.Marks.{Kept, Lands}
use Rattle.wl_heard.proofs.Hearers.{Exact, Follows, steps_heard}

abbrev pub HasNumber : ClientFault → Type 0
HasNumber (faults.HttpStatus number) = number ≡ 0 → ⊥
HasNumber fault = Unit {0}

abbrev pub IsNumbered : ClientState → Type 0
IsNumbered (Listening ending l) = Unit {0}
IsNumbered (Failed fault) = HasNumber fault

fault_numbered : (E : Type 0) (fault : ClientFault) → Kept E fault → HasNumber fault
fault_numbered E (faults.HttpStatus number) h = h.1
fault_numbered E (faults.Message fault) h = tt
fault_numbered E (faults.Reset code) h = tt
fault_numbered E (faults.GoAway code) h = tt
fault_numbered E (faults.Frame fault) h = absurd h
fault_numbered E (faults.Header fault) h = absurd h
fault_numbered E (faults.Order stream) h = absurd h
fault_numbered E faults.NoStatus h = absurd h
fault_numbered E (faults.Undecodable fault) h = absurd h
fault_numbered E (faults.Cut size) h = absurd h
fault_numbered E faults.TooMuch h = absurd h
fault_numbered E faults.Idle h = absurd h
fault_numbered E faults.Memory h = absurd h
fault_numbered E faults.TooMany h = absurd h

state_numbered : (E : Type 0) (P : Listener → Type 0) (r : Result Listener ClientFault) → Lands E P r → IsNumbered (state_after r (reader.Rest []))
state_numbered E P (Ok l) h = tt
state_numbered E P (Err fault) h = fault_numbered E fault h

frames_numbered : (E : Type 0) (P : Listener → Type 0) (fs : List Frame) → Lands E P (frames_heard fs fresh_listener).after → IsNumbered (heard_in (record { frames = fs; ending = reader.Rest [] }) fresh_listener).after
unfolding heard_in
frames_numbered E P fs h = state_numbered E P (frames_heard fs fresh_listener).after h

pub https_numbered : (moves : List Move) → MakesOneCall (steps_of moves) → IsNumbered (heard_in (record { frames = frames_written (steps_of moves); ending = reader.Rest [] }) fresh_listener).after
https_numbered moves own =
    let steps = steps_of moves in
    frames_numbered (Exact steps) (Follows (talk_after steps)) (frames_written steps) (steps_heard steps (steps_fit moves) own)
