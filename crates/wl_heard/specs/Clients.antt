-- What a client hears in the bytes of a session.
use Rattle.std.specs.Prelude.{◌≡◌, ℕ, List, [], ◌∷◌}
use Rattle.list_laws.specs.Lists.{BeginsWith}
use Rattle.h2_frame.specs.Reading.{Rest}
use Rattle.grpc_wire.specs.Messages.{messages_of}
use Rattle.workload_proto.specs.declared.limits.TheConstants.{MAX_RESPONSE_LEN}
use Rattle.wl_client.specs.declared.fault.ClientFault.{ClientFault}
use Rattle.wl_client.specs.declared.fault.ClientFault.TheVariants as faults
use Rattle.wl_client.specs.declared.reply.Heard.{Heard}
use Rattle.wl_client.specs.declared.reply.Heard.TheVariants.{Head, Message, Status}
use Rattle.wl_client.specs.Openings.{call_stream}
use Rattle.wl_client.specs.Hearing.{fresh_listener}
use Rattle.wl_client.specs.Clients.{ClientState, Listening, Failed, heard_in, heard}
use Rattle.wl_responses.specs.Moves.{Move, bytes_after, steps_of, replies_in}
use Rattle.wl_heard.specs.Written.{frames_written}

-- the messages among what was heard
abbrev pub messages_told : List Heard → List (List ℕ)
messages_told [] = []
messages_told (Head ∷ hs) = messages_told hs
messages_told (Message m ∷ hs) = m ∷ messages_told hs
messages_told (Status code text ∷ hs) = messages_told hs

-- the whole messages in the bytes of DATA of a response's stream
abbrev pub whole_messages : List ℕ → List (List ℕ)
whole_messages bytes = (messages_of MAX_RESPONSE_LEN bytes).messages

-- a client that goes on has heard all that was due
abbrev pub HasHeardAll : ClientState → List (List ℕ) → List (List ℕ) → Type 0
HasHeardAll (Listening ending l) due told = told ≡ due
HasHeardAll (Failed fault) due told = Unit {0}

-- a fault of what was said, and not of how bytes lie in frames or in messages
abbrev pub IsOfContent : ClientFault → Type 0
IsOfContent (faults.Frame fault) = ⊥
IsOfContent (faults.Message fault) = ⊥
IsOfContent fault = Unit {0}

abbrev pub FailsByContent : ClientState → Type 0
FailsByContent (Listening ending l) = Unit {0}
FailsByContent (Failed fault) = IsOfContent fault

-- Of a session's bytes: a client finds the frames that were written and nothing after them, and has no fault of frames or
-- of messages. The messages that it hears are the first of those that were written on its stream, in their order; where
-- it goes on, they are all that were written in full.
pub record HearsSession (moves : List Move) : Type 0 where
  pub frames : heard (bytes_after moves) ≡ heard_in (record { frames = frames_written (steps_of moves); ending = Rest [] }) fresh_listener
  pub fault : FailsByContent (heard (bytes_after moves)).after
  pub first : BeginsWith (whole_messages (replies_in call_stream moves).written) (messages_told (heard (bytes_after moves)).told)
  pub all : HasHeardAll (heard (bytes_after moves)).after (whole_messages (replies_in call_stream moves).written) (messages_told (heard (bytes_after moves)).told)

abbrev pub ClientsHearSessions : Type 0
ClientsHearSessions = (moves : List Move) → HearsSession moves
