use Rattle.wl_responses.proofs.Bytes.{steps_write_frames}
use Rattle.wl_responses.proofs.MoveSteps.{sessions_take_steps}
use Rattle.wl_responses.proofs.laws.sessions_take_steps.Goals as goal

pub returns : goal.returns
returns c = record { steps = sessions_take_steps; frames = steps_write_frames }
