use Rattle.wl_responses.proofs.StreamReplies.{streams_have_answers}
use Rattle.wl_responses.proofs.PublicationOrder.{numbers_never_fall}
use Rattle.wl_responses.proofs.ResponseTurns.{begun_taken}
use Rattle.wl_responses.proofs.CallSelectors.{begun_attested}
use Rattle.wl_responses.proofs.laws.streams_have_answers.Goals as goal

pub returns : goal.returns
returns c = record { answers = streams_have_answers; turns = begun_taken; selectors = begun_attested; numbers = numbers_never_fall }
