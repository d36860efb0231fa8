use Rattle.wl_responses.proofs.MoveSteps.{bytes_are_responses, responses_are_answers, turns_were_taken, turns_have_selectors, publications_never_fall, responses_differ, messages_are_cut}
use Rattle.wl_responses.proofs.laws.responses_are_answers.Goals as goal

pub returns : goal.returns
returns c =
    record {
      bytes = bytes_are_responses;
      answers = responses_are_answers;
      turns = turns_were_taken;
      selectors = turns_have_selectors;
      numbers = publications_never_fall;
      differ = responses_differ;
      messages = messages_are_cut;
    }
