use Rattle.wl_responses.proofs.SessionMoves.{bytes_of_responses, answers_of_turns, turns_of_calls, selectors_of_calls, turns_of_publications, numbers_of_responses, responses_of_runs_differ, messages_of_runs}
use Rattle.wl_responses.proofs.laws.responses_are_of_publications.Goals as goal

pub returns : goal.returns
returns c =
    record {
      bytes = bytes_of_responses;
      answers = answers_of_turns;
      turns = turns_of_calls;
      selectors = selectors_of_calls;
      publications = turns_of_publications;
      numbers = numbers_of_responses;
      differ = responses_of_runs_differ;
      messages = messages_of_runs;
    }
