use Rattle.wl_responses.proofs.Endings.{none_before, turns_give, denied_where, unknown_where, names_give, tokens_give}
use Rattle.wl_responses.proofs.Verdicts.{verdicts_give}
use Rattle.wl_responses.proofs.laws.statuses_are_of_views.Goals as goal

pub returns : goal.returns
returns c =
    record {
      before = none_before;
      verdicts = verdicts_give;
      turns = turns_give;
      denied = denied_where c.answers_are_of_views.ensures.no_identity;
      unknown = unknown_where c.answers_are_of_views.ensures.unknown_service;
      names = names_give;
      tokens = tokens_give;
    }
