use Rattle.laws_headline.proofs.Views.{own_views, own_shared}
use Rattle.laws_headline.proofs.laws.own_data_decide_views.Goals as goal

pub returns : goal.returns
returns c = record { views = own_views; shared = own_shared }
