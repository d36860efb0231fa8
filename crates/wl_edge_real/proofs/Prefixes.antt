-- Lists that begin with others.
use Rattle.std.specs.Prelude.{List, [], ◌++◌}
use Rattle.std.proofs.Common.{sym, ◌∙◌, ap}
use Rattle.std.proofs.lemmas.List.{append-nil, append_assoc}
use Rattle.list_laws.specs.Lists.{BeginsWith}

-- each list begins with itself
pub begins_itself : {A : Type 0} (list : List A) → BeginsWith list list
begins_itself {A} list = ([], sym (append-nil list))

-- what begins with a list that begins with another begins with that
pub begins_longer : {A : Type 0} (first mid last : List A) → BeginsWith mid first → BeginsWith last mid → BeginsWith last first
begins_longer {A} first mid last a b = (a.0 ++ b.0, b.1 ∙ ap (λ list. list ++ b.0) a.1 ∙ append_assoc first a.0 b.0)
