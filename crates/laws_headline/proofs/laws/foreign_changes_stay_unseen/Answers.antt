use Rattle.laws_headline.proofs.Steps.{foreign_syncs, foreign_claims, foreign_signings, foreign_failures}
use Rattle.laws_headline.proofs.laws.foreign_changes_stay_unseen.Goals as goal

pub returns : goal.returns
returns c = record { sync = foreign_syncs; claim = foreign_claims; signing = foreign_signings; failure = foreign_failures }
