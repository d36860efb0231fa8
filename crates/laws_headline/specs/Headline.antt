-- The laws of the headline, a field for each sentence (own rule): what two callers, two runs and two agents have to agree on to be
-- written the same bytes, and what each call of a served connection is given.
use Rattle.laws_headline.specs.Own.{OwnDecidesViews, OwnIsShared}
use Rattle.laws_headline.specs.Changes.{ForeignEntryAdded, ForeignEntryChanged, ForeignBundleAdded, ForeignBundleChanged, ForeignSyncs, ForeignClaims, ForeignSignings, ForeignFailures}
use Rattle.laws_headline.specs.Agreeing.{RunsOnSameData, ServedOnSameData}
use Rattle.wl_served.specs.Complete.{ServedGiveStatuses, ServedAreAnswered, ServedAreWritten, ServedAreHeldBack, ServedAwaitAsks, ServedAsksStay, ServedTakeOutcomes}

-- Two that agree on what came in and on the data that are a caller's own are written the same bytes.
pub record AgreementDecides : Type 0 where
  pub runs : RunsOnSameData
  pub served : ServedOnSameData
  pub views : OwnDecidesViews
  pub shared : OwnIsShared

-- What is foreign to a caller may come, change, go, be signed, fail or end: what is the caller's own stays.
pub record ForeignIsUnseen : Type 0 where
  pub entry_added : ForeignEntryAdded
  pub entry_changed : ForeignEntryChanged
  pub bundle_added : ForeignBundleAdded
  pub bundle_changed : ForeignBundleChanged
  pub sync : ForeignSyncs
  pub claim : ForeignClaims
  pub signing : ForeignSignings
  pub failure : ForeignFailures

-- Each call of a served connection has its status, and each ready call its answer.
pub record ServedAreComplete : Type 0 where
  pub statuses : ServedGiveStatuses
  pub answered : ServedAreAnswered
  pub written : ServedAreWritten
  pub held_back : ServedAreHeldBack
  pub asks : ServedAwaitAsks
  pub stay : ServedAsksStay
  pub outcomes : ServedTakeOutcomes

pub record HeadlineLaws : Type 0 where
  pub agreement : AgreementDecides
  pub foreign : ForeignIsUnseen
  pub complete : ServedAreComplete
