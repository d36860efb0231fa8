use Rattle.std.proofs.Common.{◌∙◌, ap}
use Rattle.wl_match.specs.Postings.{ids_at}
use Rattle.wl_match.proofs.SelectorFiles.{rises_posted, ids_posted}
use Rattle.wl_match.proofs.postings.post.Goals as goal

pub returns-clause-keys : goal.returns-clause-keys
returns-clause-keys c = rises_posted c.in_ok-groups.groups.entries c.in_ok-postings.postings.items c.in_ok-postings.ensures.value c.in_ok-postings.ensures.ordered

pub returns-clause-filed : goal.returns-clause-filed
returns-clause-filed c = λ q. ap (λ ps. ids_at ps q) c.in_ok-postings.ensures.value ∙ ids_posted q c.in_ok-groups.groups.entries ∙ c.in_ok-groups.ensures q
