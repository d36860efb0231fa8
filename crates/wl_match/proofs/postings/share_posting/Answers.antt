use Rattle.std.proofs.Common.{◌∙◌, sym}
use Rattle.wl_match.proofs.SelectorFiles.{same_posting}
use Rattle.wl_match.proofs.postings.share_posting.Goals as goal

pub returns-then-eq : goal.returns-then-eq
returns-then-eq c = c.in_ok-share.ensures ∙ same_posting c.in-Some.posting.now c.args.fresh (rw c.part.ensures at (sym c.eq.ensures ∙ c.if-eq.true))
