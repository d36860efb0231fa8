use Rattle.list_laws.specs.Results.{◌>>=◌}
use Rattle.std.proofs.Common.{sym, ap, subst}
use Rattle.json_members.specs.Members.{Says, text_at}
use Rattle.wl_document.specs.Members.{text_of}
use Rattle.wl_document.specs.declared.fault.DocFault.TheVariants.{Kind}
use Rattle.wl_document.proofs.Checks.{said_given}
use Rattle.wl_document.proofs.members.text_of.Goals as goal

pub returns : goal.returns
unfolding text_of
returns c = said_given (λ s. s.now) c.text_at.result _ (subst (Says (λ s. s.now) c.text_at.result) (sym (ap (λ r. r >>= text_at (Kind c.args.place)) c.in_ok-required.ensures)) c.text_at.ensures)
