use Rattle.list_laws.specs.Results.{◌>>=◌}
use Rattle.std.proofs.Common.{sym, ap, subst}
use Rattle.json_members.specs.Members.{Says, number_at}
use Rattle.wl_document.specs.Members.{number_of}
use Rattle.wl_document.specs.declared.fault.DocFault.TheVariants.{Kind}
use Rattle.wl_document.proofs.Checks.{said_given}
use Rattle.wl_document.proofs.members.number_of.Goals as goal

pub returns : goal.returns
unfolding number_of
returns c = said_given (λ n. n) c.number_at.result _ (subst (Says (λ n. n) c.number_at.result) (sym (ap (λ r. r >>= number_at (Kind c.args.place)) c.in_ok-required.ensures)) c.number_at.ensures)
