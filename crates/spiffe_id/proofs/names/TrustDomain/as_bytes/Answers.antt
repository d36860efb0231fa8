use Rattle.spiffe_id.proofs.Sound.{domain_sound}
use Rattle.spiffe_id.proofs.names.TrustDomain.as_bytes.Goals as goal

pub returns-clause-name : goal.returns-clause-name
returns-clause-name c = rw (← c.self.view_is) (domain_sound 0 c.self.inside.name c.self.invariant)
