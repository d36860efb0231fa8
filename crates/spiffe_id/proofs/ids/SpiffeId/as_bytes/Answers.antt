use Rattle.spiffe_id.proofs.Sound.{id_sound}
use Rattle.spiffe_id.proofs.ids.SpiffeId.as_bytes.Goals as goal

pub returns-clause-id : goal.returns-clause-id
returns-clause-id c = rw (← c.self.view_is) (id_sound c.self.inside.text c.self.invariant)
