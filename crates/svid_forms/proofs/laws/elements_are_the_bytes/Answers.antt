use Rattle.svid_forms.proofs.Values.{are_the_bytes}
use Rattle.svid_forms.proofs.laws.elements_are_the_bytes.Goals as goal

pub returns : goal.returns
returns c = are_the_bytes
