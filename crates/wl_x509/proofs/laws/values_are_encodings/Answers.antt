use Rattle.wl_x509.proofs.Encodings.{encoded, encoding_read}
use Rattle.wl_x509.proofs.laws.values_are_encodings.Goals as goal

pub returns-clause-found : goal.returns-clause-found
returns-clause-found c = encoded

pub returns-clause-only : goal.returns-clause-only
returns-clause-only c = encoding_read
