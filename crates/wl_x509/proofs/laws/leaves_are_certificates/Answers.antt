use Rattle.wl_x509.proofs.CertificateEncoding.{certificate_found}
use Rattle.wl_x509.proofs.RoundTrips.{certificate_again}
use Rattle.wl_x509.proofs.laws.leaves_are_certificates.Goals as goal

pub returns-clause-found : goal.returns-clause-found
returns-clause-found c = certificate_found

pub returns-clause-only : goal.returns-clause-only
returns-clause-only c = certificate_again
