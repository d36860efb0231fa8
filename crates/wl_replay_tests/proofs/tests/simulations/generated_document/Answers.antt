use Rattle.std.specs.Prelude.{refl}
use Rattle.std.specs.Fmt.{digits}
use Rattle.wl_replay.specs.Generated.{document_text, entry_text, id_text, path_text, selectors_text, names_text, ttl_text}
use Rattle.wl_replay_tests.proofs.tests.simulations.generated_document.Goals as goal

pub returns : goal.returns
unfolding document_text entry_text id_text path_text selectors_text names_text ttl_text digits
returns c = refl
