use Rattle.std.proofs.Common.{sym}
use Rattle.std.proofs.lemmas.List.{take_all}
use Rattle.wl_edge.specs.declared.upstream.TheConstants.{MAX_PULLED}
use Rattle.wl_edge.proofs.memory_upstream.front_of.Goals as goal

pub returns-then-document-le-MAX_PULLED-clause-prefix : goal.returns-then-document-le-MAX_PULLED-clause-prefix
returns-then-document-le-MAX_PULLED-clause-prefix c = sym (take_all MAX_PULLED c.args.document.now c.if-document-le-MAX_PULLED.true)
