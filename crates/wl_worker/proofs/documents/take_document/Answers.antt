use Rattle.std.proofs.Common.{◌≡◌, subst, Some, Ok, Result}
use Rattle.wl_document.specs.Checks.{Gives}
use Rattle.wl_document.specs.Documents.{document_state}
use Rattle.wl_document.specs.States.{State}
use Rattle.wl_document.specs.declared.fault.DocFault.{DocFault}
use Rattle.wl_worker.proofs.PublishedSteps.{taken_is_shown}
use Rattle.wl_worker.proofs.documents.take_document.Goals as goal

pub returns-in-Ok-note : goal.returns-in-Ok-note
returns-in-Ok-note g c =
    let before = c.args.desk.now.managed.stored in
    let says : document_state (Some before.published.domain) c.args.document.now ≡ Ok c.in-Ok.state = subst (λ (r : Result State DocFault). Gives (λ (s : State). s) r (document_state (Some before.published.domain) c.args.document.now)) c.in-Ok.is c.read_for.ensures in
    taken_is_shown c.args.document.now c.in-Ok-note.note.list before c.sync_state.new.self.managed.stored c.in-Ok.state c.in-Ok-note.ensures.last says c.in-Ok-sync_state.ensures.stored
