use Rattle.wl_store.specs.Stores.{has_ticket}
use Rattle.wl_worker.proofs.PublishedSteps.{kept_note}
use Rattle.wl_worker.proofs.signing.install.Goals as goal

pub returns-in-Kept-default : goal.returns-in-Kept-default
returns-in-Kept-default g c =
    let ticket = c.args.ticket in
    let old = c.args.desk.now in
    let new = c.signed.new.self in
    let said = c.in_ok-note.ensures in
    kept_note (has_ticket ticket.number ticket.ask old.managed.stored.store.in_flight) c.args.now ticket.number ticket.ask c.args.signed new.store old.managed.stored new.managed.stored old.list new.list c.in_ok-note.field-0.0 c.in_ok-note.field-0.1
    (λ out. (said.spent out).0) said.stored said.installed said.list said.note c.in-Kept-default.is-0
