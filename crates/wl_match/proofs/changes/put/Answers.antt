use Rattle.std.proofs.Common.{◌≡◌, ◌∙◌, ap}
use Rattle.wl_entry.specs.declared.entries.Entry.{Entry}
use Rattle.wl_match.proofs.ById.{put_by_id}
use Rattle.wl_match.proofs.changes.put.Goals as goal

pub returns : goal.returns
returns c = λ es is.
    let id : c.in_ok-id.id ≡ c.args.entry.now.id = c.in_ok-id.ensures ∙ ap (λ (e : Entry). e.id) c.part.ensures in
    c.in_ok-insert.ensures.entries ∙ rw (is, id, c.in_ok-share.ensures) (put_by_id c.args.entry.now es)
