use Rattle.std.proofs.Common.{◌≡◌, [], ◌∷◌, ◌++◌, unwrap_or, ◌∙◌, refl}
use Rattle.std.specs.Map.{lookup}
use Rattle.std.specs.BTreeMap.{is_at, get}
use Rattle.std.specs.Ordering.{nat_cmp}
use Rattle.std.specs.Cmp.Lexicographic.{slice_cmp}
use Rattle.wl_store.proofs.FlightAsks.{group_step}
use Rattle.wl_store.proofs.groups.group_one.Goals as goal

pub returns : goal.returns
returns c = λ q.
    let f = c.args.flight.now in
    let es = c.args.groups.now.entries in
    let k : c.in_ok-entry_id.entry_id ≡ f.ask.entry_id = c.in_ok-entry_id.ensures ∙ cc in
    let asks : c.unwrap_or-asks.result ≡ unwrap_or (lookup (is_at (slice_cmp nat_cmp c.in_ok-entry_id.entry_id)) es) [] = c.unwrap_or-asks.ensures ∙ cc in
    let all : c.push.new.self ≡ unwrap_or (lookup (is_at (slice_cmp nat_cmp c.in_ok-entry_id.entry_id)) es) [] ++ f.ask ∷ [] = c.in_ok-push.ensures.ok ∙ rw (asks, c.in_ok-share.ensures) refl in
    group_step f q es (get (slice_cmp nat_cmp) c.remove.new.self q) (get (slice_cmp nat_cmp) c.insert.new.self q)
    (rw k at (c.remove.ensures.updates.0 q))
    (rw k at (rw all at (c.in_ok-insert.ensures.updates.0 q)))
