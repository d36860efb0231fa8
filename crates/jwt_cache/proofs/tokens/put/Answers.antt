use Rattle.std.proofs.Common.{◌∙◌, sym}
use Rattle.jwt_cache.proofs.KeptTokens.{put_some, put_none}
use Rattle.jwt_cache.proofs.tokens.put.Goals as goal

pub returns-in-Some-clause-ok : goal.returns-in-Some-clause-ok
returns-in-Some-clause-ok c = λ q.
    put_some q c.args.kept.ask.entry_id c.args.rings.now.entries (c.get_mut.follows.lender c.push.new.self).entries c.in-Some.ring.now c.push.new.self c.args.kept
    (rw c.as_slice.ensures at ((c.get_mut.follows.holds c.push.new.self).0)) (rw c.as_slice.ensures at (sym c.in-Some.ensures.value)) c.push.ensures

pub returns-in_ok-insert-in-None-clause-ok : goal.returns-in_ok-insert-in-None-clause-ok
returns-in_ok-insert-in-None-clause-ok c = λ q.
    let id = c.into_vec-id.ensures ∙ c.in_ok-copy-in-None.ensures in
    let off = rw (c.as_slice.ensures, ← id) at c.in-None.ensures.value in
    let v = rw c.in_ok-ring-in-None.ensures at c.push-in-None.ensures in
    let entries = rw c.get_mut.follows.holds-at-none at c.in_ok-insert-in-None.ensures.entries in
    rw id at (put_none q c.into_vec-id.result c.args.rings.now.entries c.insert.new.self.entries c.push-in-None.new.self c.args.kept entries off v)
