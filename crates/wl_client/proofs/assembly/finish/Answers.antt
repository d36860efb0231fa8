use Rattle.std.proofs.Common.{◌≡◌, ◌<◌, ◌≤◌, ◌++◌, ◌∷◌, [], length, None, refl, sym, arith, append-nil}
use Rattle.wl_client.proofs.Assemblies.{came_none, came_part, came_whole, part_new, on_both}
use Rattle.wl_client.proofs.assembly.finish.Goals as goal

pub returns-in-None-clause-ok : goal.returns-in-None-clause-ok
returns-in-None-clause-ok c = rw (came_none c.args.limit c.args.begun.now c.in-None.is c.requires) (sym (append-nil c.args.into.now), refl)

pub returns-then-len-length-clause-ok : goal.returns-then-len-length-clause-ok
returns-then-len-length-clause-ok c =
    let b = c.args.begun.now in
    let short : length b.message < c.in-Some.length = omega arith in
    rw (came_part c.args.limit c.in-Some.length b c.in-Some.is short c.requires) (sym (append-nil c.args.into.now), refl)

pub returns-else-len-length-clause-ok : goal.returns-else-len-length-clause-ok
returns-else-len-length-clause-ok c =
    let b = c.args.begun.now in
    let long : c.in-Some.length ≤ length b.message = omega arith in
    on_both c.tell.result _ _ _ (λ (told : c.tell.new.into ≡ c.args.into.now ++ b.message ∷ []) (next : c.tell.new.begun ≡ record { prefix = []; length = None; message = [] }).
    rw (came_whole c.args.limit c.in-Some.length b c.in-Some.is long c.requires, next) (told, refl)) c.tell.ensures.ok c.tell.ensures.next

pub returns-else-len-length-clause-part : goal.returns-else-len-length-clause-part
returns-else-len-length-clause-part c =
    on_both c.tell.result _ _ _ (λ (next : c.tell.new.begun ≡ record { prefix = []; length = None; message = [] }) (same : c.tell.new.begun ≡ record { prefix = []; length = None; message = [] }). rw next (part_new c.args.limit)) c.tell.ensures.next c.tell.ensures.next

pub returns-else-len-length-clause-prefix : goal.returns-else-len-length-clause-prefix
returns-else-len-length-clause-prefix c =
    let b = c.args.begun.now in
    let long : c.in-Some.length ≤ length b.message = omega arith in
    rw (came_whole c.args.limit c.in-Some.length b c.in-Some.is long c.requires) c.tell.ensures.prefix
