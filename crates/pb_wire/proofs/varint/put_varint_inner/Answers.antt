use Rattle.std.proofs.Common.{◌≡◌, ◌++◌, ◌∷◌, [], ◌+◌, ◌%◌, ◌/◌, sym, append_assoc, arith}
use Rattle.pb_wire.specs.Varint.{varint}
use Rattle.pb_wire.proofs.Varints.{varint-small, varint-more}
use Rattle.pb_wire.proofs.varint.put_varint_inner.Goals as goal

pub loop-rest-preserved : goal.loop-rest-preserved
loop-rest-preserved c =
    let rest = c.loop-rest.rest in
    let part = c.loop-rest.invariant.0 in
    let byte : rest % 128 + 128 ≡ 128 + rest % 128 = omega arith in
    (part ++ (128 + rest % 128) ∷ [], rw (c.in_ok-push.ensures.items, c.loop-rest.invariant.1, byte) (append_assoc c.args.out.now.items part ((128 + rest % 128) ∷ [])), rw (c.loop-rest.invariant.2, varint-more rest c.loop-rest-test.true) (sym (append_assoc part ((128 + rest % 128) ∷ []) (varint (rest / 128)))))

pub returns-clause-ok : goal.returns-clause-ok
returns-clause-ok c =
    rw (c.in_ok-push-2.ensures.items, c.loop-rest.invariant.1, c.loop-rest.invariant.2, varint-small c.loop-rest.rest c.loop-rest-test.false) (append_assoc c.args.out.now.items c.loop-rest.invariant.0 (c.loop-rest.rest ∷ []))
