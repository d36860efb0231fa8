use Rattle.std.proofs.Common.{◌≡◌, ◌++◌, length, sym, ap, ◌∙◌, rules}
use Rattle.list_laws.proofs.Gains.{gains_whole}
use Rattle.grpc_wire.specs.Messages.{Reading, messages_of}
use Rattle.wl_client.specs.Assembling.{bytes_of}
use Rattle.wl_client.proofs.Assemblies.{gains_part, ending_part, front_part, part_end}
use Rattle.wl_client.proofs.assembly.assemble.Goals as goal

pub returns-in-Err-finish-clause-prefix : goal.returns-in-Err-finish-clause-prefix
returns-in-Err-finish-clause-prefix c =
    front_part c.args.limit c.in-Ok.used (messages_of c.args.limit (bytes_of c.args.begun.now ++ c.args.piece.now)).messages c.loop-rest.begun c.take_part.new.begun c.loop-rest.rest.now c.args.into.now c.loop-rest.into c.finish.new.into c.in-Ok.ensures.bytes c.finish.ensures.prefix c.loop-rest.invariant.gains

pub loop-rest-preserved : goal.loop-rest-preserved
loop-rest-preserved c =
    let b = c.loop-rest.begun in
    let new = c.take_part.new.begun in
    let next = c.finish.new.begun in
    let told = c.in-Ok-finish.ensures.ok in
    rw c.split_at.ensures.back (record {
      part = c.in-Ok-finish.ensures.part;
      gains = gains_part c.args.limit c.in-Ok.used (messages_of c.args.limit (bytes_of c.args.begun.now ++ c.args.piece.now)).messages b new next c.loop-rest.rest.now c.args.into.now c.loop-rest.into c.finish.new.into c.in-Ok.ensures.bytes told.1 told.0 c.loop-rest.invariant.gains;
      ending = ending_part c.args.limit c.in-Ok.used b new next c.loop-rest.rest.now _ c.in-Ok.ensures.bytes told.1 c.loop-rest.invariant.ending;
    })

pub returns-clause-ok : goal.returns-clause-ok
returns-clause-ok c =
    let none : length c.loop-rest.rest.now ≡ 0 = search rules in
    let here = part_end c.args.limit c.loop-rest.begun c.loop-rest.rest.now none c.loop-rest.invariant.part in
    (gains_whole _ _ _ (rw here at c.loop-rest.invariant.gains), sym c.loop-rest.invariant.ending ∙ ap (λ (r : Reading). r.ending) here)
