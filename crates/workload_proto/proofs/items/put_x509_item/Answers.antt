use Rattle.std.proofs.Common.{◌≡◌, length, length-append, arith}
use Rattle.std.proofs.lemmas.Result.{on_err_weaker}
use Rattle.list_laws.proofs.Fronts.{gains_after}
use Rattle.workload_proto.specs.declared.message.X509Item.{X509Item}
use Rattle.pb_wire.specs.Spelling.{head}
use Rattle.workload_proto.specs.Spelling.{spell_x509_item, x509_field}
use Rattle.workload_proto.proofs.items.put_x509_item.Goals as goal

pub returns-clause-err : goal.returns-clause-err
unfolding x509_field
returns-clause-err c =
    let item : X509Item = record { spiffe_id = c.args.spiffe_id.now; chain = c.args.chain.now; key = c.args.key.now; bundle = c.args.bundle.now; hint = c.args.hint.now } in
    let exact : c.x509_content_size-size.result ≡ length (spell_x509_item item) = omega (arith, c.x509_content_size-size.ensures, c.requires, length-append (head 1 (length (spell_x509_item item))) (spell_x509_item item)) in
    let written = rw exact at c.in_ok-put_head.ensures.ok in
    on_err_weaker c.put_x509_content.result (λ gained. gains_after (head 1 (length (spell_x509_item item))) (spell_x509_item item) _ _ _ written gained) c.put_x509_content.ensures.err
