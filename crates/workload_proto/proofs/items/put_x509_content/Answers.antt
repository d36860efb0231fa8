use Rattle.std.proofs.Common.{◌++◌}
use Rattle.std.proofs.lemmas.Result.{on_err_weaker}
use Rattle.pb_wire.specs.Spelling.{optional_field}
use Rattle.list_laws.proofs.Fronts.{gains_before, gains_after}
use Rattle.workload_proto.specs.Spelling.{spell_x509_item}
use Rattle.workload_proto.proofs.Faults.{on_err}
use Rattle.workload_proto.proofs.items.put_x509_content.Goals as goal

pub returns-in_err-put_optional-clause-err : goal.returns-in_err-put_optional-clause-err
unfolding spell_x509_item
returns-in_err-put_optional-clause-err c =
    on_err c.from_residual.result (gains_before (optional_field 1 c.args.spiffe_id.now) (optional_field 2 c.args.chain.now ++ (optional_field 3 c.args.key.now ++ (optional_field 4 c.args.bundle.now ++ optional_field 5 c.args.hint.now))) _ _ c.in_err-put_optional.ensures.err)

pub returns-in_err-put_optional-2-clause-err : goal.returns-in_err-put_optional-2-clause-err
unfolding spell_x509_item
returns-in_err-put_optional-2-clause-err c =
    on_err c.from_residual-in_err-put_optional-2.result (gains_after (optional_field 1 c.args.spiffe_id.now) (optional_field 2 c.args.chain.now ++ (optional_field 3 c.args.key.now ++ (optional_field 4 c.args.bundle.now ++ optional_field 5 c.args.hint.now))) _ _ _ c.in_ok-put_optional.ensures.ok (gains_before (optional_field 2 c.args.chain.now) (optional_field 3 c.args.key.now ++ (optional_field 4 c.args.bundle.now ++ optional_field 5 c.args.hint.now)) _ _ c.in_err-put_optional-2.ensures.err))

pub returns-in_err-put_optional-3-clause-err : goal.returns-in_err-put_optional-3-clause-err
unfolding spell_x509_item
returns-in_err-put_optional-3-clause-err c =
    on_err c.from_residual-in_err-put_optional-3.result (gains_after (optional_field 1 c.args.spiffe_id.now) (optional_field 2 c.args.chain.now ++ (optional_field 3 c.args.key.now ++ (optional_field 4 c.args.bundle.now ++ optional_field 5 c.args.hint.now))) _ _ _ c.in_ok-put_optional.ensures.ok (gains_after (optional_field 2 c.args.chain.now) (optional_field 3 c.args.key.now ++ (optional_field 4 c.args.bundle.now ++ optional_field 5 c.args.hint.now)) _ _ _ c.in_ok-put_optional-2.ensures.ok (gains_before (optional_field 3 c.args.key.now) (optional_field 4 c.args.bundle.now ++ optional_field 5 c.args.hint.now) _ _ c.in_err-put_optional-3.ensures.err)))

pub returns-in_err-put_optional-4-clause-err : goal.returns-in_err-put_optional-4-clause-err
unfolding spell_x509_item
returns-in_err-put_optional-4-clause-err c =
    on_err c.from_residual-in_err-put_optional-4.result (gains_after (optional_field 1 c.args.spiffe_id.now) (optional_field 2 c.args.chain.now ++ (optional_field 3 c.args.key.now ++ (optional_field 4 c.args.bundle.now ++ optional_field 5 c.args.hint.now))) _ _ _ c.in_ok-put_optional.ensures.ok (gains_after (optional_field 2 c.args.chain.now) (optional_field 3 c.args.key.now ++ (optional_field 4 c.args.bundle.now ++ optional_field 5 c.args.hint.now)) _ _ _ c.in_ok-put_optional-2.ensures.ok (gains_after (optional_field 3 c.args.key.now) (optional_field 4 c.args.bundle.now ++ optional_field 5 c.args.hint.now) _ _ _ c.in_ok-put_optional-3.ensures.ok (gains_before (optional_field 4 c.args.bundle.now) (optional_field 5 c.args.hint.now) _ _ c.in_err-put_optional-4.ensures.err))))

pub returns-clause-err : goal.returns-clause-err
unfolding spell_x509_item
returns-clause-err c =
    on_err_weaker c.put_optional-5.result (λ gained. gains_after (optional_field 1 c.args.spiffe_id.now) (optional_field 2 c.args.chain.now ++ (optional_field 3 c.args.key.now ++ (optional_field 4 c.args.bundle.now ++ optional_field 5 c.args.hint.now))) _ _ _ c.in_ok-put_optional.ensures.ok (gains_after (optional_field 2 c.args.chain.now) (optional_field 3 c.args.key.now ++ (optional_field 4 c.args.bundle.now ++ optional_field 5 c.args.hint.now)) _ _ _ c.in_ok-put_optional-2.ensures.ok (gains_after (optional_field 3 c.args.key.now) (optional_field 4 c.args.bundle.now ++ optional_field 5 c.args.hint.now) _ _ _ c.in_ok-put_optional-3.ensures.ok (gains_after (optional_field 4 c.args.bundle.now) (optional_field 5 c.args.hint.now) _ _ _ c.in_ok-put_optional-4.ensures.ok (gained))))) c.put_optional-5.ensures.err
