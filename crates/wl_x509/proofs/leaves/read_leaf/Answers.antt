use Rattle.std.proofs.Common.{arith}
use Rattle.std.proofs.lemmas.Result.{err_from_is_err_and}
use Rattle.wl_x509.proofs.LeafReading.{leaf_ok, leaf_err, leaf_uri_err, only_leaf, refuses_leaf}
use Rattle.wl_x509.proofs.CertificateEncoding.{certificate_found}
use Rattle.wl_x509.proofs.leaves.read_leaf.Goals as goal

pub returns-in_err-frame-clause-err : goal.returns-in_err-frame-clause-err
returns-in_err-frame-clause-err c =
    let p = err_from_is_err_and c.from_residual.result c.from_residual.ensures.1 in
    rw (p.1, p.2) (leaf_err c.args.chain.now c.in_err-frame.field-0.0 c.in_err-frame.ensures.value)

pub returns-in_err-frame-clause-none : goal.returns-in_err-frame-clause-none
returns-in_err-frame-clause-none c =
    let p = err_from_is_err_and c.from_residual.result c.from_residual.ensures.1 in
    rw (p.1, p.2) (refuses_leaf c.args.chain.now c.in_err-frame.field-0.0 (leaf_err c.args.chain.now c.in_err-frame.field-0.0 c.in_err-frame.ensures.value))

pub returns-in_err-uri-clause-err : goal.returns-in_err-uri-clause-err
returns-in_err-uri-clause-err c =
    let p = err_from_is_err_and c.from_residual-in_err-uri.result c.from_residual-in_err-uri.ensures.1 in
    rw (p.1, p.2) (leaf_uri_err c.args.chain.now c.in_ok-frame.frame c.in_ok-frame.found c.in_err-uri.field-0.0 c.in_ok-frame.ensures.value c.in_err-uri.ensures.err)

pub returns-in_err-uri-clause-none : goal.returns-in_err-uri-clause-none
returns-in_err-uri-clause-none c =
    let p = err_from_is_err_and c.from_residual-in_err-uri.result c.from_residual-in_err-uri.ensures.1 in
    let fault = c.in_err-uri.field-0.0 in
    rw (p.1, p.2) (refuses_leaf c.args.chain.now fault (leaf_uri_err c.args.chain.now c.in_ok-frame.frame c.in_ok-frame.found fault c.in_ok-frame.ensures.value c.in_err-uri.ensures.err))

pub returns-clause-ok : goal.returns-clause-ok
returns-clause-ok c = leaf_ok c.args.chain.now c.in_ok-frame.frame c.in_ok-frame.found c.in_ok-uri.uri c.in_ok-frame.ensures.value c.in_ok-uri.ensures.ok

pub returns-clause-found : goal.returns-clause-found
returns-clause-found c = certificate_found c.args.chain.now _ (λ i. omega (arith, c.type_inv.chain i)) (leaf_ok c.args.chain.now c.in_ok-frame.frame c.in_ok-frame.found c.in_ok-uri.uri c.in_ok-frame.ensures.value c.in_ok-uri.ensures.ok)

pub returns-clause-only : goal.returns-clause-only
returns-clause-only c = only_leaf c.args.chain.now _ (leaf_ok c.args.chain.now c.in_ok-frame.frame c.in_ok-frame.found c.in_ok-uri.uri c.in_ok-frame.ensures.value c.in_ok-uri.ensures.ok)
