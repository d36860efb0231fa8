use Rattle.std.proofs.Common.{[], Ok, sym, subst, arith}
use Rattle.std.proofs.lemmas.Result.{err_from_is_err_and}
use Rattle.list_laws.specs.Results.{◌>>=◌}
use Rattle.wl_core.specs.declared.events.Event.TheVariants as events
use Rattle.wl_replay.specs.Checks.{Faults}
use Rattle.wl_replay.specs.Words.{number_at}
use Rattle.wl_replay.specs.Events.{signed_of}
use Rattle.wl_replay.proofs.Steps.{faults_second, six_words}
use Rattle.wl_replay.proofs.events.signed.Goals as goal

pub returns-in_err-signed-clause-value : goal.returns-in_err-signed-clause-value
unfolding signed_of
returns-in_err-signed-clause-value c =
    let p = err_from_is_err_and c.from_residual-in_err-signed.result c.from_residual-in_err-signed.ensures.1 in
    rw (p.1, p.2) (
    subst (λ ws. Faults c.in_err-signed.field-0.0 (signed_of c.args.at ws)) (sym (six_words (λ w. w.now) c.args.words.now (record { ref_ptr = (0, 0); now = [] }) (omega arith) (omega arith)))
    (faults_second _ _ c.in_ok-ticket.ticket _ (λ ticket signed. number_at c.args.at _ >>= λ now. Ok (events.Signed ticket signed now)) c.in_ok-ticket.ensures c.in_err-signed.ensures))
