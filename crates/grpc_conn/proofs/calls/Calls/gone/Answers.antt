use Rattle.std.proofs.Common.{rules}
use Rattle.std.proofs.lemmas.Fn.{filter_same}
use Rattle.grpc_conn.proofs.calls.Calls.gone.Goals as goal

pub returns-clause-calls : goal.returns-clause-calls
returns-clause-calls c =
    rw (← c.self.view_is) (filter_same _ _ _ (λ x b f' k. search rules) _ _ c.retain.ensures.filtered)
