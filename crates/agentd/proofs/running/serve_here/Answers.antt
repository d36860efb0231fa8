use Rattle.std.proofs.Common.{refl}
use Rattle.agentd.proofs.Premises.{explains}
use Rattle.agentd.proofs.running.serve_here.Goals as goal

pub returns : goal.returns
returns g c = record {
  headline = λ serves. record {
    serves = explains _ _ _ (λ l. refl) _ _ _ (c.run.ensures.headline serves).serves;
    laws = (c.run.ensures.headline serves).laws;
  };
}
