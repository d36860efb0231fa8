use Rattle.wl_publish.specs.declared.rule.Current.{Current}
use Rattle.wl_publish.proofs.Keeps.{reads}
use Rattle.wl_publish.proofs.steps.read.Goals as goal

pub enter_as-requires : goal.enter_as-requires
enter_as-requires g c = reads g.V.Voucher.signed (λ (x : Current). x.prefix.store) (λ (x : Current). x.prefix.list) (λ (x : Current). x.published_snapshot) _ _
