use Rattle.wl_publish.specs.declared.rule.Current.{Current}
use Rattle.wl_publish.proofs.Keeps.{admits, tells, starts}
use Rattle.wl_publish.proofs.steps.reader_of.Goals as goal

pub reader-requires : goal.reader-requires
reader-requires g c = admits g.V.Voucher.signed (λ (x : Current). x.prefix.store) (λ (x : Current). x.prefix.list) (λ (x : Current). x.published_snapshot)

pub tell-requires : goal.tell-requires
tell-requires g c = tells g.V.Voucher.signed (λ (x : Current). x.prefix.store) (λ (x : Current). x.prefix.list) (λ (x : Current). x.published_snapshot) _ _

pub learn-requires-clause-rule : goal.learn-requires-clause-rule
learn-requires-clause-rule g c = starts g.V.Voucher.signed (λ (x : Current). x.prefix.store) (λ (x : Current). x.prefix.list) (λ (x : Current). x.published_snapshot) _ _ _ _
