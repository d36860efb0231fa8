use Rattle.serde_json.specs.View.{view}
use Rattle.wl_document.proofs.Arrays.{array_many, array_few}
use Rattle.wl_document.proofs.members.list_at.Goals as goal

pub returns-then-items-limit-clause-value : goal.returns-then-items-limit-clause-value
returns-then-items-limit-clause-value c = array_many c.args.limit c.args.place (view c.args.value.now) c.in_ok-items.items.now c.in_ok-items.ensures c.if-items-limit.true

pub returns-clause-value : goal.returns-clause-value
returns-clause-value c = array_few c.args.limit c.args.place (view c.args.value.now) c.in_ok-items.items.now c.in_ok-items.ensures c.if-items-limit.false
