use Rattle.std.proofs.Common.{sym, ◌∙◌}
use Rattle.serde_json.specs.View.{view}
use Rattle.wl_config.proofs.Arrays.{array_none, array_many, array_few}
use Rattle.wl_config.proofs.members.list_at.Goals as goal

pub returns-then-is_empty-clause-value : goal.returns-then-is_empty-clause-value
returns-then-is_empty-clause-value c = array_none c.args.limit c.args.place (view c.args.value.now) c.in_ok-items.items.now c.in_ok-items.ensures (sym c.is_empty.ensures ∙ c.if-is_empty.true)

pub returns-then-items-limit-clause-value : goal.returns-then-items-limit-clause-value
returns-then-items-limit-clause-value c = array_many c.args.limit c.args.place (view c.args.value.now) c.in_ok-items.items.now c.in_ok-items.ensures (sym c.is_empty.ensures ∙ c.if-is_empty.false) c.if-items-limit.true

pub returns-clause-value : goal.returns-clause-value
returns-clause-value c = array_few c.args.limit c.args.place (view c.args.value.now) c.in_ok-items.items.now c.in_ok-items.ensures (sym c.is_empty.ensures ∙ c.if-is_empty.false) c.if-items-limit.false
