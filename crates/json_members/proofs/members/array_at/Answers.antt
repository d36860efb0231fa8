use Rattle.std.proofs.Common.{Some, ◌∙◌, ap}
use Rattle.serde_json.specs.View.{view, items_view}
use Rattle.json_members.proofs.Items.{array_is}
use Rattle.json_members.proofs.members.array_at.Goals as goal

pub returns-in-Some : goal.returns-in-Some
returns-in-Some g c = array_is c.args.kind (view c.args.value.now) c.as_slice.result.now (ap (λ l. Some (items_view l)) c.as_slice.ensures.value ∙ c.in-Some.ensures)
