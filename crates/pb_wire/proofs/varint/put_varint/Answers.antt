use Rattle.pb_wire.proofs.Varints.{is_varint, only_varint}
use Rattle.pb_wire.proofs.varint.put_varint.Goals as goal

pub returns-clause-form : goal.returns-clause-form
returns-clause-form c = is_varint c.args.value

pub returns-clause-only : goal.returns-clause-only
returns-clause-only c = λ bytes is. only_varint bytes c.args.value is
