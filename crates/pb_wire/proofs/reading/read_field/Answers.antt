use Rattle.std.proofs.Common.{◌≡◌, ◌∙◌, sym, ℕ, List, Ok, Err, Result, ap, arith, length, length-append, length-drop}
use Rattle.std.specs.Prelude.{IfOk}
use Rattle.pb_wire.specs.declared.fault.WireFault.{WireFault}
use Rattle.pb_wire.specs.declared.field.Field.{Field}
use Rattle.pb_wire.specs.Spelling.{head, field}
use Rattle.pb_wire.specs.Grammar.{StandsAt}
use Rattle.pb_wire.specs.Reading.{field_at}
use Rattle.list_laws.specs.Lists.{AreBytes}
use Rattle.pb_wire.proofs.Fields.{field_holds, field_again}
use Rattle.pb_wire.proofs.ReadBack.{bytes_back, varint_back}
use Rattle.pb_wire.proofs.reading.read_field.Goals as goal

is_found : (bytes : List ℕ) (at : ℕ) (r : Result Field WireFault) → AreBytes bytes → r ≡ field_at bytes at → IfOk r (λ f. StandsAt bytes at f)
is_found bytes at (Ok f) fits e = field_holds bytes at f fits (sym e)
is_found bytes at (Err d) fits e = tt

pub returns-clause-found : goal.returns-clause-found
returns-clause-found c = is_found c.args.bytes.now c.args.at c.read_field_inner.result (λ i. omega (arith, c.type_inv.bytes i)) c.read_field_inner.ensures.value

pub returns-clause-only : goal.returns-clause-only
returns-clause-only c = λ f s. c.read_field_inner.ensures.value ∙ field_again c.args.bytes.now c.args.at f s.piece s.rest s.parts s.is_field

pub returns-clause-bytes_back : goal.returns-clause-bytes_back
returns-clause-bytes_back c = λ number content rest least most e.
    c.read_field_inner.ensures.value ∙ bytes_back c.args.bytes.now c.args.at number content rest least most (omega (arith, ap length e, length-append (field number content) rest, length-append (head number (length content)) content, length-drop c.args.at c.args.bytes.now)) e

pub returns-clause-varint_back : goal.returns-clause-varint_back
returns-clause-varint_back c = λ number n rest least most fits e.
    c.read_field_inner.ensures.value ∙ varint_back c.args.bytes.now c.args.at number n rest least most fits e
