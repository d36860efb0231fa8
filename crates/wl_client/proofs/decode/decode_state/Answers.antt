use Rattle.std.proofs.Common.{Result, Ok, Err, ℕ, List, ◌≡◌, ◌∙◌, sym, arith}
use Rattle.std.specs.Prelude.{IfOk}
use Rattle.list_laws.specs.Lists.{AreBytes}
use Rattle.pb_wire.specs.declared.fault.FieldFault.{FieldFault}
use Rattle.wl_client.specs.Messages.{state_wrong, state_more, state_of, SpellsState}
use Rattle.wl_client.proofs.Fields.{message_found, message_again}
use Rattle.wl_client.proofs.decode.decode_state.Goals as goal

state_found : (r : Result ℕ FieldFault) (bytes : List ℕ) → AreBytes bytes → r ≡ state_of bytes → IfOk r (SpellsState bytes)
unfolding state_of
state_found (Ok n) bytes fits is = message_found state_wrong state_more 0 n bytes fits (sym is)
state_found (Err e) bytes fits is = tt

state_again : (n : ℕ) (bytes : List ℕ) → AreBytes bytes → SpellsState bytes n → state_of bytes ≡ Ok n
unfolding state_of
state_again n bytes fits s = message_again state_wrong state_more 0 n bytes fits s

pub returns-clause-found : goal.returns-clause-found
returns-clause-found c = state_found c.read_state.result c.args.bytes.now (λ i. omega (arith, c.type_inv.bytes i)) c.read_state.ensures

pub returns-clause-only : goal.returns-clause-only
returns-clause-only c = λ n s. c.read_state.ensures ∙ state_again n c.args.bytes.now (λ i. omega (arith, c.type_inv.bytes i)) s
