use Rattle.std.proofs.Common.{map}
use Rattle.list_laws.proofs.Gains.{GainsUpTo}
use Rattle.wl_client.specs.declared.reply.Heard.TheVariants.{Message}
use Rattle.wl_client.proofs.listener.tell_messages.Given as goal

abbrev pub invariant-loop-message : goal.invariant-loop-message
invariant-loop-message l = GainsUpTo (map Message l.fn.found) (map Message l.message-iterator.rest.items) l.fn.into l.into
