use Rattle.std.proofs.Common.{◌≡◌, ◌++◌, take}
use Rattle.wl_control.specs.Escapes.{hex}
use Rattle.wl_control.proofs.escapes.put_hex.Given as goal

abbrev pub invariant-loop-byte : goal.invariant-loop-byte
invariant-loop-byte l = l.out.items ≡ l.fn.out.items ++ hex (take l.byte-index l.bytes)
