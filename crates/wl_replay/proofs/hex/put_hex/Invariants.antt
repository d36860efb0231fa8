use Rattle.std.proofs.Common.{◌≡◌, ◌++◌, take}
use Rattle.wl_replay.specs.Hex.{hex_text}
use Rattle.wl_replay.proofs.hex.put_hex.Given as goal

abbrev pub invariant-loop-byte : goal.invariant-loop-byte
invariant-loop-byte l = l.out.items ≡ l.fn.out.items ++ hex_text (take l.byte-index l.bytes)
