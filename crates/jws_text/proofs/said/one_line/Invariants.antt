use Rattle.std.proofs.Common.{◌≡◌, take, map}
use Rattle.jws_text.specs.Tokens.{spaced}
use Rattle.jws_text.proofs.said.one_line.Given as goal

abbrev pub invariant-loop-byte : goal.invariant-loop-byte
invariant-loop-byte l = l.line.items ≡ map spaced (take l.byte-index l.text)
