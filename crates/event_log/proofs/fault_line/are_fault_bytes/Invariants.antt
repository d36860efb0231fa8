use Rattle.std.proofs.Common.{◌≡◌, drop}
use Rattle.event_log.specs.Texts.{are_fault_bytes}
use Rattle.event_log.proofs.fault_line.are_fault_bytes.Given as goal

abbrev pub invariant-loop-byte : goal.invariant-loop-byte
invariant-loop-byte l = are_fault_bytes (drop l.byte-index l.bytes) ≡ are_fault_bytes l.bytes
