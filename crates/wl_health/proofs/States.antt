-- The encoding of a state takes two bytes.
use Rattle.std.proofs.Common.{◌≡◌, ℕ, ◌<◌, length, refl, arith}
use Rattle.pb_wire.proofs.Varints.{varint-small}
use Rattle.wl_health.specs.Messages.{spell_state}

pub two_bytes : (state : ℕ) → state < 128 → length (spell_state state) ≡ 2
unfolding spell_state
two_bytes state small = rw (varint-small 8 (omega arith), varint-small state small) refl
