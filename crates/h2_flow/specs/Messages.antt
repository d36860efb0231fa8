-- The bytes of a message, whoever has them.
use Rattle.std.specs.Prelude.{ℕ, List}
use Rattle.h2_flow.specs.declared.message.Holding.{Holding}
use Rattle.h2_flow.specs.declared.message.Holding.TheVariants.{Own, Common}

abbrev pub bytes_held : Holding → List ℕ
bytes_held (Own bytes) = bytes
bytes_held (Common bytes) = bytes
