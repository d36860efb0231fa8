-- Bytes as JSON (RFC 8259, the last of equal members).
use Rattle.std.specs.Prelude.{ℕ, List, if◌then◌else◌, Option, None}
use Rattle.std.specs.Str.{is_utf8}
use Rattle.serde_json.specs.Data.{Data}
use Rattle.serde_json.specs.Read.{read}

-- the value that is read
abbrev pub value_of : List ℕ → Option Data
value_of bytes = if is_utf8 bytes then read bytes else None
