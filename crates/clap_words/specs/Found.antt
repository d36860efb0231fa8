-- The text of an operand in what `clap` found.
use Rattle.std.specs.Prelude.{List, [], unwrap_or}
use Rattle.clap.specs.Walk.{Row, Text, all_of, first_of}

abbrev pub text_of : Text → List Row → Text
text_of id rows = unwrap_or (first_of id rows) []

abbrev pub texts_of : Text → List Row → List Text
texts_of id rows = unwrap_or (all_of id rows) []
