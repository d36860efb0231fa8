-- The operands in what `clap` found for a command.
use Rattle.std.specs.Prelude.{if◌then◌else◌, List, [], ◌∷◌, codes}
use Rattle.std.specs.Str.{bytes_eq}
use Rattle.clap.specs.Walk.{Row, Text}
use Rattle.clap_words.specs.Found.{text_of, texts_of}

abbrev pub operands_in : Text → List Row → List Text
operands_in name rows =
    if bytes_eq name (codes "fetch") then texts_of (codes "WHAT") rows
    else (if bytes_eq name (codes "watch") then texts_of (codes "COUNT") rows
    else (if bytes_eq name (codes "health") then texts_of (codes "SERVICE") rows
    else (if bytes_eq name (codes "health-watch") then text_of (codes "COUNT") rows ∷ []
    else [])))
