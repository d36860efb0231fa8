-- The operands in what `clap` found for a command.
use Rattle.std.specs.Prelude.{if◌then◌else◌, List, [], ◌∷◌, codes}
use Rattle.std.specs.Str.{bytes_eq}
use Rattle.clap.specs.Walk.{Row, Text}
use Rattle.clap_words.specs.Found.{text_of, texts_of}

abbrev pub operands_in : Text → List Row → List Text
operands_in name rows =
    if bytes_eq name (codes "preview") then texts_of (codes "SELECTOR") rows
    else (if bytes_eq name (codes "simulate") then text_of (codes "SEED") rows ∷ text_of (codes "ENTRIES") rows ∷ text_of (codes "CALLERS") rows ∷ text_of (codes "STEPS") rows ∷ []
    else (if bytes_eq name (codes "serve") then text_of (codes "CONFIG") rows ∷ []
    else []))
