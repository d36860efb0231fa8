-- What is written for a line, and for a text (own rules).
use Rattle.std.specs.Prelude.{ℕ, ◌==◌, if◌then◌else◌, List, [], ◌∷◌, map, codes, Option, Some, None, option_and_then}
use Rattle.std.specs.Str.{bytes_eq}
use Rattle.std.specs.List.{slice_split, join_with_byte}
use Rattle.fault_lines.specs.Numbers.{numbers_in}
use Rattle.fault_lines.specs.Sentences.{document_sentence, config_sentence, script_sentence}

-- the sentence of a fault of what this word names
unfoldable pub sentence : List ℕ → List ℕ → Option (List ℕ)
sentence subject numbers =
    if bytes_eq subject (codes "document") then document_sentence numbers
    else if bytes_eq subject (codes "config") then config_sentence numbers
    else if bytes_eq subject (codes "script") then script_sentence numbers
    else None

-- `fault`, the subject and the numbers
unfoldable pub sentence_of_words : List (List ℕ) → Option (List ℕ)
sentence_of_words [] = None
sentence_of_words (w ∷ []) = None
sentence_of_words (w ∷ subject ∷ ws) = if bytes_eq w (codes "fault") then option_and_then (sentence subject) (numbers_in ws) else None

-- the words of a line, each after a space but the first
abbrev pub words : List ℕ → List (List ℕ)
words line = slice_split (λ b. b == 32) line

abbrev pub or_line : List ℕ → Option (List ℕ) → List ℕ
or_line line None = line
or_line line (Some text) = text

-- the sentence of a fault line; any other line as it is
unfoldable pub explanation : List ℕ → List ℕ
explanation line = or_line line (sentence_of_words (words line))

-- a text line by line
unfoldable pub explained_text : List ℕ → List ℕ
explained_text text = join_with_byte 10 (map explanation (slice_split (λ b. b == 10) text))
