-- The bytes of an output.
use Rattle.std.specs.Prelude.{ℕ, List, ◌++◌, take, drop}
use Rattle.std.specs.List.{flat_map}
use Rattle.output_parts.specs.declared.piece.Piece.{Piece}

-- bytes of its own, the head of a frame, and the payload, which is a part of a message
abbrev pub piece_bytes : Piece → List ℕ
piece_bytes p = p.own ++ (p.head ++ take p.count (drop p.from p.message))

-- all pieces, and the bytes after them
abbrev pub joined : List Piece → List ℕ → List ℕ
joined pieces last = flat_map piece_bytes pieces ++ last
