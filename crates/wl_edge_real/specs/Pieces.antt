-- The bytes of answers (own rules).
use Rattle.std.specs.Prelude.{ℕ, List, [], ◌∷◌, ◌++◌}
use Rattle.wl_edge.specs.declared.link.Heard.{Heard}
use Rattle.wl_edge.specs.declared.link.Heard.TheVariants as heard

abbrev pub piece_of : Heard → List ℕ
piece_of (heard.Piece bytes) = bytes
piece_of heard.Idle = []
piece_of heard.End = []
piece_of heard.Failed = []

-- all bytes that came with these answers
abbrev pub pieces_of : List Heard → List ℕ
pieces_of [] = []
pieces_of (h ∷ hs) = piece_of h ++ pieces_of hs
