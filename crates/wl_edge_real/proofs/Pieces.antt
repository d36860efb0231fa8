-- The bytes of one more answer.
use Rattle.std.specs.Prelude.{ℕ}
use Rattle.std.proofs.Common.{◌≡◌, List, [], ◌∷◌, ◌++◌, sym, ap, ◌∙◌}
use Rattle.std.proofs.lemmas.List.{append-nil, append_assoc}
use Rattle.wl_edge.specs.declared.link.Heard.{Heard}
use Rattle.wl_edge_real.specs.Pieces.{piece_of, pieces_of}

pub pieces_more : (hs : List Heard) (h : Heard) → pieces_of (hs ++ h ∷ []) ≡ pieces_of hs ++ piece_of h
pieces_more [] h = append-nil (piece_of h)
pieces_more (x ∷ hs) h = ap (λ l. piece_of x ++ l) (pieces_more hs h) ∙ sym (append_assoc (piece_of x) (pieces_of hs) (piece_of h))

-- what was given stays what came, where that grew by the bytes of one more answer
pub whole_still : (hs hs' : List Heard) (h : Heard) (came came' : List ℕ) → pieces_of hs ≡ came → hs' ≡ hs ++ h ∷ [] → came' ≡ came ++ piece_of h → pieces_of hs' ≡ came'
whole_still hs hs' h came came' whole is more = ap pieces_of is ∙ pieces_more hs h ∙ ap (λ l. l ++ piece_of h) whole ∙ sym more
