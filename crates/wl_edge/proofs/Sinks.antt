-- What a sink gained, and a text that is sent piece by piece.
use Rattle.std.specs.Prelude.{◌≡◌, ℕ, List, [], ◌++◌, take, drop, Option, Some, None, IfSome}
use Rattle.std.proofs.Common.{sym, ◌∙◌, ap, subst}
use Rattle.std.proofs.lemmas.List.{append_assoc, append-nil, take-append-drop}
use Rattle.wl_edge.specs.Edge.{Gained}

-- A prefix was sent, and the rest of the text is left.
pub record Sending (old new : Option (List ℕ)) (whole rest : List ℕ) : Type 0 where
  pub part : List ℕ
  pub split : whole ≡ part ++ rest
  pub gained : Gained old new part

-- a sink that gained nothing is as it was
pub gained_none : (old : Option (List ℕ)) → Gained old old []
gained_none None = tt
gained_none (Some taken) = ap Some (sym (append-nil taken))

-- a sink that gained one text, and then another
pub gained_more : (old mid new : Option (List ℕ)) (part more : List ℕ) → Gained old mid part → Gained mid new more → Gained old new (part ++ more)
gained_more None mid new part more had got = tt
gained_more (Some taken) mid new part more had got = subst (λ m. IfSome m (λ t. new ≡ Some (t ++ more))) had got ∙ ap Some (append_assoc taken part more)

-- a further piece is sent
pub send_more : (old mid new : Option (List ℕ)) (whole rest : List ℕ) (n : ℕ) → Sending old mid whole rest → IfSome mid (λ taken. new ≡ Some (taken ++ take n rest)) → Sending old new whole (drop n rest)
send_more old mid new whole rest n s got = record {
  part = s.part ++ take n rest;
  split = s.split ∙ ap (λ xs. s.part ++ xs) (sym (take-append-drop n rest)) ∙ sym (append_assoc s.part (take n rest) (drop n rest));
  gained = gained_more old mid new s.part (take n rest) s.gained got;
}
