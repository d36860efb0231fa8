-- Turns, one call after another.
use Rattle.std.proofs.Common.{◌≡◌, Option, List, [], ◌∷◌, ◌++◌, refl, sym, ap, ◌∙◌, append_assoc}
use Rattle.std.proofs.lemmas.List.{append-nil}
use Rattle.wl_session.proofs.Common.{Phase, Publication, ServedCall, Stage, Turned, stage_turn, call_turn, calls_turn, turn_before}
use Rattle.wl_session.specs.Answering.{kept_of}

-- calls in two parts
calls_on : (x : Publication) (cs ds : List ServedCall) (p : Phase) → calls_turn x (cs ++ ds) p ≡ turn_before (calls_turn x cs p) (calls_turn x ds)
unfolding calls_turn
calls_on x [] ds p = refl
calls_on x (c ∷ cs) ds p =
    let first = call_turn x c p in
    ap (λ (r : Turned). record { phase = r.phase; kept = first.kept ++ r.kept }) (calls_on x cs ds first.phase)
    ∙ ap (λ (ks : List ServedCall). record { phase = (calls_turn x ds (calls_turn x cs first.phase).phase).phase; kept = ks }) (sym (append_assoc first.kept (calls_turn x cs first.phase).kept (calls_turn x ds (calls_turn x cs first.phase).phase).kept))

one_call : (x : Publication) (c : ServedCall) (p : Phase) → calls_turn x (c ∷ []) p ≡ call_turn x c p
unfolding calls_turn
one_call x c p = ap (λ (ks : List ServedCall). record { phase = (call_turn x c p).phase; kept = ks }) (append-nil (call_turn x c p).kept)

-- one call more at the end
pub turned_more : (x : Publication) (cs : List ServedCall) (c : ServedCall) (p : Phase) → calls_turn x (cs ++ c ∷ []) p ≡ turn_before (calls_turn x cs p) (call_turn x c)
turned_more x cs c p = calls_on x cs (c ∷ []) p ∙ ap (λ (r : Turned). record { phase = r.phase; kept = (calls_turn x cs p).kept ++ r.kept }) (one_call x c (calls_turn x cs p).phase)

call_is : (x : Publication) (c : ServedCall) (p : Phase) → call_turn x c p ≡ stage_turn x c.stream c.stage p
unfolding call_turn
call_is x c p = refl

-- one more call has taken its turn
pub turned_one : (x : Publication) (cs : List ServedCall) (c : ServedCall) (p q r : Phase) (ks : List ServedCall) (stage : Option Stage)
    → calls_turn x cs p ≡ record { phase = q; kept = ks } → stage_turn x c.stream c.stage q ≡ record { phase = r; kept = kept_of c.stream stage } → calls_turn x (cs ++ c ∷ []) p ≡ record { phase = r; kept = ks ++ kept_of c.stream stage }
turned_one x cs c p q r ks stage before this =
    turned_more x cs c p ∙ (ap (λ (first : Turned). turn_before first (call_turn x c)) before ∙ ap (λ (rest : Turned). record { phase = rest.phase; kept = ks ++ rest.kept }) (call_is x c q ∙ this))
