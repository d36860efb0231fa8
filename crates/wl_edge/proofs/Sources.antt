-- A source that is read piece by piece.
use Rattle.std.specs.Prelude.{◌≡◌, ℕ, ◌≤◌, List, [], ◌++◌, length, take, drop, Option, Some, None, IfSome}
use Rattle.std.proofs.Common.{refl, sym, ◌∙◌, ap, subst}
use Rattle.std.proofs.lemmas.List.{append-nil, append_assoc, take-append-drop, take_all}
use Rattle.std.proofs.Math.Seq.{take-append_seam}
use Rattle.wl_edge.specs.Edge.{Drained, ReadsOn}

-- What was read so far stands before what is left.
abbrev pub Reading : Option (List ℕ) → Option (List ℕ) → List ℕ → Type 0
Reading old new done = IfSome old (λ whole. (rest : List ℕ) × (new ≡ Some rest) × (whole ≡ done ++ rest))

-- nothing is read yet
pub begin_reading : (old : Option (List ℕ)) → Reading old old []
begin_reading None = tt
begin_reading (Some whole) = (whole, refl, refl)

-- a further piece is read
pub read_more : (old mid new : Option (List ℕ)) (before after : List ℕ) (room : ℕ) → Reading old mid before → ReadsOn mid new before after room → Reading old new after
read_more None mid new before after room r step = tt
read_more (Some whole) mid new before after room r step =
    let got = subst (λ m. IfSome m (λ left. (new ≡ Some (drop step.count left)) × (after ≡ before ++ take step.count left))) r.1 step.gives in
    (drop step.count r.0, got.0, r.2 ∙ ap (λ xs. before ++ xs) (sym (take-append-drop step.count r.0)) ∙ sym (append_assoc before (take step.count r.0) (drop step.count r.0)) ∙ ap (λ xs. xs ++ drop step.count r.0) (sym got.1))

-- the source is at its end
pub read_whole : (old mid new : Option (List ℕ)) (done : List ℕ) (limit : ℕ) → length done ≤ limit → Reading old mid done → IfSome mid (λ left. (left ≡ []) × (new ≡ Some [])) → Drained old limit done
read_whole None mid new done limit few r got = tt
read_whole (Some whole) mid new done limit few r got =
    let none = subst (λ m. IfSome m (λ left. (left ≡ []) × (new ≡ Some []))) r.1 got in
    let all : whole ≡ done = r.2 ∙ ap (λ xs. done ++ xs) none.0 ∙ append-nil done in
    sym (take_all limit done few) ∙ ap (take limit) (sym all)

-- the limit is reached
pub read_enough : (old new : Option (List ℕ)) (done : List ℕ) (limit : ℕ) → length done ≡ limit → Reading old new done → Drained old limit done
read_enough None new done limit full r = tt
read_enough (Some whole) new done limit full r = sym (ap (λ w. take limit w) r.2 ∙ ap (λ n. take n (done ++ r.0)) (sym full) ∙ take-append_seam done r.0)
