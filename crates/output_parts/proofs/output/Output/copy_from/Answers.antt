use Rattle.std.proofs.Common.{◌≡◌, ℕ, ◌+◌, ◌-◌, List, ◌++◌, length, take, drop, min, sym, ap, subst, ◌∙◌, arith, take_all, append_assoc}
use Rattle.std.specs.List.{flat_map}
use Rattle.output_parts.specs.Outputs.{piece_bytes, joined}
use Rattle.output_parts.proofs.Copies.{Copied, one_more, filled, filled_bytes}
use Rattle.output_parts.proofs.Fronts.{piece_more, pieces_split}
use Rattle.output_parts.proofs.output.Output.copy_from.Goals as goal

pub returns-then-filling-into-clause-count : goal.returns-then-filling-into-clause-count
returns-then-filling-into-clause-count c =
    let o = c.self.inside in
    let pieces = c.split_at.result.1.now in
    let all : c.args.self.now ≡ joined pieces o.last = sym c.self.view_is ∙ ap (λ l. joined l o.last) (sym (c.split_at.ensures.back ∙ ap (drop o.gone) c.as_slice.ensures)) in
    filled c.args.start (length c.args.into.now) _ (joined (drop c.loop-piece.piece-index pieces) o.last) _ c.loop-piece.filling.count c.loop-piece.into c.loop-piece.invariant c.if-filling-into.true
    ∙ ap (λ (xs : List ℕ). min (length xs - c.args.start) (length c.args.into.now)) (sym (all ∙ pieces_split pieces c.loop-piece.piece-index o.last))

pub returns-then-filling-into-clause-prefix : goal.returns-then-filling-into-clause-prefix
returns-then-filling-into-clause-prefix c =
    let o = c.self.inside in
    let pieces = c.split_at.result.1.now in
    let all : c.args.self.now ≡ joined pieces o.last = sym c.self.view_is ∙ ap (λ l. joined l o.last) (sym (c.split_at.ensures.back ∙ ap (drop o.gone) c.as_slice.ensures)) in
    filled_bytes c.args.start (length c.args.into.now) _ (joined (drop c.loop-piece.piece-index pieces) o.last) _ c.loop-piece.filling.count c.loop-piece.into c.loop-piece.invariant
    ∙ ap (λ (xs : List ℕ). take c.loop-piece.filling.count (drop c.args.start xs)) (sym (all ∙ pieces_split pieces c.loop-piece.piece-index o.last))

pub loop-piece-preserved : goal.loop-piece-preserved
loop-piece-preserved c =
    let pieces = c.split_at.result.1.now in
    let p = c.piece-item.result in
    let i = c.loop-piece.piece-index in
    let done = flat_map piece_bytes (take i pieces) in
    let first = c.copy-filling in
    let second = c.copy-filling-in-loop-piece in
    let third = c.copy-filling-in-loop-piece-2 in
    let own = one_more c.args.start (length c.args.into.now) done _ _ _ first.result.skipped first.result.count _ first.new.into c.loop-piece.invariant first.ensures.skipped first.ensures.count first.ensures.len first.ensures.prefix in
    let head = one_more c.args.start (length c.args.into.now) _ _ _ _ second.result.skipped second.result.count _ second.new.into own second.ensures.skipped second.ensures.count second.ensures.len second.ensures.prefix in
    let payload = one_more c.args.start (length c.args.into.now) _ _ _ _ third.result.skipped third.result.count _ third.new.into head third.ensures.skipped third.ensures.count third.ensures.len third.ensures.prefix in
    let is : ((done ++ c.as_slice-in-loop-piece.result.now) ++ p.head) ++ c.payload.result.now ≡ flat_map piece_bytes (take (i + 1) pieces) =
    append_assoc (done ++ c.as_slice-in-loop-piece.result.now) p.head c.payload.result.now ∙ append_assoc done c.as_slice-in-loop-piece.result.now (p.head ++ c.payload.result.now)
    ∙ ap (λ (xs : List ℕ). done ++ (xs ++ (p.head ++ c.payload.result.now))) c.as_slice-in-loop-piece.ensures ∙ ap (λ (xs : List ℕ). done ++ (p.own ++ (p.head ++ xs))) c.payload.ensures
    ∙ sym (piece_more pieces i p c.loop-piece-test.true c.piece-item.is) in
    subst (λ (xs : List ℕ). Copied c.args.start (length c.args.into.now) xs third.result.skipped third.result.count third.new.into) is payload

pub returns-clause-prefix : goal.returns-clause-prefix
returns-clause-prefix c =
    let o = c.self.inside in
    let pieces = c.split_at.result.1.now in
    let all : c.args.self.now ≡ joined pieces o.last = sym c.self.view_is ∙ ap (λ l. joined l o.last) (sym (c.split_at.ensures.back ∙ ap (drop o.gone) c.as_slice.ensures)) in
    let last = one_more c.args.start (length c.args.into.now) _ _ _ _ c.copy.result.skipped c.copy.result.count _ c.copy.new.into c.loop-piece.invariant c.copy.ensures.skipped c.copy.ensures.count c.copy.ensures.len c.copy.ensures.prefix in
    let end : flat_map piece_bytes (take c.loop-piece.piece-index pieces) ≡ flat_map piece_bytes pieces = ap (flat_map piece_bytes) (take_all c.loop-piece.piece-index pieces (omega (arith, c.loop-piece-test.false))) in
    last.bytes ∙ ap (λ (xs : List ℕ). take c.copy.result.count (drop c.args.start xs)) (ap (λ (xs : List ℕ). xs ++ c.as_slice-2.result.now) end ∙ ap (λ (xs : List ℕ). flat_map piece_bytes pieces ++ xs) c.as_slice-2.ensures ∙ sym all)
