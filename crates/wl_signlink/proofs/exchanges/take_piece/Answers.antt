use Rattle.std.proofs.Common.{◌≡◌, ◌+◌, ◌==◌, ◌++◌, ◌∙◌, ap, arith, true, length, take, drop, length-append}
use Rattle.std.proofs.lemmas.Bool.{eqb-true}
use Rattle.std.proofs.lemmas.List.{length-take-le, drop_all}
use Rattle.wl_signlink.proofs.Lines.{cut, uncut}
use Rattle.wl_signlink.proofs.exchanges.take_piece.Goals as goal

pub returns-in_ok-extend_from_slice-in-None : goal.returns-in_ok-extend_from_slice-in-None
returns-in_ok-extend_from_slice-in-None c = (uncut c.args.piece.now c.in-None.ensures.place, c.in_ok-extend_from_slice-in-None.ensures.items)

pub returns-in-Some : goal.returns-in-Some
returns-in-Some c = (
  take c.in-Some.at c.args.piece.now,
  drop (c.in-Some.at + 1) c.args.piece.now,
  cut c.args.piece.now c.in-Some.at c.in-Some.ensures.place,
  omega (arith, length-take-le c.in-Some.at c.args.piece.now (omega (arith, c.in-Some.ensures.bound))),
)

pub returns-in_ok-extend_from_slice-in-Some-2 : goal.returns-in_ok-extend_from_slice-in-Some-2
returns-in_ok-extend_from_slice-in-Some-2 c =
    let items : c.extend_from_slice-in-Some-2.new.self.items ≡ c.args.done.now.items ++ take c.in-Some.at c.args.piece.now = c.in_ok-extend_from_slice-in-Some-2.ensures.items ∙ ap (λ xs. c.args.done.now.items ++ xs) c.split_at.ensures.front in (
      take c.in-Some.at c.args.piece.now,
      drop (c.in-Some.at + 1) c.args.piece.now,
      cut c.args.piece.now c.in-Some.at c.in-Some.ensures.place,
      items,
      omega (arith, ap length items, length-append c.args.done.now.items (take c.in-Some.at c.args.piece.now), length-take-le c.in-Some.at c.args.piece.now (omega (arith, c.in-Some.ensures.bound))),
      λ (e : (c.in-Some.at + 1 == length c.args.piece.now) ≡ true). drop_all (c.in-Some.at + 1) c.args.piece.now (omega (arith, eqb-true (c.in-Some.at + 1) (length c.args.piece.now) e)),
    )
