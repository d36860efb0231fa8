use Rattle.std.proofs.Common.{arith, refl, inl, inr}
use Rattle.wl_edge.proofs.Sources.{begin_reading}
use Rattle.wl_signlink.proofs.Lines.{at_end, too_much, rose_later, line_done, more_came, none_came, too_long_came}
use Rattle.wl_signlink.proofs.exchanges.line_from.Goals as goal

pub reads-init : goal.reads-init
reads-init g c = rw c.new-done.ensures.items (record { had = begin_reading (g.I.Source.left c.args.input.now); none = refl; room = c.requires; later = omega arith })

pub returns-in-End-clause-line : goal.returns-in-End-clause-line
returns-in-End-clause-line g c = inr (at_end (g.I.Source.left c.args.input.now) (g.I.Source.left c.reads.input) (g.I.Source.left c.read.new.self) c.reads.done.items c.reads.invariant.had c.in-End.ensures.gives c.reads.invariant.none)

pub returns-in-Failed-clause-line : goal.returns-in-Failed-clause-line
returns-in-Failed-clause-line g c = inl (rose_later (g.I.Source.faults c.args.input.now) (g.I.Source.faults c.reads.input) (g.I.Source.faults c.read.new.self) c.reads.invariant.later c.in-Failed.ensures.gives.0)

pub returns-in-Line-clause-line : goal.returns-in-Line-clause-line
returns-in-Line-clause-line g c = rw c.from_vec.ensures (line_done (g.I.Source.left c.args.input.now) (g.I.Source.left c.reads.input) (g.I.Source.left c.read.new.self) c.reads.done.items c.read.new.into c.split_at.result.0.now c.take_piece.new.done.items c.in-Got.count c.reads.invariant.had c.reads.invariant.none c.in-Got.ensures.gives.2 c.split_at.ensures.front c.in-Line.is_last (rw c.in-Line.is at c.in_ok-piece.ensures))

pub reads-preserved : goal.reads-preserved
reads-preserved g c =
    let gave = rw c.in-More.is at c.in_ok-piece.ensures in
    record {
      had = more_came (g.I.Source.left c.args.input.now) (g.I.Source.left c.reads.input) (g.I.Source.left c.read.new.self) c.reads.done.items c.read.new.into c.split_at.result.0.now c.take_piece.new.done.items c.in-Got.count c.reads.invariant.had c.reads.invariant.none c.in-Got.ensures.gives.2 c.split_at.ensures.front gave;
      none = none_came (g.I.Source.left c.args.input.now) (g.I.Source.left c.reads.input) (g.I.Source.left c.read.new.self) c.reads.done.items c.read.new.into c.split_at.result.0.now c.take_piece.new.done.items c.in-Got.count c.reads.invariant.had c.reads.invariant.none c.in-Got.ensures.gives.2 c.split_at.ensures.front gave;
      room = omega (arith, c.reads.invariant.room);
      later = omega (arith, c.reads.invariant.later, c.in-Got.ensures.later);
    }

pub returns-in-TooLong-clause-line : goal.returns-in-TooLong-clause-line
returns-in-TooLong-clause-line g c = inr (too_long_came (g.I.Source.left c.args.input.now) (g.I.Source.left c.reads.input) (g.I.Source.left c.read.new.self) c.reads.done.items c.read.new.into c.split_at.result.0.now c.take_piece.new.done.items c.in-Got.count c.reads.invariant.had c.reads.invariant.none c.in-Got.ensures.gives.2 c.split_at.ensures.front (rw c.in-TooLong.is at c.in_ok-piece.ensures))

pub returns-clause-line : goal.returns-clause-line
returns-clause-line g c = inr (too_much (g.I.Source.left c.args.input.now) (g.I.Source.left c.reads.input) c.reads.done.items c.reads.invariant.had c.reads.invariant.none (omega arith))
