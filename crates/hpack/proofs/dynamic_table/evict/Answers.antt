use Rattle.std.proofs.Common.{◌≡◌, ◌+◌, ◌≤◌, length, sym, ◌∙◌, arith}
use Rattle.hpack.specs.Tables.{size_of, list_size}
use Rattle.hpack.proofs.Eviction.{without_last, fitting_without, fitting_all, none_left}
use Rattle.hpack.proofs.dynamic_table.evict.Goals as goal
use Rattle.hpack.proofs.dynamic_table.evict.Goals.{After-size}

pub returns-in_default : goal.returns-in_default
returns-in_default c =
    let none : length c.loop-total.items.items ≡ 0 = omega (arith, c.loop-total.items.ok.0, c.in_default.ensures.cases.0) in
    absurd (none_left c.loop-total.items.items c.pop_back.new.self.items c.loop-total.total c.args.room c.loop-total.invariant.counted none c.loop-total-test.true)

counted_there : (c : After-size) → c.loop-total.total ≡ list_size c.pop_back.new.self.items + size_of c.in-Some.oldest
counted_there c = without_last c.loop-total.items.items c.pop_back.new.self.items c.in-Some.oldest c.loop-total.total c.loop-total.invariant.counted c.in-Some.ensures.items

pub overflow_cast-total : goal.overflow_cast-total
overflow_cast-total c = let e = counted_there (goal.at.overflow_cast-total c).After-size in omega (arith, c.size.ensures)

pub overflow_sub-total : goal.overflow_sub-total
overflow_sub-total c = let e = counted_there (goal.at.overflow_sub-total c).After-size in omega (arith, c.size.ensures)

pub loop-total-preserved : goal.loop-total-preserved
loop-total-preserved c =
    let e = counted_there (goal.at.loop-total-preserved c).After-size in
    record {
      same = fitting_without c.args.room c.loop-total.items.items c.pop_back.new.self.items c.args.items.now.items c.in-Some.oldest c.loop-total.total c.loop-total.invariant.counted c.in-Some.ensures.items c.loop-total-test.true c.loop-total.invariant.same;
      counted = omega (arith, c.size.ensures);
    }

pub returns-clause-items : goal.returns-clause-items
returns-clause-items c =
    let le : list_size c.loop-total.items.items ≤ c.args.room = omega (arith, c.loop-total.invariant.counted) in
    sym (fitting_all c.args.room c.loop-total.items.items le) ∙ c.loop-total.invariant.same
