use Rattle.std.proofs.Common.{ℕ, List, ◌≡◌, ◌≤◌, ◌+◌, sym, ap, ◌∙◌, arith, refl}
use Rattle.hpack.specs.Tables.{Table, list_size, size_of}
use Rattle.wl_octets.specs.declared.header.Header.{Header}
use Rattle.hpack.proofs.Eviction.{list_size-nil, fitting_none, with_first, fitting_with}
use Rattle.hpack.proofs.dynamic_table.DynamicTable.insert.Goals as goal

abbrev table_of : List Header → ℕ → Table
table_of items most = record { items = items; most = most }

pub invariant_of-self : goal.invariant_of-self
invariant_of-self c = (sym (ap list_size c.clear.ensures.items ∙ list_size-nil), omega arith, c.self.invariant.2)

pub returns-then-size-from : goal.returns-then-size-from
returns-then-size-from c = rw (← c.self.view_is, c.clear.ensures.items, fitting_none c.self.inside.most c.args.header.now c.self.inside.items.items (omega (arith, c.size-size.ensures, c.from.ensures))) refl

pub invariant_of-self-2 : goal.invariant_of-self-2
invariant_of-self-2 c =
    let e : list_size c.push_front.new.self.items ≡ size_of c.args.header.now + list_size c.evict-self-inside.new.items.items = with_first c.push_front.new.self.items c.evict-self-inside.new.items.items c.args.header.now c.in_ok-item.item c.in_ok-push_front.ensures.items c.in_ok-item.ensures in
    (omega (arith, c.size-size.ensures, c.evict-self-inside.ensures.size), omega (arith, c.from.ensures, c.evict-self-inside.ensures.fits), c.self.invariant.2)

pub returns : goal.returns
returns c =
    let le : size_of c.args.header.now ≤ c.self.inside.most = omega (arith, c.size-size.ensures, c.from.ensures) in
    let e = fitting_with c.self.inside.most c.size-size.result c.args.header.now c.in_ok-item.item c.self.inside.items.items c.evict-self-inside.new.items.items c.push_front.new.self.items c.in_ok-item.ensures c.size-size.ensures le c.evict-self-inside.ensures.items c.in_ok-push_front.ensures.items in
    rw (← c.self.view_is) (ap (λ items. table_of items c.self.inside.most) e)
