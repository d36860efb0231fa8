use Rattle.std.proofs.Common.{◌≡◌, ◌<◌, ◌≤◌, ◌-◌, refl, length, true, false, inl, inr, arith}
use Rattle.std.proofs.lemmas.Bool.{cases_lt, false≢true}
use Rattle.hpack.proofs.StaticTable.{entry-zero, entry-static, entry-there, entry-past}
use Rattle.hpack.proofs.dynamic_table.DynamicTable.field.Goals as goal

pub returns-then-index-eq0 : goal.returns-then-index-eq0
returns-then-index-eq0 c = rw c.if-index-eq0.true (entry-zero c.args.self.now.items)

pub returns-then-place-lt-COUNT : goal.returns-then-place-lt-COUNT
returns-then-place-lt-COUNT c = rw (entry-static c.args.self.now.items c.args.index (omega arith) (omega arith), c.static_name.ensures, c.static_value.ensures) refl

pub returns-in-Some : goal.returns-in-Some
returns-in-Some c =
    let there : c.args.index - 1 - 61 < length c.self.inside.items.items = omega (arith, c.self.inside.items.ok.0, c.in-Some.ensures.variant.0 refl) in
    rw (← c.self.view_is, c.as_slice.ensures, c.as_slice-in-Some.ensures) (entry-there c.self.inside.items.items c.args.index c.in-Some.header.now c.if-place-lt-COUNT.false there c.in-Some.ensures.lookup)

pub returns-in-None : goal.returns-in-None
returns-in-None c =
    let inside : c.args.index - 1 - 61 < length c.self.inside.items.items → false ≡ true = (λ lt. c.in-None.ensures.variant.1 (omega (arith, c.self.inside.items.ok.0, lt))) in
    let past : length c.self.inside.items.items ≤ c.args.index - 1 - 61 = elim (cases_lt (c.args.index - 1 - 61) (length c.self.inside.items.items)) [ inl lt ↦ absurd (false≢true (inside lt)) | inr le ↦ le ] in
    rw (← c.self.view_is) (entry-past c.self.inside.items.items c.args.index c.if-place-lt-COUNT.false past)
