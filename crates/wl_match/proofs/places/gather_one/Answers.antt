use Rattle.std.proofs.Common.{length, slice_get, refl, sym, ◌∙◌}
use Rattle.std.proofs.lemmas.Option.{slice_get_read}
use Rattle.std.specs.BTreeSet.{contains}
use Rattle.std.specs.Ordering.{nat_cmp}
use Rattle.wl_entry.specs.Entitled.{is_entitled}
use Rattle.wl_match.proofs.Hits.{not_there, passed, put_hit}
use Rattle.wl_match.proofs.PlacesById.{nowhere, only_there}
use Rattle.wl_match.proofs.places.gather_one.Goals as goal

pub returns-in_default : goal.returns-in_default
returns-in_default c = λ q. not_there c.args.selectors.now c.args.id.now (slice_get c.args.entries.now q) (contains nat_cmp c.args.places.now q) (nowhere c.args.id.now c.args.entries.now (sym c.in_default.ensures.place) q)

pub returns-in_ok-insert : goal.returns-in_ok-insert
unfolding is_entitled
returns-in_ok-insert c =
    let xs = c.args.entries.now in
    let e = c.index-entries-place.result in
    let only = only_there c.args.id.now xs c.requires.rises c.in-Some.place (sym c.in-Some.ensures.place) in
    let at = slice_get_read xs (length xs) c.in-Some.place e refl c.in-Some.ensures.within c.index-entries-place.is in
    let yes = rw c.part.ensures at (sym c.is_subset.ensures ∙ c.if-is_subset.true) in
    λ q. put_hit c.args.selectors.now c.args.id.now xs c.in-Some.place e at only yes q (contains nat_cmp c.args.places.now q) (contains nat_cmp c.insert.new.self q) (c.in_ok-insert.ensures.updates.0 q)

pub returns-else-is_subset : goal.returns-else-is_subset
unfolding is_entitled
returns-else-is_subset c =
    let xs = c.args.entries.now in
    let e = c.index-entries-place.result in
    let only = only_there c.args.id.now xs c.requires.rises c.in-Some.place (sym c.in-Some.ensures.place) in
    let at = slice_get_read xs (length xs) c.in-Some.place e refl c.in-Some.ensures.within c.index-entries-place.is in
    let not_so = rw c.part.ensures at (sym c.is_subset.ensures ∙ c.if-is_subset.false) in
    λ q. passed c.args.selectors.now c.args.id.now xs c.in-Some.place e at only not_so q (contains nat_cmp c.args.places.now q)
