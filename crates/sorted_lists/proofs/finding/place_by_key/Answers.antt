use Rattle.std.proofs.Common.{rules, sym, ap, ◌∙◌}
use Rattle.std.proofs.lemmas.Fn.{always_returns_same}
use Rattle.sorted_lists.proofs.Places.{ord, place_of, searched}
use Rattle.sorted_lists.proofs.finding.place_by_key.Goals as goal

pub returns-in-Ok-clause-place : goal.returns-in-Ok-clause-place
returns-in-Ok-clause-place g c =
    let key = g.T.Keyed.key in
    let k = c.args.key.now in
    let facts = c.binary_search_by.ensures in
    let by_key = facts.position (ord key k) (always_returns_same _ _ _ (λ a r after called. (search rules, search rules))) in
    sym (searched key k c.args.items.now c.binary_search_by.result c.requires facts.bound by_key ∙ ap (place_of key k) c.in-Ok.is)

pub returns-in-Err-clause-place : goal.returns-in-Err-clause-place
returns-in-Err-clause-place g c =
    let key = g.T.Keyed.key in
    let k = c.args.key.now in
    let facts = c.binary_search_by.ensures in
    let by_key = facts.position (ord key k) (always_returns_same _ _ _ (λ a r after called. (search rules, search rules))) in
    sym (searched key k c.args.items.now c.binary_search_by.result c.requires facts.bound by_key ∙ ap (place_of key k) c.in-Err.is)
