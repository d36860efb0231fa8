use Rattle.std.proofs.Common.{◌≡◌, ◌∙◌, ap, subst, refl, List, [], ◌∷◌}
use Rattle.std.specs.List.{AllByRecursion}
use Rattle.wl_snapshot.specs.Snapshots.{Publication}
use Rattle.wl_publish.specs.Listings.{Passing, passing}
use Rattle.wl_publish.proofs.Keeps.{first_legal}
use Rattle.wl_publish.proofs.publisher.start.Goals as goal

pub add-requires-clause-legal : goal.add-requires-clause-legal
add-requires-clause-legal g c = rw c.open_book-head.ensures.empty (first_legal g.V.Voucher.signed c.args.first c.requires.vouched)

pub returns-in-Ok-clause-passes : goal.returns-in-Ok-clause-passes
returns-in-Ok-clause-passes g c =
    let one : c.add.new.prefix.list ≡ c.args.first ∷ [] = ap (λ l. l.list) c.if-not-add.ensures.0 ∙ rw c.open_book-head.ensures.empty refl in
    subst (λ (l : List Publication). AllByRecursion (λ (p : Passing). p ≡ passing c.add.new.prefix.store l [] l) c.in-Ok.passes) one c.in-Ok.ensures.passes
