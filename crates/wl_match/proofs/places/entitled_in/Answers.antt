use Rattle.std.proofs.Common.{◌∙◌, ap}
use Rattle.wl_entry.specs.Entitled.{is_entitled}
use Rattle.wl_match.specs.Indexes.{entitled_places}
use Rattle.wl_match.proofs.Hits.{all_due}
use Rattle.wl_match.proofs.AscendingNumbers.{among, places_are}
use Rattle.wl_match.proofs.places.entitled_in.Goals as goal

pub returns : goal.returns
unfolding entitled_places
returns c =
    let list = c.in_ok-list.list.items in
    let sel = c.args.selectors.now in
    let xs = c.args.entries.now in
    c.from_vec.ensures ∙ places_are (is_entitled sel) xs list c.in_ok-list.ensures.ordered
    (λ q. ap (λ ks. among ks q) c.in_ok-list.ensures.value ∙ c.in_ok-places.ensures q ∙ all_due sel xs c.args.postings.now c.requires.filed q)
