-- A view that is made of the places that an index gives.
use Rattle.std.proofs.Common.{◌≡◌, ℕ, List, filter, refl, ap, ◌∙◌}
use Rattle.wl_entry.specs.Entitled.{is_entitled}
use Rattle.wl_entry.specs.declared.entries.Entry.{Entry}
use Rattle.wl_match.specs.Indexes.{items_at}
use Rattle.wl_session.proofs.Common.{Publication, view_in}
use Rattle.wl_snapshot.specs.Views.{view_model_of, entries_at}

same_items : (entries : List Entry) (places : List ℕ) → entries_at entries places ≡ items_at entries places
unfolding entries_at items_at
same_items entries places = refl

-- where the places are those of the entitled entries, it is the caller's view
pub by_places : (x : Publication) (sel : List (List ℕ)) (places : List ℕ) → items_at x.entries places ≡ filter (is_entitled sel) x.entries → view_model_of x (entries_at x.entries places) ≡ view_in x sel
unfolding view_in
by_places x sel places chosen = ap (view_model_of x) (same_items x.entries places ∙ chosen)
