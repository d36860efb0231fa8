-- Links of a seat are taken out of the slab in which they stand, and put into it.
use Rattle.std.specs.Prelude.{◌≡◌, ℕ, ◌+◌, ◌==◌, Bool, true, List, [], ◌∷◌, ◌++◌, Option, Some, None, length}
use Rattle.std.proofs.Common.{arith, sym, ◌∙◌, ap, subst, length-append}
use Rattle.std.proofs.lemmas.List.{append-nil, nil_from_length}
use Rattle.std.proofs.lemmas.Bool.Decides.{nat_tests}
use Rattle.wl_worker.proofs.Common.{Ask, JwtToken, Slab, ListenerLog, links_of, Under, SeatView}
use Rattle.slab.specs.Slab.{get, slab_len, Updates}
use Rattle.wl_edge.specs.Listeners.{HasOpenLink}
use Rattle.wl_worker.specs.Seating.{HasOpen, Goes, KeepsTending, FinishesTending}
use Rattle.wl_worker.specs.declared.step.Step.TheVariants as step
use Rattle.wl_worker.proofs.SlotLinks.{Between, came, went, count_links}
use Rattle.wl_worker.proofs.SeatParts.{goes_moved, goes_still, open_link}
use Rattle.wl_worker.proofs.LinkParts.{keeps_moved, keeps_still, finishes_moved, finishes_still}

module _ {T : Type 0} (f : T → Under) where
  -- ---- taken out

  pub goes_taken : (w : SeatView) (x : T) (old new : Slab T) (key : ℕ) → Some x ≡ get old key → Updates old new key None → Goes w w (links_of f old.slots) (f x ∷ links_of f new.slots) []
  goes_taken w x old new key is updates =
      let at : Between f x new.slots old.slots = went f x old new key (sym is) updates in
      subst (λ (l : List Under). Goes w w l (f x ∷ links_of f new.slots) []) (sym at.with_it) (goes_moved w (f x) at.front at.back [] (links_of f new.slots) (sym at.without))

  pub keeps_taken : (tells : Type 0) (vouched : Ask → List (List ℕ) → JwtToken → Type 0) (w : SeatView) (x : T) (old new : Slab T) (key : ℕ) → Some x ≡ get old key → Updates old new key None → KeepsTending tells vouched w w (links_of f old.slots) (f x ∷ links_of f new.slots) step.On
  keeps_taken tells vouched w x old new key is updates =
      let at : Between f x new.slots old.slots = went f x old new key (sym is) updates in
      subst (λ (l : List Under). KeepsTending tells vouched w w l (f x ∷ links_of f new.slots) step.On) (sym at.with_it) (keeps_moved tells vouched w (f x) at.front at.back [] (links_of f new.slots) (sym at.without))

  pub finishes_taken : (vouched : Ask → List (List ℕ) → JwtToken → Type 0) (w : SeatView) (x : T) (old new : Slab T) (key : ℕ) → Some x ≡ get old key → Updates old new key None → FinishesTending vouched w w (links_of f old.slots) (f x ∷ links_of f new.slots)
  finishes_taken vouched w x old new key is updates =
      let at : Between f x new.slots old.slots = went f x old new key (sym is) updates in
      subst (λ (l : List Under). FinishesTending vouched w w l (f x ∷ links_of f new.slots)) (sym at.with_it) (finishes_moved vouched w (f x) at.front at.back [] (links_of f new.slots) (sym at.without))

  -- one that was taken out may be finished
  pub open_taken : (told : Option ListenerLog) (x : T) (old new : Slab T) (key : ℕ) → Some x ≡ get old key → Updates old new key None → HasOpen told (length (links_of f old.slots)) → HasOpenLink told
  open_taken told x old new key is updates all =
      let at : Between f x new.slots old.slots = went f x old new key (sym is) updates in
      let one_more : length (links_of f old.slots) ≡ length (links_of f new.slots) + 1 = omega (arith, ap length at.with_it, ap length at.without, length-append at.front (f x ∷ at.back), length-append at.front at.back) in
      open_link told (length (links_of f new.slots)) (subst (λ (n : ℕ). HasOpen told n) one_more all)

  -- ---- put into it

  pub goes_put : (w : SeatView) (x : T) (old new : Slab T) (key : ℕ) → get old key ≡ None → Updates old new key (Some x) → Goes w w (f x ∷ links_of f old.slots) (links_of f new.slots) []
  goes_put w x old new key none updates =
      let at : Between f x old.slots new.slots = came f x old new key none updates in
      subst (λ (l : List Under). Goes w w (f x ∷ links_of f old.slots) l []) (sym at.with_it) (goes_moved w (f x) [] (links_of f old.slots) at.front at.back at.without)

  pub keeps_put : (tells : Type 0) (vouched : Ask → List (List ℕ) → JwtToken → Type 0) (w : SeatView) (x : T) (old new : Slab T) (key : ℕ) → get old key ≡ None → Updates old new key (Some x) → KeepsTending tells vouched w w (f x ∷ links_of f old.slots) (links_of f new.slots) step.On
  keeps_put tells vouched w x old new key none updates =
      let at : Between f x old.slots new.slots = came f x old new key none updates in
      subst (λ (l : List Under). KeepsTending tells vouched w w (f x ∷ links_of f old.slots) l step.On) (sym at.with_it) (keeps_moved tells vouched w (f x) [] (links_of f old.slots) at.front at.back at.without)

  -- a link came, and stands somewhere
  pub goes_placed : (w : SeatView) (x : T) (slots : List (Option T)) (old new : Slab T) (key : ℕ) → old.slots ≡ slots → get old key ≡ None → Updates old new key (Some x) → Goes w w (links_of f slots ++ f x ∷ []) (links_of f new.slots) []
  goes_placed w x slots old new key kept none updates =
      let at : Between f x old.slots new.slots = came f x old new key none updates in
      let moved = goes_moved w (f x) (links_of f old.slots) [] at.front at.back (append-nil (links_of f old.slots) ∙ at.without) in
      subst (λ (s : List (Option T)). Goes w w (links_of f s ++ f x ∷ []) (links_of f new.slots) []) kept (subst (λ (l : List Under). Goes w w (links_of f old.slots ++ f x ∷ []) l []) (sym at.with_it) moved)

  pub keeps_placed : (tells : Type 0) (vouched : Ask → List (List ℕ) → JwtToken → Type 0) (w : SeatView) (x : T) (slots : List (Option T)) (old new : Slab T) (key : ℕ) → old.slots ≡ slots → get old key ≡ None → Updates old new key (Some x) → KeepsTending tells vouched w w (links_of f slots ++ f x ∷ []) (links_of f new.slots) step.On
  keeps_placed tells vouched w x slots old new key kept none updates =
      let at : Between f x old.slots new.slots = came f x old new key none updates in
      let moved = keeps_moved tells vouched w (f x) (links_of f old.slots) [] at.front at.back (append-nil (links_of f old.slots) ∙ at.without) in
      subst (λ (s : List (Option T)). KeepsTending tells vouched w w (links_of f s ++ f x ∷ []) (links_of f new.slots) step.On) kept (subst (λ (l : List Under). KeepsTending tells vouched w w (links_of f old.slots ++ f x ∷ []) l step.On) (sym at.with_it) moved)

  -- ---- no link was there

  pub goes_absent : (w : SeatView) (old new : Slab T) → new ≡ old → Goes w w (links_of f old.slots) (links_of f new.slots) []
  goes_absent w old new same = subst (λ (s : Slab T). Goes w w (links_of f old.slots) (links_of f s.slots) []) (sym same) (goes_still w (links_of f old.slots))

  pub keeps_absent : (tells : Type 0) (vouched : Ask → List (List ℕ) → JwtToken → Type 0) (w : SeatView) (old new : Slab T) → new ≡ old → KeepsTending tells vouched w w (links_of f old.slots) (links_of f new.slots) step.On
  keeps_absent tells vouched w old new same = subst (λ (s : Slab T). KeepsTending tells vouched w w (links_of f old.slots) (links_of f s.slots) step.On) (sym same) (keeps_still tells vouched w (links_of f old.slots))

  pub finishes_absent : (vouched : Ask → List (List ℕ) → JwtToken → Type 0) (w : SeatView) (old new : Slab T) → new ≡ old → FinishesTending vouched w w (links_of f old.slots) (links_of f new.slots)
  finishes_absent vouched w old new same = subst (λ (s : Slab T). FinishesTending vouched w w (links_of f old.slots) (links_of f s.slots)) (sym same) (finishes_still vouched w (links_of f old.slots))

  -- ---- none is left

  pub none_counted : (links : Slab T) (b : Bool) → b ≡ (slab_len links == 0) → b ≡ true → links_of f links.slots ≡ []
  none_counted links b is empty =
      let none : slab_len links ≡ 0 = grind (arith, nat_tests, is, empty) in
      nil_from_length (links_of f links.slots) (count_links f links.slots ∙ none)
