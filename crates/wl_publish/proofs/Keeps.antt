-- Each step keeps the History rule.
use Rattle.std.proofs.Common.{◌≡◌, ◌≢◌, ⊎_elim, ℕ, ◌+◌, List, [], ◌∷◌, ◌++◌, set, refl, ap, sym, ◌∙◌, subst, arith, append_assoc, fold}
use mathlib.Core.Option.{some}
use lib.ListN.{get_elem?}
use Rattle.atomic_table.proofs.Lists.{at_set, at_snoc}
use Rattle.left_right.specs.Register.{Admits, Turns, TurnsAt, Forks, Merges}
use Rattle.logbook.specs.Pages.{Book}
use Rattle.list_laws.proofs.Elements.{all_append}
use Rattle.wl_entry.specs.declared.asks.Ask.{Ask}
use Rattle.wl_entry.specs.declared.signing.Signed.{Signed}
use Rattle.wl_snapshot.specs.Snapshots.{Publication}
use Rattle.wl_publish.specs.declared.rule.Knowledge.{Knowledge}
use Rattle.wl_publish.specs.Lists.{IsLast, IsVouched}
use Rattle.wl_publish.specs.Books.{Legal}
use Rattle.wl_publish.specs.Listings.{Listing}
use Rattle.wl_publish.specs.declared.rule.Current.{Current}
use Rattle.wl_publish.specs.History.{Fits, Kept, HasRead, knowing, newcomer}
use Rattle.wl_publish.proofs.Prefixes.{prefix_self}
use Rattle.wl_publish.proofs.Numbers.{last_number, numbered_more, mine_more}

fits_newcomer : (book : Book) (list : List Publication) → Fits book list newcomer
fits_newcomer book list = record { store = λ known. absurd (cc known); seen = (list, refl); mine = (tt, tt) }

fits_knowing : (book : Book) (list : List Publication) → Fits book list (knowing book list [])
fits_knowing book list = record { store = λ known. refl; seen = prefix_self list; mine = (tt, tt) }

abbrev AllFit : Book → List Publication → List Knowledge → Type 0
AllFit book list places = (place : ℕ) (k : Knowledge) → get_elem? places place ≡ some k → Fits book list k

fits_set : (book : Book) (list : List Publication) (places : List Knowledge) (place : ℕ) (w : Knowledge) → AllFit book list places → Fits book list w → AllFit book list (set places place w)
fits_set book list places place w all fit j k at =
    ⊎_elim (λ (here : (j ≡ place) × (w ≡ k)). subst (λ (u : Knowledge). Fits book list u) here.1 fit) (λ (there : (j ≢ place) × (get_elem? places j ≡ some k)). all j k there.1) (at_set places place j w k at)

fits_snoc : (book : Book) (list : List Publication) (places : List Knowledge) (w : Knowledge) → AllFit book list places → Fits book list w → AllFit book list (places ++ w ∷ [])
fits_snoc book list places w all fit j k at =
    ⊎_elim (λ (there : get_elem? places j ≡ some k). all j k there) (λ (here : w ≡ k). subst (λ (u : Knowledge). Fits book list u) here fit) (at_snoc places w k j at)

-- what fits a list fits a longer one
fits_longer : (book : Book) (list : List Publication) (p : Publication) (k : Knowledge) → Fits book list k → Fits book (list ++ p ∷ []) k
fits_longer book list p k fit = record {
  store = fit.store;
  seen = (fit.seen.0 ++ p ∷ [], sym (append_assoc k.seen fit.seen.0 (p ∷ [])) ∙ ap (λ (l : List Publication). l ++ p ∷ []) fit.seen.1);
  mine = fit.mine;
}

module _ (valid : Ask → Signed → Type 0) where
  -- one publication more, with the next number
  pub next_legal : (list : List Publication) (p q : Publication) → Legal valid list → IsLast list q → p.number ≡ q.number + 1 → IsVouched valid p → Legal valid (list ++ p ∷ [])
  next_legal list p q legal last next vouched = record {
    numbered = (legal.numbered.0, numbered_more legal.numbered.0 list p legal.numbered.1 (omega (arith, next, last_number legal.numbered.0 list q legal.numbered.1 last)));
    vouched = all_append (IsVouched valid) list (p ∷ []) legal.vouched (vouched, tt);
  }

  -- the list of one
  pub first_legal : (p : Publication) → IsVouched valid p → Legal valid (p ∷ [])
  first_legal p vouched = record { numbered = (p.number, (refl, tt)); vouched = (vouched, tt) }

  -- a list of one, of which one place knows nothing
  pub begins : (book : Book) (list : List Publication) (p : Publication) → list ≡ p ∷ [] → Legal valid list → Kept valid book list p (newcomer ∷ [])
  begins book list p is legal = record {
    last = ([], is);
    numbered = legal.numbered;
    vouched = legal.vouched;
    fits = fits_snoc book list [] newcomer (λ j k at. absurd (cc at)) (fits_newcomer book list);
  }

module _ {T : Type 0} (valid : Ask → Signed → Type 0) (book : T → Book) (list : T → List Publication) (now : T → Publication) where
  abbrev Holds : T → List Knowledge → Type 0
  Holds x places = Kept valid (book x) (list x) (now x) places

  pub admits : Admits Holds newcomer
  admits x places kept = record {
    last = kept.last;
    numbered = kept.numbered;
    vouched = kept.vouched;
    fits = fits_snoc (book x) (list x) places newcomer kept.fits (fits_newcomer (book x) (list x));
  }

  -- the same list with another of its places
  sets : (x : T) (places : List Knowledge) (place : ℕ) (w : Knowledge) → Holds x places → Fits (book x) (list x) w → Holds x (set places place w)
  sets x places place w kept fit = record {
    last = kept.last;
    numbered = kept.numbered;
    vouched = kept.vouched;
    fits = fits_set (book x) (list x) places place w kept.fits fit;
  }

  -- a publication is added
  pub grows : (v : Knowledge) (x y : T) (place : ℕ) → book y ≡ book x → list y ≡ list x ++ now y ∷ [] → Legal valid (list y) → TurnsAt Holds place v x y (λ v x y w. w ≡ v)
  grows v x y place same more legal places kept at =
      let longer : AllFit (book y) (list y) places = λ j k there. rw (same, more) (fits_longer (book x) (list x) (now y) k (kept.fits j k there)) in (
        v,
        record {
          last = (list x, more);
          numbered = legal.numbered;
          vouched = legal.vouched;
          fits = fits_set (book y) (list y) places place v longer (longer place v at);
        },
        refl,
      )

  -- the writer's place comes to know the list
  pub learns_all : (v : Knowledge) (x y : T) (place : ℕ) → book y ≡ book x → list y ≡ list x → now y ≡ now x → TurnsAt Holds place v x y (λ v x y w. w ≡ knowing (book y) (list y) [])
  learns_all v x y place same_book same_list same_now places kept at =
      let kept' : Holds y places = rw (same_book, same_list, same_now) kept in (
        knowing (book y) (list y) [],
        sets y places place (knowing (book y) (list y) []) kept' (fits_knowing (book y) (list y)),
        refl,
      )

  -- what is shown is read
  pub reads : (v : Knowledge) (place : ℕ) → Turns Holds place v (λ x. x) (λ v x y w. HasRead valid (book x) (list x) v (now x) w)
  reads v place x places kept at =
      let fit = kept.fits place v at in
      let mine = mine_more kept.numbered.0 v.seen (list x) v.mine (now x) kept.numbered.1 kept.last fit.seen fit.mine in
      let w : Knowledge = knowing (book x) (list x) (v.mine ++ (now x).number ∷ []) in (
        w,
        sets x places place w kept (record { store = λ known. refl; seen = prefix_self (list x); mine = mine }),
        record {
          known = fit.store;
          now_known = refl;
          store = refl;
          all = refl;
          last = kept.last;
          seen = fit.seen;
          mine = refl;
          mine_is = mine;
          numbered = kept.numbered;
          vouched = kept.vouched;
        },
      )

  -- a copy of what the writer knows is cut off
  pub tells : (v : Knowledge) (place : ℕ) → Forks Holds place v v v
  tells v place x places kept at =
      let fit = kept.fits place v at in
      let set_kept = sets x places place v kept fit in
      record {
        last = kept.last;
        numbered = kept.numbered;
        vouched = kept.vouched;
        fits = fits_snoc (book x) (list x) (set places place v) v set_kept.fits fit;
      }

  -- a new reader takes in what it is given
  pub starts : (v w : Knowledge) (place other : ℕ) → Merges Holds place v other w w newcomer
  starts v w place other x places kept at apart there =
      let told : Fits (book x) (list x) w = ⊎_elim (λ (here : (other ≡ place) × (w ≡ w)). absurd (apart here.0)) (λ (far : (other ≢ place) × (get_elem? places other ≡ some w)). kept.fits other w far.1) (at_set places place other w w there) in
      sets x (set places place w) other newcomer (sets x places place w kept told) (fits_newcomer (book x) (list x))

-- what is shown after one operation is what it says
pub shown_is : (old : Publication × Listing) (ops : List Current) (next op : Current) → ops ≡ op ∷ [] → ◌≡◌ {A = Publication × Listing} (next.published_snapshot, next.prefix) (fold (λ (s : Publication × Listing) (n : Current). (n.published_snapshot, n.prefix)) old ops) → (next.published_snapshot ≡ op.published_snapshot) × (next.prefix ≡ op.prefix)
shown_is old ops next op one is =
    let e : ◌≡◌ {A = Publication × Listing} (next.published_snapshot, next.prefix) (op.published_snapshot, op.prefix) = subst (λ (l : List Current). ◌≡◌ {A = Publication × Listing} (next.published_snapshot, next.prefix) (fold (λ (s : Publication × Listing) (n : Current). (n.published_snapshot, n.prefix)) old l)) one is in
    (ap (λ p. p.0) e, ap (λ p. p.1) e)
