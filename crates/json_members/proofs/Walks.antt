-- Reading the items of an array in turn: read, add, n and s are the reader, how its answer is added, the index and what is kept.
use Rattle.std.proofs.Common.{◌≡◌, ℕ, ◌+◌, ◌<◌, ◌≤◌, List, map, drop, length, Result, Ok, get_or, sym, ◌∙◌, ap, subst, add-one}
use Rattle.std.proofs.Math.Seq.{drop-cons}
use Rattle.std.proofs.lemmas.List.{drop_all}
use Rattle.serde_json.specs.Data.{Data}
use Rattle.serde_json.specs.View.{view}
use Rattle.serde_json.specs.declared.value.Value.{Value}
use Rattle.list_laws.specs.Results.{◌>>=◌}
use Rattle.json_members.specs.Arrays.{each_from}

module _ {F S X : Type 0} (read : ℕ → S → Data → Result X F) (add : S → X → S) (vs : List Value) (n i : ℕ) (d : Value) (done : S) where
  here : i < length vs → each_from read add n done (map view (drop i vs)) ≡ (read n done (view (get_or vs i d)) >>= λ x. each_from read add (n + 1) (add done x) (map view (drop (i + 1) vs)))
  unfolding each_from
  here within = ap (λ (l : List Value). each_from read add n done (map view l)) (drop-cons vs i d within) ∙ ap (λ (m : ℕ). read n done (view (get_or vs i d)) >>= λ x. each_from read add (n + 1) (add done x) (map view (drop m vs))) (sym (add-one i))

  pub each_more : (x : X) → i < length vs → read n done (view (get_or vs i d)) ≡ Ok x → each_from read add n done (map view (drop i vs)) ≡ each_from read add (n + 1) (add done x) (map view (drop (i + 1) vs))
  each_more x within ok = here within ∙ ap (λ r. r >>= λ x. each_from read add (n + 1) (add done x) (map view (drop (i + 1) vs))) ok

  -- A fault of an item is one of the whole: One says that a fault is an item's, All that it is the whole's.
  pub each_stops : (One : Result X F → Type 0) (All : Result S F → Type 0) → ((r : Result X F) (f : X → Result S F) → One r → All (r >>= f)) → (whole : Result S F) → i < length vs → each_from read add n done (map view (drop i vs)) ≡ whole → One (read n done (view (get_or vs i d))) → All whole
  each_stops One All first whole within is fault = subst All (sym (here within) ∙ is) (first (read n done (view (get_or vs i d))) (λ x. each_from read add (n + 1) (add done x) (map view (drop (i + 1) vs))) fault)

pub each_end : {F S X : Type 0} (read : ℕ → S → Data → Result X F) (add : S → X → S) (vs : List Value) (n i : ℕ) (done : S) → length vs ≤ i → each_from read add n done (map view (drop i vs)) ≡ Ok done
unfolding each_from
each_end read add vs n i done past = ap (λ (l : List Value). each_from read add n done (map view l)) (drop_all i vs past)

-- How far a loop has come: it has read the items before i, and what is left makes the same of what is kept as all items make of none.
pub record Reached {F S X : Type 0} (read : ℕ → S → Data → Result X F) (add : S → X → S) (none : S) (vs : List Value) (index i : ℕ) (done : S) : Type 0 where
  pub counted : index ≡ i
  pub so_far : each_from read add index done (map view (drop i vs)) ≡ each_from read add 0 none (map view vs)
