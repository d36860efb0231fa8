-- Events that are read one by one.
use Rattle.std.specs.Prelude.{◌≡◌, ℕ, ◌<◌, ◌≤◌, List, [], ◌∷◌, ◌++◌, map, length, Result, Ok, Err}
use Rattle.std.proofs.Common.{refl, sym, ◌∙◌, ap, subst, arith, get_or}
use Rattle.std.proofs.lemmas.List.{append-nil, append_assoc}
use Rattle.list_laws.specs.Results.{◌>>=◌}
use Rattle.wl_core.specs.declared.events.Event.{Event}
use Rattle.wl_replay.specs.Checks.{Faults}
use Rattle.wl_replay.specs.Words.{Numbered}
use Rattle.wl_replay.specs.Events.{event_of}
use Rattle.wl_replay.specs.Scripts.{events_of}
use Rattle.wl_replay.specs.declared.fault.ScriptFault.{ScriptFault}
use Rattle.wl_replay.specs.declared.fault.ScriptFault.TheVariants.{Line, Kind, Conn, Hex, TooLong, Memory}

-- a fault of the first step is a fault of the whole
pub faults_first : {X Y : Type 0} (e : ScriptFault) (r : Result X ScriptFault) (f : X → Result Y ScriptFault) → Faults e r → Faults e (r >>= f)
faults_first Memory r f h = tt
faults_first (Line n) r f h = ap (λ r. r >>= f) h
faults_first (Kind n) r f h = ap (λ r. r >>= f) h
faults_first (Conn n) r f h = ap (λ r. r >>= f) h
faults_first (Hex n) r f h = ap (λ r. r >>= f) h
faults_first (TooLong n) r f h = ap (λ r. r >>= f) h

-- a fault of the second step, after a first one that went well
pub faults_second : {X Y Z : Type 0} (e : ScriptFault) (r : Result X ScriptFault) (x : X) (s : Result Y ScriptFault) (f : X → Y → Result Z ScriptFault) → r ≡ Ok x → Faults e s → Faults e (r >>= λ x. s >>= f x)
faults_second e r x s f ok h = subst (λ r. Faults e (r >>= λ x. s >>= f x)) (sym ok) (faults_first e s (f x) h)

-- six words, one by one
pub six_words : {X : Type 0} (f : X → List ℕ) (ws : List X) (d : X) → 6 ≤ length ws → length ws < 7 → map f ws ≡ f (get_or ws 0 d) ∷ f (get_or ws 1 d) ∷ f (get_or ws 2 d) ∷ f (get_or ws 3 d) ∷ f (get_or ws 4 d) ∷ f (get_or ws 5 d) ∷ []
six_words f [] d some few = absurd (omega (arith, some))
six_words f (a ∷ []) d some few = absurd (omega (arith, some))
six_words f (a ∷ b ∷ []) d some few = absurd (omega (arith, some))
six_words f (a ∷ b ∷ c ∷ []) d some few = absurd (omega (arith, some))
six_words f (a ∷ b ∷ c ∷ g ∷ []) d some few = absurd (omega (arith, some))
six_words f (a ∷ b ∷ c ∷ g ∷ h ∷ []) d some few = absurd (omega (arith, some))
six_words f (a ∷ b ∷ c ∷ g ∷ h ∷ k ∷ []) d some few = refl
six_words f (a ∷ b ∷ c ∷ g ∷ h ∷ k ∷ l ∷ ws) d some few = absurd (omega (arith, few))

-- the events so far before those that are left
abbrev pub with_front : List Event → Result (List Event) ScriptFault → Result (List Event) ScriptFault
with_front front r = r >>= λ events. Ok (front ++ events)

joined : (front : List Event) (e : Event) (r : Result (List Event) ScriptFault) → with_front front (r >>= λ events. Ok (e ∷ events)) ≡ with_front (front ++ e ∷ []) r
joined front e (Ok events) = ap Ok (sym (append_assoc front (e ∷ []) events))
joined front e (Err fault) = refl

module _ (whole : Result (List Event) ScriptFault) (front : List Event) (lines : List Numbered) where
  -- the events so far, and those of the lines that are left, are all
  abbrev pub Reached : Type 0
  Reached = whole ≡ with_front front (events_of lines)

  pub event_more : (l : Numbered) (ls : List Numbered) (e : Event) → Reached → lines ≡ l ∷ ls → event_of l ≡ Ok e → whole ≡ with_front (front ++ e ∷ []) (events_of ls)
  unfolding events_of
  event_more l ls e is more ok = is ∙ ap (λ ls. with_front front (events_of ls)) more ∙ ap (λ r. with_front front (r >>= λ e. events_of ls >>= λ es. Ok (e ∷ es))) ok ∙ joined front e (events_of ls)

  pub event_faults : (l : Numbered) (ls : List Numbered) (e : ScriptFault) → Reached → lines ≡ l ∷ ls → Faults e (event_of l) → Faults e whole
  unfolding events_of
  event_faults l ls e is more fault =
      subst (Faults e) (sym (is ∙ ap (λ ls. with_front front (events_of ls)) more))
      (faults_first e (event_of l >>= λ x. events_of ls >>= λ xs. Ok (x ∷ xs)) (λ events. Ok (front ++ events)) (faults_first e (event_of l) (λ x. events_of ls >>= λ xs. Ok (x ∷ xs)) fault))

  pub events_end : Reached → lines ≡ [] → whole ≡ Ok front
  unfolding events_of
  events_end is none = is ∙ ap (λ ls. with_front front (events_of ls)) none ∙ ap Ok (append-nil front)
