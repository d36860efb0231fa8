-- A command that takes as many operands as there are, and wants at least one and at most so many.
use Rattle.std.proofs.Common.{◌≡◌, ◌∙◌, ℕ, ◌==◌, Bool, true, false, refl, sym, ap, ap₂, subst, arith, List, [], ◌∷◌, ◌++◌, length, Some, None, suc}
use Rattle.std.specs.Prelude.{nat_le, ◌&&◌, if◌then◌else◌}
use Rattle.std.proofs.lemmas.List.{append-nil, append_assoc}
use Rattle.std.proofs.Math.Dec.{eqb-suc-zero}
use Rattle.std.proofs.lemmas.Bool.{leb-true, leb-false, le-leb, le-ltb, lt-ltb}
use Rattle.clap.specs.declared.builder.value_parser.ValueParser.TheVariants as vp
use Rattle.clap.specs.declared.error.kind.ErrorKind.TheVariants.{TooManyValues}
use Rattle.clap.specs.Kinds.{Kinds, or_else, values_kinds, range_kinds}
use Rattle.clap.specs.Walk.{Row, Text, Walk, idle, positional, finished, nothing_held, walked}
use Rattle.clap.specs.Simple.{Shape}
use Rattle.clap.specs.Faults.{turn_fault, walk_fault}
use Rattle.clap_words.proofs.Past.{Faulty, at, walked_all}
use Rattle.clap_words.proofs.Levels.{Takes, behind, level_of, rows_behind}

-- the walk with these operands pending
abbrev pub pending : Text → List Text → Walk
pending id ops = at true (record { rows = []; pending = Some (id, ops); skip = 0 }) positional 1

-- the argument `id` of the command takes the first operand and each one after it
pub record TakesEach (s : Shape) (id : Text) (most : ℕ) : Type 0 where
  pub first : (a : Text) → (turn_fault s [] (at true nothing_held idle 1) a ≡ []) × (walked s.rules [] (at true nothing_held idle 1) a ≡ pending id (a ∷ []))
  pub more : (a : Text) (done : List Text) → (turn_fault s [] (pending id done) a ≡ []) × (walked s.rules [] (pending id done) a ≡ pending id (done ++ a ∷ []))
  pub ends : (a : Text) (ops : List Text)
      → level_of s [] (pending id (a ∷ ops)).held ≡ or_else (or_else (range_kinds 1 most (suc (length ops))) (or_else [] (values_kinds false vp.String (a ∷ ops)))) []
  pub many : (1 == most) ≡ false

no_value_fault : (ops : List Text) → values_kinds false vp.String ops ≡ []
no_value_fault [] = refl
no_value_fault (a ∷ ops) = no_value_fault ops

abbrev too_many : Kinds
too_many = TooManyValues ∷ []

range_is : (most n : ℕ) → (1 == most) ≡ false → (t : Bool) → nat_le (suc n) most ≡ t → range_kinds 1 most (suc n) ≡ (if t then [] else too_many)
range_is most n many true e = rw (eqb-suc-zero n, many, le-ltb (suc n) 1 (omega arith), le-ltb most (suc n) (leb-true (suc n) most e)) refl
range_is most n many false e = rw (eqb-suc-zero n, many, le-ltb (suc n) 1 (omega arith), lt-ltb most (suc n) (leb-false (suc n) most e)) refl

alone : (t : Bool) → or_else (or_else (if t then [] else too_many) (or_else [] [])) [] ≡ (if t then [] else too_many)
alone true = refl
alone false = refl

module _ (s : Shape) (id : Text) (most : ℕ) (each : TakesEach s id most) where
  more_operands : (ops done : List Text) → (walk_fault s [] (pending id done) ops ≡ []) × (walked_all s (pending id done) ops ≡ pending id (done ++ ops))
  unfolding walk_fault
  more_operands [] done = (refl, ap (pending id) (sym (append-nil done)))
  more_operands (a ∷ ops) done =
      let one = each.more a done in
      let rest = more_operands ops (done ++ a ∷ []) in (
        ap₂ or_else one.0 (ap (λ w. walk_fault s [] w ops) one.1 ∙ rest.0),
        ap (λ w. walked_all s w ops) one.1 ∙ (rest.1 ∙ ap (pending id) (append_assoc done (a ∷ []) ops)),
      )

  all_operands : (a : Text) (ops : List Text) → (walk_fault s [] (at true nothing_held idle 1) (a ∷ ops) ≡ []) × (walked_all s (at true nothing_held idle 1) (a ∷ ops) ≡ pending id (a ∷ ops))
  unfolding walk_fault
  all_operands a ops =
      let one = each.first a in
      let rest = more_operands ops (a ∷ []) in (
        ap₂ or_else one.0 (ap (λ w. walk_fault s [] w ops) one.1 ∙ rest.0),
        ap (λ w. walked_all s w ops) one.1 ∙ rest.1,
      )

  -- the walk's end, where there are so many
  many_fault : (a : Text) (ops : List Text) (t : Bool) → nat_le (suc (length ops)) most ≡ t → behind s (a ∷ ops) ≡ (if t then [] else too_many)
  many_fault a ops t e =
      let all = all_operands a ops in
      ap₂ (level_of s) all.0 (ap (λ (w : Walk). w.held) all.1)
      ∙ (each.ends a ops
      ∙ (ap₂ (λ (r v : Kinds). or_else (or_else r (or_else [] v)) []) (range_is most (length ops) each.many t e) (no_value_fault (a ∷ ops))
      ∙ alone t))

  many_rows : (a : Text) (ops : List Text) → rows_behind s (a ∷ ops) ≡ finished s.rules (pending id (a ∷ ops)).held
  many_rows a ops = ap (λ (w : Walk). finished s.rules w.held) (all_operands a ops).1

  pub takes_many : (R : List Text → List Row → Type 0) (a : Text) (ops : List Text) → R (a ∷ ops) (finished s.rules (pending id (a ∷ ops)).held)
      → Takes s R (a ∷ ops) (if nat_le 1 (length (a ∷ ops)) && nat_le (length (a ∷ ops)) most then Some (a ∷ ops) else None)
  takes_many R a ops finds = go (nat_le (suc (length ops)) most) refl
    where
      from_one : nat_le 1 (suc (length ops)) ≡ true
      from_one = le-leb 1 (suc (length ops)) (omega arith)

      go : (t : Bool) → nat_le (suc (length ops)) most ≡ t → Takes s R (a ∷ ops) (if nat_le 1 (length (a ∷ ops)) && nat_le (length (a ∷ ops)) most then Some (a ∷ ops) else None)
      go true e = rw (from_one, e) (many_fault a ops true e, subst (R (a ∷ ops)) (sym (many_rows a ops)) finds)
      go false e = rw (from_one, e) (subst Faulty (sym (many_fault a ops false e)) tt)
