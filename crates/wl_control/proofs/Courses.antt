-- Parts of an answer, one after another.
use Rattle.std.proofs.Common.{◌≡◌, ℕ, true, false, is_some, length, arith, List, [], ◌∷◌, ◌++◌, Option, Some, None, Result, Ok, Err, refl, sym, ap, subst, ◌∙◌, append_assoc}
use Rattle.std.proofs.lemmas.List.{append-nil}
use Rattle.wl_client.specs.declared.reply.Heard.{Heard}
use Rattle.wl_control.specs.declared.asked.Asked.{Asked}
use Rattle.wl_control.specs.declared.asked.Verdict.{Verdict}
use Rattle.wl_control.specs.Courses.{Course, then_course, part_course, course}
use Rattle.wl_control.specs.Takings.{Runs}

-- What came of the parts before the rest: with the lines so far, the course of the rest is that of all.
pub record RunsSo (whole rest : List Heard) (first a : Asked) (was now : List ℕ) : Type 0 where
  pub lines : was ++ (course whole first).lines ≡ now ++ (course rest a).lines
  pub after : (course whole first).after ≡ (course rest a).after

pub runs_none : (whole : List Heard) (a : Asked) (was : List ℕ) → RunsSo whole whole a a was was
runs_none whole a was = record { lines = refl; after = refl }

course_first : (h : Heard) (hs : List Heard) (a : Asked) → course (h ∷ hs) a ≡ then_course (part_course h a).lines (part_course h a).after (course hs)
unfolding course
course_first h hs a = refl

goes_on : (c : Course) (go : Asked → Course) (b : Asked) → c.after ≡ Ok b → then_course c.lines c.after go ≡ record { lines = c.lines ++ (go b).lines; after = (go b).after }
goes_on c go b is = rw is refl

stops_at : (lines : List ℕ) (after : Result Asked Verdict) (go : Asked → Course) (v : Verdict) → after ≡ Err v → then_course lines after go ≡ record { lines = lines; after = after }
stops_at lines (Ok a) go v is = absurd (cc is)
stops_at lines (Err w) go v is = refl

-- a part that decides nothing
pub runs_more : (whole : List Heard) (h : Heard) (rest : List Heard) (first a b : Asked) (was mid now : List ℕ) → RunsSo whole (h ∷ rest) first a was mid → Runs (part_course h a) None mid now b
    → RunsSo whole rest first b was now
runs_more whole h rest first a b was mid now so ran =
    let here = course_first h rest a ∙ goes_on (part_course h a) (course rest) b ran.1 in
    record {
      lines = so.lines ∙ (ap (λ c. mid ++ c.lines) here ∙ (sym (append_assoc mid (part_course h a).lines (course rest b).lines) ∙ ap (λ xs. xs ++ (course rest b).lines) (sym ran.0)));
      after = so.after ∙ ap (λ c. c.after) here;
    }

-- the part that decides
pub runs_verdict : (whole : List Heard) (h : Heard) (rest : List Heard) (first a b : Asked) (v : Verdict) (was mid now : List ℕ) → RunsSo whole (h ∷ rest) first a was mid → Runs (part_course h a) (Some v) mid now b
    → Runs (course whole first) (Some v) was now b
runs_verdict whole h rest first a b v was mid now so ran =
    let here = course_first h rest a ∙ stops_at (part_course h a).lines (part_course h a).after (course rest) v ran.1 in
    (ran.0 ∙ sym (so.lines ∙ ap (λ c. mid ++ c.lines) here), so.after ∙ (ap (λ c. c.after) here ∙ ran.1))

course_none : (a : Asked) → course [] a ≡ record { lines = []; after = Ok a }
unfolding course
course_none a = refl

-- no part decided
pub runs_end : (whole : List Heard) (first a : Asked) (was now : List ℕ) → RunsSo whole [] first a was now → Runs (course whole first) None was now a
runs_end whole first a was now so =
    (sym (so.lines ∙ (ap (λ c. now ++ c.lines) (course_none a) ∙ append-nil now)), so.after ∙ ap (λ c. c.after) (course_none a))

-- ---- parts, and then more

on_from : (l : List ℕ) (r : Result Asked Verdict) (hs ys : List Heard) (b : Asked)
    → ((c : Asked) → (course hs c).after ≡ Ok b → course (hs ++ ys) c ≡ record { lines = (course hs c).lines ++ (course ys b).lines; after = (course ys b).after })
    → (then_course l r (course hs)).after ≡ Ok b
    → then_course l r (course (hs ++ ys)) ≡ record { lines = (then_course l r (course hs)).lines ++ (course ys b).lines; after = (course ys b).after }
on_from l (Err v) hs ys b ih is = absurd (cc is)
on_from l (Ok c) hs ys b ih is = rw (ih c is, append_assoc l (course hs c).lines (course ys b).lines) refl

-- parts that decide nothing, and more of them
pub course_on : (xs ys : List Heard) (a b : Asked) → (course xs a).after ≡ Ok b → course (xs ++ ys) a ≡ record { lines = (course xs a).lines ++ (course ys b).lines; after = (course ys b).after }
course_on [] ys a b is =
    let none = course_none a in
    let same : a ≡ b = cc (is, ap (λ c. c.after) none) in
    rw (none, same) refl
course_on (h ∷ xs) ys a b is =
    rw (course_first h (xs ++ ys) a, course_first h xs a)
    (on_from (part_course h a).lines (part_course h a).after xs ys b (λ c here. course_on xs ys c b here) (rw (course_first h xs a) at is))

-- ---- a loop over the parts

pub runs_go : (whole rest : List Heard) (h : Heard) (behind : List Heard) (first a b : Asked) (was mid now : List ℕ) (verdict : Option Verdict) → rest ≡ h ∷ behind → is_some verdict ≡ false → RunsSo whole rest first a was mid
    → Runs (part_course h a) verdict mid now b → RunsSo whole behind first b was now
runs_go whole rest h behind first a b was mid now None front none so ran = runs_more whole h behind first a b was mid now (subst (λ (hs : List Heard). RunsSo whole hs first a was mid) front so) ran
runs_go whole rest h behind first a b was mid now (Some v) front none so ran = absurd (cc none)

pub runs_stop : (whole rest : List Heard) (h : Heard) (behind : List Heard) (first a b : Asked) (was mid now : List ℕ) (verdict : Option Verdict) → rest ≡ h ∷ behind → is_some verdict ≡ true → RunsSo whole rest first a was mid
    → Runs (part_course h a) verdict mid now b → Runs (course whole first) verdict was now b
runs_stop whole rest h behind first a b was mid now None front some so ran = absurd (cc some)
runs_stop whole rest h behind first a b was mid now (Some v) front some so ran = runs_verdict whole h behind first a b v was mid now (subst (λ (hs : List Heard). RunsSo whole hs first a was mid) front so) ran

pub runs_over : (whole rest : List Heard) (first a : Asked) (was now : List ℕ) → length rest ≡ 0 → RunsSo whole rest first a was now → Runs (course whole first) None was now a
runs_over whole [] first a was now none so = runs_end whole first a was now so
runs_over whole (h ∷ rest) first a was now none so = absurd (omega arith)
