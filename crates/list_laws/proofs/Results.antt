-- Laws on steps that may fail.
use Rattle.std.proofs.Common.{◌≡◌, Bool, true, false, cond, Result, Ok, Err, refl, sym, ap, true≢false}
use Rattle.std.specs.Result.{is_ok}
use Rattle.list_laws.specs.Results.{◌>>=◌}

abbrev pub value_or : {A E : Type 0} → A → Result A E → A
value_or other (Ok x) = x
value_or other (Err fault) = other

abbrev pub fault_or : {A E : Type 0} → E → Result A E → E
fault_or other (Ok x) = other
fault_or other (Err fault) = fault

-- ---- Ok and Err are two answers, and each has one value

pub ok_is : {A E : Type 0} {x y : A} → ◌≡◌ {A = Result A E} (Ok x) (Ok y) → x ≡ y
ok_is {A} {E} {x} {y} e = ap (value_or x) e

pub err_is : {A E : Type 0} {x y : E} → ◌≡◌ {A = Result A E} (Err x) (Err y) → x ≡ y
err_is {A} {E} {x} {y} e = ap (fault_or x) e

pub err_is_no_ok : {A E : Type 0} {P : Type 0} {x : E} {y : A} → ◌≡◌ {A = Result A E} (Err x) (Ok y) → P
err_is_no_ok e = absurd (true≢false (sym (ap is_ok e)))

pub ok_is_no_err : {A E : Type 0} {P : Type 0} {x : A} {y : E} → ◌≡◌ {A = Result A E} (Ok x) (Err y) → P
ok_is_no_err e = absurd (true≢false (ap is_ok e))

-- the parts of a pair that was answered
pub ok_first : {A B E : Type 0} {x z : A} {y w : B} → ◌≡◌ {A = Result (A × B) E} (Ok (x, y)) (Ok (z, w)) → x ≡ z
ok_first {A} {B} {E} {x} {z} {y} {w} e = ap (λ (p : A × B). p.0) (ok_is e)

pub ok_second : {A B E : Type 0} {x z : A} {y w : B} → ◌≡◌ {A = Result (A × B) E} (Ok (x, y)) (Ok (z, w)) → y ≡ w
ok_second {A} {B} {E} {x} {z} {y} {w} e = ap (λ (p : A × B). p.1) (ok_is e)

-- ---- a step and the next one

-- where both steps went well, so did the first
pub bind_ok : {A B E : Type 0} (r : Result A E) (f : A → Result B E) (y : B) → (r >>= f) ≡ Ok y → (x : A) × (r ≡ Ok x) × (f x ≡ Ok y)
bind_ok (Ok x) f y e = (x, refl, e)
bind_ok (Err fault) f y e = err_is_no_ok e

-- the same, for a goal that goes on from the first step
pub bind_then : {A B E : Type 0} {P : Type 0} (r : Result A E) (f : A → Result B E) (y : B) → (r >>= f) ≡ Ok y → ((x : A) → r ≡ Ok x → f x ≡ Ok y → P) → P
bind_then (Ok x) f y e go = go x refl e
bind_then (Err fault) f y e go = err_is_no_ok e

-- ---- a test before a step

-- a test that is a fault
pub guard_ok : {A E : Type 0} (b : Bool) (fault : E) (x y : A) → cond b (Err fault) (Ok x) ≡ Ok y → (b ≡ false) × (x ≡ y)
guard_ok true fault x y e = err_is_no_ok e
guard_ok false fault x y e = (refl, ok_is e)

-- a test that has to hold
pub needs_ok : {A E : Type 0} (b : Bool) (fault : E) (x y : A) → cond b (Ok x) (Err fault) ≡ Ok y → (b ≡ true) × (x ≡ y)
needs_ok true fault x y e = (refl, ok_is e)
needs_ok false fault x y e = err_is_no_ok e

-- the same before any step, for a goal that goes on from there
pub unless_ok : {A E : Type 0} {P : Type 0} (b : Bool) (fault : E) (r : Result A E) (y : A) → cond b (Err fault) r ≡ Ok y → (b ≡ false → r ≡ Ok y → P) → P
unless_ok true fault r y e go = err_is_no_ok e
unless_ok false fault r y e go = go refl e

pub when_ok : {A E : Type 0} {P : Type 0} (b : Bool) (fault : E) (r : Result A E) (y : A) → cond b r (Err fault) ≡ Ok y → (b ≡ true → r ≡ Ok y → P) → P
when_ok true fault r y e go = go refl e
when_ok false fault r y e go = err_is_no_ok e
