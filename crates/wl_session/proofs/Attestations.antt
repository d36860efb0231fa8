-- Calls that become ready are attested one after the other.
use Rattle.std.proofs.Common.{◌≡◌, ℕ, zero, suc, Bool, true, false, List, [], ◌∷◌, ◌++◌, length, filter, take, drop, Option, Some, None, Ok, refl, sym, ap, ◌∙◌, append_assoc, is_some}
use Rattle.std.specs.Prelude.{IsSome}
use Rattle.std.specs.List.{position_or_len}
use Rattle.std.proofs.Common.{arith}
use Rattle.wl_session.proofs.Common.{End, Phase, Publication, CallKind, Stage, Unnamed, Ready, Asking, ServedCall, Turned, change_first, is_unnamed, name_on, name_first, Talking, Said, then_, silent, written, SessionState, Running, Fallen, name_said, unnamed_count, names_said}
use Rattle.wl_session.specs.Tokens.{change_in, first_unnamed}
use Rattle.wl_session.specs.Sessions.{OutOfMemory, unnamed_in, Names}
use Rattle.wl_session.specs.Steps.{names_told}
use Rattle.wl_session.proofs.ReadyCalls.{place_here, place_later}

-- ---- the first of a kind

pub in_later : (change : ServedCall → Phase → Turned) (c : ServedCall) (front rest : List ServedCall) (p : Phase)
    → change_in change (c ∷ front) rest p ≡ record { phase = (change_in change front rest p).phase; kept = c ∷ (change_in change front rest p).kept }
in_later change c front [] p = refl
in_later change c front (d ∷ rest) p = refl

pub first_here : (test : ServedCall → Bool) (change : ServedCall → Phase → Turned) (c : ServedCall) (cs : List ServedCall) (p : Phase) → test c ≡ true
    → change_first test change (c ∷ cs) p ≡ record { phase = (change c p).phase; kept = (change c p).kept ++ cs }
unfolding change_first
first_here test change c cs p is = ap (λ (n : ℕ). change_in change (take n (c ∷ cs)) (drop n (c ∷ cs)) p) (place_here test c cs is)

pub first_later : (test : ServedCall → Bool) (change : ServedCall → Phase → Turned) (c : ServedCall) (cs : List ServedCall) (p : Phase) → test c ≡ false
    → change_first test change (c ∷ cs) p ≡ record { phase = (change_first test change cs p).phase; kept = c ∷ (change_first test change cs p).kept }
unfolding change_first
first_later test change c cs p is =
    ap (λ (n : ℕ). change_in change (take n (c ∷ cs)) (drop n (c ∷ cs)) p) (place_later test c cs is)
    ∙ in_later change c (take (position_or_len test cs) cs) (drop (position_or_len test cs) cs) p

pub first_of_none : (test : ServedCall → Bool) (change : ServedCall → Phase → Turned) (p : Phase) → change_first test change [] p ≡ record { phase = p; kept = [] }
unfolding change_first
first_of_none test change p = refl

-- ---- how many are left

abbrev pub left_among : List ServedCall → ℕ
left_among cs = length (filter is_unnamed cs)

abbrev pub named_by : Option (List (List ℕ)) → List ServedCall → Phase → List ServedCall
named_by caller cs p = (change_first is_unnamed (name_on caller) cs p).kept

pub one_named : (caller : Option (List (List ℕ))) (m : ℕ) (kind : CallKind) (cs : List ServedCall) (p : Phase)
    → left_among ((name_on caller (record { stream = m; stage = Unnamed kind }) p).kept ++ cs) ≡ left_among cs
one_named None m kind cs p = refl
one_named (Some sel) m kind cs p = refl

pub named_go : (caller : Option (List (List ℕ))) (m : ℕ) (s : Stage) (cs : List ServedCall) (p : Phase) (n : ℕ)
    → (first_unnamed cs ≡ Some n → left_among cs ≡ suc (left_among (named_by caller cs p)))
    → first_unnamed (record { stream = m; stage = s } ∷ cs) ≡ Some n
    → left_among (record { stream = m; stage = s } ∷ cs) ≡ suc (left_among (named_by caller (record { stream = m; stage = s } ∷ cs) p))
named_go caller m (Unnamed kind) cs p n rest is =
    ap suc (sym (ap (λ (t : Turned). left_among t.kept) (first_here is_unnamed (name_on caller) (record { stream = m; stage = Unnamed kind }) cs p refl) ∙ one_named caller m kind cs p))
named_go caller m (Ready kind sel seen headed) cs p n rest is =
    rest is ∙ ap suc (sym (ap (λ (t : Turned). left_among t.kept) (first_later is_unnamed (name_on caller) (record { stream = m; stage = Ready kind sel seen headed }) cs p refl)))
named_go caller m (Asking first wanted got) cs p n rest is =
    rest is ∙ ap suc (sym (ap (λ (t : Turned). left_among t.kept) (first_later is_unnamed (name_on caller) (record { stream = m; stage = Asking first wanted got }) cs p refl)))

pub one_fewer : (caller : Option (List (List ℕ))) (cs : List ServedCall) (p : Phase) (n : ℕ) → first_unnamed cs ≡ Some n
    → left_among cs ≡ suc (left_among (named_by caller cs p))
one_fewer caller [] p n is = absurd (cc is)
one_fewer caller (c ∷ cs) p n is = named_go caller c.stream c.stage cs p n (one_fewer caller cs p n) is

pub none_go : (m : ℕ) (s : Stage) (cs : List ServedCall) → (first_unnamed cs ≡ None → left_among cs ≡ 0)
    → first_unnamed (record { stream = m; stage = s } ∷ cs) ≡ None → left_among (record { stream = m; stage = s } ∷ cs) ≡ 0
none_go m (Unnamed kind) cs rest is = absurd (cc is)
none_go m (Ready kind sel seen headed) cs rest is = rest is
none_go m (Asking first wanted got) cs rest is = rest is

pub none_left : (cs : List ServedCall) → first_unnamed cs ≡ None → left_among cs ≡ 0
none_left [] is = refl
none_left (c ∷ cs) is = none_go c.stream c.stage cs (none_left cs) is

pub left_go : (m : ℕ) (s : Stage) (cs : List ServedCall) → (left_among cs ≡ 0 → first_unnamed cs ≡ None)
    → left_among (record { stream = m; stage = s } ∷ cs) ≡ 0 → first_unnamed (record { stream = m; stage = s } ∷ cs) ≡ None
left_go m (Unnamed kind) cs rest is = absurd (omega (arith, is))
left_go m (Ready kind sel seen headed) cs rest is = rest is
left_go m (Asking first wanted got) cs rest is = rest is

pub left_none : (cs : List ServedCall) → left_among cs ≡ 0 → first_unnamed cs ≡ None
left_none [] is = refl
left_none (c ∷ cs) is = left_go c.stream c.stage cs (left_none cs) is

-- ---- one name

pub served_named : (caller : Option (List (List ℕ))) (t : Talking) → (name_said caller t).after.served ≡ named_by caller t.served t.phase
unfolding name_said name_first written
served_named None t = refl
served_named (Some sel) t = refl

pub name_counts : (caller : Option (List (List ℕ))) (t : Talking) (n : ℕ) → first_unnamed t.served ≡ Some n
    → unnamed_count t ≡ suc (unnamed_count (name_said caller t).after)
name_counts caller t n is = one_fewer caller t.served t.phase n is ∙ ap (λ (cs : List ServedCall). suc (left_among cs)) (sym (served_named caller t))

-- ---- all names

-- how many calls of a session are not attested
abbrev pub left_in : SessionState → ℕ
left_in (Running e t shown) = unnamed_count t
left_in (Fallen fault begun) = 0
left_in OutOfMemory = 0

-- naming one and then the others is naming all
pub record IsNamedOn (caller : Option (List (List ℕ))) (s s1 : SessionState) (old mid : List ℕ) : Type 0 where
  pub after : (names_told caller s).after ≡ (names_told caller s1).after
  pub bytes : old ++ (names_told caller s).bytes ≡ mid ++ (names_told caller s1).bytes
  pub fewer : left_in s ≡ suc (left_in s1)

pub first_of_names : (n k : ℕ) (caller : Option (List (List ℕ))) (t : Talking) → n ≡ suc k → names_said n caller t ≡ then_ (name_said caller t) (names_said k caller)
unfolding names_said
first_of_names n k caller t is = ap (λ (m : ℕ). names_said m caller t) is

pub named_running : (caller : Option (List (List ℕ))) (e : End) (t : Talking) (shown : Option Publication) (old : List ℕ) (n : ℕ) → first_unnamed t.served ≡ Some n
    → IsNamedOn caller (Running e t shown) (Running e (name_said caller t).after shown) old (old ++ (name_said caller t).bytes)
unfolding names_told
named_running caller e t shown old n is =
    let one = name_said caller t in
    let k = unnamed_count one.after in
    let split = first_of_names (unnamed_count t) k caller t (name_counts caller t n is) in
    record {
      after = ap (λ (s : Said). Running e s.after shown) split;
      bytes = ap (λ (s : Said). old ++ s.bytes) split ∙ sym (append_assoc old one.bytes (names_said k caller one.after).bytes);
      fewer = name_counts caller t n is;
    }

pub some_go : (caller : Option (List (List ℕ))) (e : End) (t : Talking) (shown : Option Publication) (old : List ℕ) (o : Option ℕ) → first_unnamed t.served ≡ o → is_some o ≡ true
    → IsNamedOn caller (Running e t shown) (Running e (name_said caller t).after shown) old (old ++ (name_said caller t).bytes)
some_go caller e t shown old None is there = absurd (cc there)
some_go caller e t shown old (Some n) is there = named_running caller e t shown old n is

pub named_on : (caller : Option (List (List ℕ))) (s s1 : SessionState) (old mid : List ℕ) → IsSome (unnamed_in s) → Names caller s (Ok tt) old mid s1 → IsNamedOn caller s s1 old mid
named_on caller (Running e t shown) s1 old mid there names =
    rw (names.0, names.1) (some_go caller e t shown old (first_unnamed t.served) refl there)
named_on caller (Fallen fault begun) s1 old mid there names = absurd (cc there)
named_on caller OutOfMemory s1 old mid there names = absurd (cc there)

-- none is left
pub record IsNamed (caller : Option (List (List ℕ))) (s : SessionState) : Type 0 where
  pub after : (names_told caller s).after ≡ s
  pub bytes : (names_told caller s).bytes ≡ []

pub no_names : (n : ℕ) (caller : Option (List (List ℕ))) (t : Talking) → n ≡ 0 → names_said n caller t ≡ silent t
unfolding names_said
no_names n caller t is = ap (λ (m : ℕ). names_said m caller t) is

pub named_all : (caller : Option (List (List ℕ))) (s : SessionState) → unnamed_in s ≡ None → IsNamed caller s
unfolding names_told
named_all caller (Running e t shown) is =
    let none = no_names (unnamed_count t) caller t (none_left t.served is) in
    record { after = ap (λ (s : Said). Running e s.after shown) none; bytes = ap (λ (s : Said). s.bytes) none }
named_all caller (Fallen fault begun) is = record { after = refl; bytes = refl }
named_all caller OutOfMemory is = record { after = refl; bytes = refl }

pub none_of : (o : Option ℕ) → is_some o ≡ false → o ≡ None
none_of None is = refl
none_of (Some n) is = absurd (cc is)

-- after all names no call is left
pub some_call : (cs : List ServedCall) (o : Option ℕ) (n : ℕ) → first_unnamed cs ≡ o → left_among cs ≡ suc n → (m : ℕ) × (first_unnamed cs ≡ Some m)
some_call cs None n is count = absurd (omega (arith, none_left cs is, count))
some_call cs (Some m) n is count = (m, is)

pub names_leave_none : (n : ℕ) (caller : Option (List (List ℕ))) (t : Talking) → unnamed_count t ≡ n → first_unnamed (names_said n caller t).after.served ≡ None
unfolding names_said
names_leave_none zero caller t is = left_none t.served is
names_leave_none (suc n) caller t is =
    let some = some_call t.served (first_unnamed t.served) n refl is in
    let count : unnamed_count (name_said caller t).after ≡ n = omega (arith, name_counts caller t some.0 some.1, is) in
    names_leave_none n caller (name_said caller t).after count
