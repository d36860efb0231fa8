-- What goes on between two moments, and then between two more.
use Rattle.std.proofs.Common.{◌≡◌, ℕ, true, false, option_map, ◌≤◌, inl, inr, List, [], ◌∷◌, ◌++◌, take, drop, Option, Some, None, IfSome, refl, sym, ap, subst, ◌∙◌, append_assoc, arith}
use Rattle.std.proofs.lemmas.List.{append-nil, take-append-drop}
use Rattle.list_laws.specs.Lists.{BeginsWith}
use Rattle.wl_edge.specs.Edge.{Rose, Gained, Sends}
use Rattle.wl_edge.specs.Links.{LinkLog, with_taken, with_heard}
use Rattle.wl_edge.specs.declared.link.Heard.{Heard as Answer}
use Rattle.wl_edge.proofs.Sinks.{gained_none, gained_more}
use Rattle.wl_control.specs.declared.asked.Verdict.{Verdict}
use Rattle.wl_control.specs.declared.status.TheConstants.{WRITE_FAILED}
use Rattle.wl_control.specs.Runs.{verdict_line}
use Rattle.wl_control.specs.Ends.{Moment, moment, LinkGains, Passes, status_of, Breaks, Delivered, delivered, not_written, not_sent, SendsAll}

-- ---- nothing

pub link_same : (m : Option LinkLog) → LinkGains m m [] []
link_same None = tt
link_same (Some log) = rw (append-nil log.gave, append-nil log.took) refl

pub passes_nothing : (m : Moment) → Passes m m [] [] []
passes_nothing m = record { link = link_same m.link; sink = gained_none m.sink; receives = omega arith; sends = omega arith; writes = omega arith }

pub breaks_nothing : (sent text : List ℕ) (m : Moment) → Breaks sent text m m
breaks_nothing sent text m = record { sent_part = []; text_part = []; passes = passes_nothing m; due_sent = (sent, refl); due_text = (text, refl) }

-- ---- more

pub link_more : (a b c : Option LinkLog) (xs ys : List Answer) (s u : List ℕ) → LinkGains a b xs s → LinkGains b c ys u → LinkGains a c (xs ++ ys) (s ++ u)
link_more None b c xs ys s u p r = tt
link_more (Some log) b c xs ys s u p r =
    let got = subst (λ (m : Option LinkLog). LinkGains m c ys u) p r in
    got ∙ rw (append_assoc log.gave xs ys, append_assoc log.took s u) refl

pub passes_more : (a b c : Moment) (xs ys : List Answer) (s u t v : List ℕ) → Passes a b xs s t → Passes b c ys u v → Passes a c (xs ++ ys) (s ++ u) (t ++ v)
passes_more a b c xs ys s u t v p r = record {
  link = link_more a.link b.link c.link xs ys s u p.link r.link;
  sink = gained_more a.sink b.sink c.sink t v p.sink r.sink;
  receives = omega (arith, p.receives, r.receives);
  sends = omega (arith, p.sends, r.sends);
  writes = omega (arith, p.writes, r.writes);
}

-- a count that rose in a part rose in the whole
pub rose_wide : (a b c d : ℕ) → a ≤ b → c ≤ d → Rose b c → Rose a d
rose_wide a b c d first last (inl lt) = inl (omega arith)
rose_wide a b c d first last (inr end) = inr (omega arith)

-- ---- a text that a link takes piece by piece

-- A prefix was sent, and the rest of the bytes is left.
pub record Sending (old new : Option LinkLog) (whole rest : List ℕ) : Type 0 where
  pub part : List ℕ
  pub split : whole ≡ part ++ rest
  pub gained : LinkGains old new [] part

took_more : (old mid new : Option LinkLog) (part more : List ℕ) → LinkGains old mid [] part → IfSome mid (λ log. new ≡ Some (with_taken log more)) → LinkGains old new [] (part ++ more)
took_more None mid new part more had got = tt
took_more (Some log) mid new part more had got =
    subst (λ (m : Option LinkLog). IfSome m (λ l. new ≡ Some (with_taken l more))) had got ∙ rw (append_assoc log.took part more) refl

pub send_none : (m : Option LinkLog) (bytes : List ℕ) → Sending m m bytes bytes
send_none m bytes = record { part = []; split = refl; gained = link_same m }

pub send_more : (old mid new : Option LinkLog) (whole rest : List ℕ) (n : ℕ) → Sending old mid whole rest → IfSome mid (λ log. new ≡ Some (with_taken log (take n rest))) → Sending old new whole (drop n rest)
send_more old mid new whole rest n s got = record {
  part = s.part ++ take n rest;
  split = s.split ∙ ap (λ xs. s.part ++ xs) (sym (take-append-drop n rest)) ∙ sym (append_assoc s.part (take n rest) (drop n rest));
  gained = took_more old mid new s.part (take n rest) s.gained got;
}

pub sent_whole : (old new : Option LinkLog) (whole rest : List ℕ) → rest ≡ [] → Sending old new whole rest → LinkGains old new [] whole
sent_whole old new whole rest none s =
    let same : s.part ≡ whole = sym (s.split ∙ ap (λ xs. s.part ++ xs) none ∙ append-nil s.part) in
    subst (λ (xs : List ℕ). LinkGains old new [] xs) same s.gained

-- a sending failed after a part
pub sending_fails : (old mid new : Option LinkLog) (a b c : ℕ) (whole rest : List ℕ) → Sending old mid whole rest → a ≤ b → b ≤ c → Rose b c → new ≡ mid → SendsAll old new a c whole false
sending_fails old mid new a b c whole rest s first last rose same =
    (rose_wide a b c c first (omega arith) rose, omega arith, (s.part, (rest, s.split), subst (λ (m : Option LinkLog). LinkGains old m [] s.part) (sym same) s.gained))

-- ---- one answer of a link

pub gives_one : (l m : Option LinkLog) (k : Option (List ℕ)) (r s w t u : ℕ) (a : Answer) → IfSome l (λ log. m ≡ Some (with_heard log a)) → r ≤ t → u ≡ s
    → Passes (record { link = l; sink = k; failed_receives = r; failed_sends = s; failed_writes = w }) (record { link = m; sink = k; failed_receives = t; failed_sends = u; failed_writes = w }) (a ∷ []) [] []
gives_one l m k r s w t u a told later same = record { link = one l told; sink = gained_none k; receives = later; sends = omega arith; writes = omega arith }
  where
    one : (l : Option LinkLog) → IfSome l (λ log. m ≡ Some (with_heard log a)) → LinkGains l m (a ∷ []) []
    one None told = tt
    one (Some log) told = told ∙ rw (append-nil log.took) refl

pub gives_none : (l m : Option LinkLog) (k : Option (List ℕ)) (r s w t u : ℕ) → LinkGains l m [] [] → r ≤ t → u ≡ s
    → Passes (record { link = l; sink = k; failed_receives = r; failed_sends = s; failed_writes = w }) (record { link = m; sink = k; failed_receives = t; failed_sends = u; failed_writes = w }) [] [] []
gives_none l m k r s w t u none later same = record { link = none; sink = gained_none k; receives = later; sends = omega arith; writes = omega arith }

-- ---- what is delivered

pub write_fails : (sent text lines : List ℕ) (verdict : Option Verdict) (l : Option LinkLog) (k n : Option (List ℕ)) (r s w v : ℕ) → lines ≡ text ++ verdict_line verdict → Sends k n w v lines false
    → Delivered sent text verdict (moment l k r s w) (moment l n r s v) (Some WRITE_FAILED)
write_fails sent text lines verdict l k n r s w v whole wrote =
    not_written wrote.gives.0 (record {
      sent_part = [];
      text_part = wrote.gives.1.0;
      passes = record { link = link_same l; sink = wrote.gives.1.2; receives = omega arith; sends = omega arith; writes = wrote.later };
      due_sent = (sent, refl);
      due_text = subst (λ (xs : List ℕ). BeginsWith xs wrote.gives.1.0) whole wrote.gives.1.1;
    })

pub send_fails : (sent text bytes lines : List ℕ) (verdict : Option Verdict) (l m : Option LinkLog) (k n : Option (List ℕ)) (r s w t u v : ℕ) → bytes ≡ sent → lines ≡ text ++ verdict_line verdict
    → t ≡ r → SendsAll l m s u bytes false → Sends k n w v lines true
    → Delivered sent text verdict (moment l k r s w) (moment m n t u v) (Some WRITE_FAILED)
send_fails sent text bytes lines verdict l m k n r s w t u v same whole still went wrote =
    not_sent went.0 (
      went.2.0,
      subst (λ (xs : List ℕ). BeginsWith xs went.2.0) same went.2.1,
      record { link = went.2.2; sink = subst (λ (xs : List ℕ). Gained k n xs) whole wrote.gives; receives = omega arith; sends = went.1; writes = wrote.later },
    )

pub all_delivered : (sent text bytes lines : List ℕ) (verdict : Option Verdict) (status : Option ℕ) (l m : Option LinkLog) (k n : Option (List ℕ)) (r s w t u v : ℕ) → bytes ≡ sent → lines ≡ text ++ verdict_line verdict
    → status ≡ option_map status_of verdict → t ≡ r → SendsAll l m s u bytes true → Sends k n w v lines true
    → Delivered sent text verdict (moment l k r s w) (moment m n t u v) status
all_delivered sent text bytes lines verdict status l m k n r s w t u v same whole is still went wrote =
    rw is (delivered (record {
      link = subst (λ (xs : List ℕ). LinkGains l m [] xs) same went.0;
      sink = subst (λ (xs : List ℕ). Gained k n xs) whole wrote.gives;
      receives = omega arith;
      sends = went.1;
      writes = wrote.later;
    }))
