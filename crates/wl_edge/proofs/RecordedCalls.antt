-- Calls in memory that are recorded.
use Rattle.std.specs.Prelude.{◌≡◌, ◌≤◌, ℕ, List, [], ◌∷◌, ◌++◌, length, Option, Some, None, Result, Ok}
use Rattle.std.proofs.Common.{sym, ◌∙◌, ap, subst, arith}
use Rattle.wl_edge.specs.Calls.{Answers, CallGives}
use Rattle.wl_edge.specs.Upstreams.{Pulls, one_more}
use Rattle.wl_edge.specs.declared.upstream.PullCall.{PullCall}
use Rattle.wl_edge.specs.declared.upstream.TheConstants.{MAX_PULLED}
use Rattle.wl_edge.specs.Scripts.{IsCounted}
use Rattle.wl_edge.specs.declared.fault.EdgeFault.{EdgeFault}

-- a call was told with what was due, and counted
pub told_call : {C A : Type 0} (old new : List C) (before now : ℕ) (call : Option A → C) (item : C) (due given : Option A) (answer : Result A EdgeFault) → given ≡ due → item ≡ call due → new ≡ old ++ item ∷ [] → IsCounted before now given answer → Answers (Some old) (Some new) before now call answer
told_call {C} {A} old new before now call item due (Some given) answer is form told counted =
    let P : Result A EdgeFault → Type 0 = λ r. CallGives (Some old) (Some new) before now call r in
    let added : new ≡ old ++ call (Some given) ∷ [] = told ∙ ap (λ c. old ++ c ∷ []) (form ∙ ap call (sym is)) in
    record { gives = subst P (sym counted.0) (ap Some added); later = omega (arith, counted.1) }
told_call {C} {A} old new before now call item due None answer is form told counted =
    let P : Result A EdgeFault → Type 0 = λ r. CallGives (Some old) (Some new) before now call r in
    let added : new ≡ old ++ call None ∷ [] = told ∙ ap (λ c. old ++ c ∷ []) (form ∙ ap call (sym is)) in
    record { gives = subst P (sym counted.0) (counted.1, ap Some added); later = counted.2 }

-- a pull that gave a document was told
pub told_pull : (calls new : List PullCall) (number raised faults : ℕ) (into after part : List ℕ) (item : PullCall) → after ≡ into ++ part → length part ≤ MAX_PULLED → item ≡ record { into = into; answer = Some part } → new ≡ calls ++ item ∷ [] → raised ≡ one_more number → Pulls (Some (record { calls = calls; number = number })) (Some (record { calls = new; number = raised })) faults faults into after (Ok tt)
told_pull calls new number raised faults into after part item whole short form told more = record {
  gives = (part, whole, short, ap (λ c. Some (record { calls = c; number = raised })) (told ∙ ap (λ i. calls ++ i ∷ []) form) ∙ ap (λ n. Some (record { calls = calls ++ (record { into = into; answer = Some part }) ∷ []; number = n })) more);
  later = omega arith;
}
