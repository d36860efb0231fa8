-- Laws of an upstream that is asked again and again.
use Rattle.std.specs.Prelude.{◌≡◌, ℕ, ◌+◌, ◌<◌, ◌≤◌, ◌^◌, Bool, true, List, [], ◌++◌, Option, Some, None}
use Rattle.std.proofs.Common.{arith, ◌∙◌, sym, subst, append_assoc, inl, inr, ⊎_elim}
use Rattle.wl_worker.proofs.Common.{Rose, RoseBy}
use Rattle.wl_edge.specs.Upstreams.{UpstreamLog, one_more}
use Rattle.wl_worker.proofs.Owners.{none_after}
use Rattle.wl_worker.specs.declared.documents.Synced.{Synced}
use Rattle.wl_worker.specs.Upkeep.{PulledOnce, PulledLater, PulledAgain, Rests, Syncs, SyncsUnlessAtRest}

pub not_pulled : (told : Option UpstreamLog) → PulledLater told told
not_pulled None = tt
not_pulled (Some log) = ([], log.number, λ i. Some (record { calls = sym (none_after log.calls) i; number = log.number }), inl (omega arith))

rose_or_end : (before mid : ℕ) → before ≤ mid → Rose before (one_more mid)
rose_or_end before mid up = grind (arith, up)

rose_one : (before mid : ℕ) → RoseBy 0 before mid → Rose before (one_more mid)
rose_one before mid rose =
    ⊎_elim (λ (up : before + 0 ≤ mid). rose_or_end before mid (omega (arith, up))) (λ (end : 2 ^ 64 ≤ mid + 1). inr (omega (arith, end))) rose

pub pulled_again : (old mid new : Option UpstreamLog) → PulledLater old mid → PulledOnce mid new → PulledAgain old new
pulled_again None mid new later once = tt
pulled_again (Some log) mid new later once =
    let now : UpstreamLog = record { calls = log.calls ++ later.0; number = later.1 } in
    let step = subst (λ (m : Option UpstreamLog). PulledOnce m new) later.2 once in
    (later.0 ++ step.0, one_more later.1, step.1 ∙ (λ i. Some (record { calls = append_assoc log.calls later.0 step.0 i; number = one_more later.1 })), rose_one log.number later.1 later.3)

-- What was asked before was asked at all, however often it rests from then on.
pub pulled_or_rests : {V : Type 0} → (is_in_use : Bool) → (old mid new : Option UpstreamLog) → (before now : ℕ) → (last last_now : Option (List ℕ)) → (answer : Synced V) → PulledLater old mid → (is_in_use ≡ true → PulledAgain old mid) → SyncsUnlessAtRest is_in_use mid new before now last last_now answer → PulledAgain old new
pulled_or_rests {V} is_in_use old mid new before now last last_now answer later again done =
    ⊎_elim (λ (rests : (is_in_use ≡ true) × Rests mid new before now last last_now answer). subst (λ (n : Option UpstreamLog). PulledAgain old n) (sym rests.1.0) (again rests.0)) (λ (syncs : Syncs mid new before now last last_now answer). pulled_again old mid new later syncs.pulled) done

-- faults never fall
pub faults_or_rests : {V : Type 0} → (is_in_use : Bool) → (old new : Option UpstreamLog) → (before now : ℕ) → (last last_now : Option (List ℕ)) → (answer : Synced V) → SyncsUnlessAtRest is_in_use old new before now last last_now answer → before ≤ now
faults_or_rests {V} is_in_use old new before now last last_now answer done =
    ⊎_elim (λ (rests : (is_in_use ≡ true) × Rests old new before now last last_now answer). omega (arith, rests.1.1)) (λ (syncs : Syncs old new before now last last_now answer). syncs.later) done

pub again_is_later : (old new : Option UpstreamLog) → PulledAgain old new → PulledLater old new
again_is_later None new again = tt
again_is_later (Some log) new again = (again.0, again.1, again.2, ⊎_elim (λ (up : log.number < again.1). inl (omega (arith, up))) (λ (end : 2 ^ 64 ≤ again.1 + 1). inr end) again.3)
