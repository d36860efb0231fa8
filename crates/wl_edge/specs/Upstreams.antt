-- Where documents come from: the calls that are recorded, and their number (own rules).
use Rattle.std.specs.Prelude.{◌≡◌, ℕ, ◌+◌, ◌-◌, ◌≤◌, ◌^◌, List, [], ◌∷◌, ◌++◌, length, min, take, Option, Some, None, IfSome, IsSomeAnd, Result, Ok, Err}
use Rattle.wl_edge.specs.Edge.{Rose}
use Rattle.wl_edge.specs.Scripts.{due_answer, made_once_more}
use Rattle.wl_octets.specs.declared.octets.Octets.{Octets}
use Rattle.wl_edge.specs.declared.script.Script.{Script}
use Rattle.wl_edge.specs.declared.fault.EdgeFault.{EdgeFault}
use Rattle.wl_edge.specs.declared.fault.EdgeFault.TheVariants.{Failed, Memory}
use Rattle.wl_edge.specs.declared.upstream.PullCall.{PullCall}
use Rattle.wl_edge.specs.declared.upstream.TheConstants.{MAX_PULLED}

-- The calls, and how many were made, those among them that found no memory.
pub record UpstreamLog : Type 0 where
  pub calls : List PullCall
  pub number : ℕ

-- one more, unless the number stands at its end
abbrev pub one_more : ℕ → ℕ
one_more number = min (number + 1) (2 ^ 64 - 1)

-- a log with one more call
abbrev pub with_pull : UpstreamLog → PullCall → UpstreamLog
with_pull log call = record { calls = log.calls ++ call ∷ []; number = one_more log.number }

-- A pull appends a document, which is recorded; one that fails appends nothing, is recorded too, and the count rises. One that
-- found no memory appends nothing and shows in the number alone.
abbrev pub PullGives : Option UpstreamLog → Option UpstreamLog → ℕ → ℕ → List ℕ → List ℕ → Result (Unit {0}) EdgeFault → Type 0
PullGives old new before now into after (Ok done) = (part : List ℕ) × (after ≡ into ++ part) × (length part ≤ MAX_PULLED) × IfSome old (λ log. new ≡ Some (with_pull log (record { into = into; answer = Some part })))
PullGives old new before now into after (Err Failed) = (after ≡ into) × Rose before now × IfSome old (λ log. new ≡ Some (with_pull log (record { into = into; answer = None })))
PullGives old new before now into after (Err Memory) = (after ≡ into) × IfSome old (λ log. new ≡ Some (record log { number = one_more log.number }))

-- one pull, with the count of faults, which never falls
pub record Pulls (old new : Option UpstreamLog) (before now : ℕ) (into after : List ℕ) (answer : Result (Unit {0}) EdgeFault) : Type 0 where
  pub gives : PullGives old new before now into after answer
  pub later : before ≤ now

-- A pull in memory appends as much of the document that was due as a pull appends. One that found no memory leaves the
-- same document due.
abbrev pub FollowsPull : Script Octets → Script Octets → List ℕ → List ℕ → Result (Unit {0}) EdgeFault → Type 0
FollowsPull old new into after (Ok done) = IsSomeAnd (due_answer old) (λ document. after ≡ into ++ take MAX_PULLED document) × (new ≡ made_once_more old)
FollowsPull old new into after (Err Failed) = (due_answer old ≡ None) × (new ≡ made_once_more old)
FollowsPull old new into after (Err Memory) = new ≡ old
