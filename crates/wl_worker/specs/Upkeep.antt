-- Upkeep: what taking a document and asking for identities come to (own rules).
use Rattle.std.specs.Prelude.{◌≡◌, ◌⊎◌, ⊤, Bool, true, ℕ, ◌-◌, ◌/◌, ◌<◌, ◌≤◌, max, if◌then◌else◌, List, [], ◌++◌, Option, Some, None, IfSome, Err, IsOkAnd}
use Rattle.std.specs.List.{Contains, AllByRecursion}
use Rattle.wl_entry.specs.declared.asks.Ask.{Ask}
use Rattle.wl_entry.specs.declared.signing.Signed.{Signed}
use Rattle.wl_entry.specs.declared.signing.Svid.{Svid}
use Rattle.svid_cache.specs.Caches.{is_to_be_replaced}
use Rattle.wl_document.specs.declared.fault.DocFault.{DocFault}
use Rattle.wl_document.specs.States.{State}
use Rattle.wl_document.specs.Documents.{document_state}
use Rattle.wl_snapshot.specs.Snapshots.{Publication}
use Rattle.wl_publish.specs.Lists.{IsLast}
use Rattle.wl_edge.specs.Calls.{Gains}
use Rattle.wl_edge.specs.Clocks.{Ticks}
use Rattle.wl_edge.specs.Edge.{Rose}
use Rattle.wl_edge.specs.Upstreams.{UpstreamLog, with_pull, one_more}
use Rattle.wl_edge.specs.declared.upstream.PullCall.{PullCall}
use Rattle.wl_edge.specs.declared.signer.SignerCall.{SignerCall}
use Rattle.wl_edge.specs.declared.signer.SignerCall.TheVariants.{X509, Jwt}
use Rattle.wl_worker.specs.Counts.{RoseBy}
use Rattle.wl_worker.specs.declared.documents.Synced.{Synced}
use Rattle.wl_worker.specs.declared.documents.Synced.TheVariants as synced
use Rattle.wl_worker.specs.declared.signing.Asked.{Asked}
use Rattle.wl_worker.specs.declared.signing.Asked.TheVariants as asked
use Rattle.wl_worker.specs.declared.keeper.Kept.{Kept}
use Rattle.wl_worker.specs.declared.keeper.Kept.TheVariants as kept

-- ---- documents

-- The upstream was asked once, with nothing lent, and gave this document, or failed.
abbrev pub Pulled : Option UpstreamLog → Option UpstreamLog → Option (List ℕ) → Type 0
Pulled old new answer = IfSome old (λ log. new ≡ Some (with_pull log (record { into = []; answer = answer })))

-- The upstream was asked once. Which call it tells is not said.
abbrev pub PulledOnce : Option UpstreamLog → Option UpstreamLog → Type 0
PulledOnce old new = IfSome old (λ log. (calls : List PullCall) × (new ≡ Some (record { calls = log.calls ++ calls; number = one_more log.number })))

-- The upstream tells what it told, and maybe more calls. Their number has not fallen.
abbrev pub PulledLater : Option UpstreamLog → Option UpstreamLog → Type 0
PulledLater old new = IfSome old (λ log. (calls : List PullCall) × (number : ℕ) × (new ≡ Some (record { calls = log.calls ++ calls; number = number })) × RoseBy 0 log.number number)

-- The same, and it was asked at least once.
abbrev pub PulledAgain : Option UpstreamLog → Option UpstreamLog → Type 0
PulledAgain old new = IfSome old (λ log. (calls : List PullCall) × (number : ℕ) × (new ≡ Some (record { calls = log.calls ++ calls; number = number })) × Rose log.number number)

-- A publication shows what a document says.
abbrev pub ShowsState : Publication → State → Type 0
ShowsState p d = (p.entries ≡ d.entries) × (p.bundles ≡ d.bundles)

-- The document was read with the domain of the list's last publication as the own one. It has no fault, and that
-- publication shows what it says.
abbrev pub IsTaken : List ℕ → List Publication → Type 0
IsTaken document list = (p : Publication) × IsLast list p × IsOkAnd (document_state (Some p.domain) document) (ShowsState p)

-- Read in the same way it has this fault.
abbrev pub IsRefused : List ℕ → DocFault → List Publication → Type 0
IsRefused document fault list = (p : Publication) × IsLast list p × (document_state (Some p.domain) document ≡ Err fault)

-- what becomes of a document
abbrev pub TakeGives : {V : Type 0} → List ℕ → Synced V → Type 0
TakeGives {V} document (synced.Done note) = IsTaken document note.list
TakeGives {V} document (synced.Refused fault note) = IsRefused document fault note.list
TakeGives {V} document synced.Same = ⊥
TakeGives {V} document synced.Failed = ⊥
TakeGives {V} document synced.Memory = ⊤

-- the same, where `last` is the document that was taken last, if any: it is not taken anew, and another that is taken is
-- the last one from then on
abbrev pub NewGives : {V : Type 0} → List ℕ → Option (List ℕ) → Option (List ℕ) → Synced V → Type 0
NewGives {V} document last now (synced.Done note) = IsTaken document note.list × (now ≡ Some document)
NewGives {V} document last now (synced.Refused fault note) = IsRefused document fault note.list × (now ≡ last)
NewGives {V} document last now synced.Same = (last ≡ Some document) × (now ≡ last)
NewGives {V} document last now synced.Failed = ⊥
NewGives {V} document last now synced.Memory = now ≡ last

-- What one pull and the taking of its document come to, where `last` is the document that was taken last. Out of memory no
-- more is said than that it was one pull, and that the last document stays.
abbrev pub SyncGives : {V : Type 0} → Option UpstreamLog → Option UpstreamLog → ℕ → ℕ → Option (List ℕ) → Option (List ℕ) → Synced V → Type 0
SyncGives {V} old new before now last last_now (synced.Done note) = (document : List ℕ) × Pulled old new (Some document) × IsTaken document note.list × (last_now ≡ Some document)
SyncGives {V} old new before now last last_now (synced.Refused fault note) = (document : List ℕ) × Pulled old new (Some document) × IsRefused document fault note.list × (last_now ≡ last)
SyncGives {V} old new before now last last_now synced.Same = (document : List ℕ) × Pulled old new (Some document) × (last ≡ Some document) × (last_now ≡ last)
SyncGives {V} old new before now last last_now synced.Failed = Pulled old new None × Rose before now × (last_now ≡ last)
SyncGives {V} old new before now last last_now synced.Memory = last_now ≡ last

-- one sync, with the count of the upstream's faults, which never falls, and the document that was taken last
pub record Syncs {V : Type 0} (old new : Option UpstreamLog) (before now : ℕ) (last last_now : Option (List ℕ)) (answer : Synced V) : Type 0 where
  pub gives : SyncGives old new before now last last_now answer
  pub pulled : PulledOnce old new
  pub later : before ≤ now

-- The upstream was not asked, and the document that was taken last stays.
abbrev pub Rests : {V : Type 0} → Option UpstreamLog → Option UpstreamLog → ℕ → ℕ → Option (List ℕ) → Option (List ℕ) → Synced V → Type 0
Rests {V} old new before now last last_now answer = (new ≡ old) × (now ≡ before) × (last_now ≡ last) × (answer ≡ synced.Same)

-- One sync; where the document that came last is in use it may rest.
abbrev pub SyncsUnlessAtRest : {V : Type 0} → Bool → Option UpstreamLog → Option UpstreamLog → ℕ → ℕ → Option (List ℕ) → Option (List ℕ) → Synced V → Type 0
SyncsUnlessAtRest {V} is_in_use old new before now last last_now answer = ((is_in_use ≡ true) × Rests old new before now last last_now answer) ⊎ Syncs old new before now last last_now answer

-- ---- identities

-- The call's identity is, with its ask, an SVID of the list's last publication.
abbrev pub IsShown : List Publication → SignerCall → Type 0
IsShown list (X509 ask (Some signed)) = (p : Publication) × IsLast list p × Contains p.svids (record { ask = ask; signed = signed })
IsShown list (X509 ask None) = ⊥
IsShown list (Jwt ask audience answer) = ⊥

-- What came of one ask: the signer was asked this very ask once, and its answer was kept, or was not, or it failed. Where
-- memory ran out no more is said than that the list only grew.
abbrev pub AskGives : {V : Type 0} → Ask → Option (List SignerCall) → Option (List SignerCall) → ℕ → ℕ → Asked V → Type 0
AskGives {V} ask old new before now (asked.Kept note rest) = (signed : Signed) × Gains old new (X509 ask (Some signed)) × IsShown note.list (X509 ask (Some signed))
AskGives {V} ask old new before now asked.Refused = (signed : Signed) × Gains old new (X509 ask (Some signed))
AskGives {V} ask old new before now (asked.Failed ticket) = (ticket.ask ≡ ask) × Gains old new (X509 ask None) × Rose before now
AskGives {V} ask old new before now (asked.Starved ticket) = (ticket.ask ≡ ask) × (new ≡ old)
AskGives {V} ask old new before now asked.Memory = (signed : Signed) × Gains old new (X509 ask (Some signed))

-- the same, with the count of the signer's faults, which never falls
pub record Asks {V : Type 0} (ask : Ask) (old new : Option (List SignerCall)) (before now : ℕ) (answer : Asked V) : Type 0 where
  pub gives : AskGives ask old new before now answer
  pub later : before ≤ now

-- For how many seconds an identity that was kept is not asked for again: none, unless it is due again at once.
abbrev pub rest_after : ℕ → ℕ → Signed → ℕ
rest_after renew_before now signed = if is_to_be_replaced renew_before now signed then max ((signed.not_after - now) / 4) 1 else 0

-- a signer's list only grew
abbrev pub AskedOn : Option (List SignerCall) → Option (List SignerCall) → Type 0
AskedOn old new = IfSome old (λ told. (calls : List SignerCall) × (new ≡ Some (told ++ calls)))

-- ---- what has ended

-- No SVID of the list's last publication ends at this time or before it.
abbrev pub NoneEnded : ℕ → List Publication → Type 0
NoneEnded now list = (p : Publication) × IsLast list p × AllByRecursion (λ (v : Svid). now < v.signed.not_after) p.svids

abbrev pub KeepGives : {V : Type 0} → ℕ → Kept V → Type 0
KeepGives {V} now (kept.Done note tickets) = NoneEnded now note.list
KeepGives {V} now kept.Memory = ⊤

-- One look at the desk, at a time that the clock gave.
abbrev pub Keeps : {V : Type 0} → Option (List ℕ) → Option (List ℕ) → Kept V → Type 0
Keeps {V} old new answer = (now : ℕ) × Ticks old new now × KeepGives now answer
