-- The views and messages of one publication that connections share (own rules).
use Rattle.std.specs.Prelude.{◌≡◌, ◌⊎◌, ℕ, List, Option, Some, None, IfSome, option_map}
use Rattle.std.specs.List.{AllByRecursion}
use Rattle.wl_snapshot.specs.Snapshots.{Publication}
use Rattle.wl_snapshot.specs.Views.{ViewModel, view_in}
use Rattle.wl_snapshot.specs.declared.answers.Method3.{Method3}
use Rattle.wl_session.specs.declared.shared_views.KeptView.{KeptView}
use Rattle.wl_session.specs.declared.shared_views.KeptMessage.{KeptMessage}
use Rattle.wl_session.specs.Making.{IsMessageOf}

-- this is what a caller of these selectors sees in the publication
abbrev pub SeesIn : Option Publication → List (List ℕ) → ViewModel → Type 0
SeesIn None sel v = ⊥
SeesIn (Some x) sel v = v ≡ view_in x sel

-- this is the message of a method for a caller of these selectors, on what it sees in the publication
abbrev pub IsMessageIn : Option Publication → List (List ℕ) → Method3 → List ℕ → Type 0
IsMessageIn None sel method m = ⊥
IsMessageIn (Some x) sel method m = IsMessageOf method (view_in x sel) m

-- a turn on this publication may share: that of the views is the same where its number is
abbrev pub MayShare : Publication → Option Publication → Type 0
MayShare x shared = IfSome shared (λ last. last.number ≡ x.number → last ≡ x)

-- after a turn they are those of its publication, or it took none and they are as they were
abbrev pub SharesOf : Publication → Option Publication → Option Publication → Type 0
SharesOf x old new = (new ≡ old) ⊎ (new ≡ Some x)

-- ---- what is kept

abbrev pub AreViewsIn : Option Publication → List KeptView → Type 0
AreViewsIn shown kept = AllByRecursion (λ k. SeesIn shown k.selectors k.view) kept

abbrev pub AreMessagesIn : Option Publication → List KeptMessage → Type 0
AreMessagesIn shown kept = AllByRecursion (λ k. IsMessageIn shown k.selectors k.method k.message) kept

-- views and messages of the publication that is shown, whose number is noted
pub record AreKept (shown : Option Publication) (number : Option ℕ) (views : List KeptView) (messages : List KeptMessage) : Type 0 where
  pub numbered : number ≡ option_map (λ x. x.number) shown
  pub each_view : AreViewsIn shown views
  pub each_message : AreMessagesIn shown messages
