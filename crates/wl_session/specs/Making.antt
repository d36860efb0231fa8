-- The message of a streaming call.
use Rattle.std.specs.Prelude.{◌≡◌, ℕ, List}
use Rattle.wl_snapshot.specs.Views.{ViewModel}
use Rattle.wl_snapshot.specs.Answers.{answer_of, with_prefix}
use Rattle.wl_snapshot.specs.declared.answers.Answer.TheVariants.{Message}
use Rattle.wl_snapshot.specs.declared.answers.Method3.{Method3}

-- a streaming call of this method with this view is answered this message, which stands after its gRPC prefix
abbrev pub IsMessageOf : Method3 → ViewModel → List ℕ → Type 0
IsMessageOf method v message = with_prefix (answer_of method v) ≡ Message message
