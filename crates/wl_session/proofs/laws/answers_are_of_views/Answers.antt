use Rattle.wl_session.proofs.Refusals.{refused_ends, no_identity, unknown_service, of_view, health_of_view}
use Rattle.wl_session.proofs.laws.answers_are_of_views.Goals as goal

pub returns : goal.returns
returns c = record { refused = refused_ends; no_identity = no_identity; unknown_service = unknown_service; message = of_view; health = health_of_view }
