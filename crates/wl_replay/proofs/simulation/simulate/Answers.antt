use Rattle.std.proofs.Common.{[], ◌∙◌, subst, refl, false, None, IsOkAnd}
use Rattle.wl_document.specs.Documents.{document_state}
use Rattle.wl_core.specs.Worlds.{StandsFor}
use Rattle.wl_replay.specs.declared.simulation.Generator.{Generator}
use Rattle.wl_replay.specs.Generated.{document_text}
use Rattle.wl_replay.proofs.Simulations.{simulated_by}
use Rattle.wl_replay.proofs.simulation.simulate.Goals as goal

pub returns : goal.returns
returns c =
    let first : Generator = record { draws = c.args.seed; clock = 1000; named = c.in_ok-unset.field-0; fed = c.in_ok-unset-2.field-0 } in
    record {
      counts = simulated_by c.args.seed c.args.entries c.args.callers c.args.steps c.in_ok-world.world c.join_all.new.world c.take_steps.new.world first c.take_steps.new.generator c.counts.result
          (subst (λ named. IsOkAnd (document_state None (document_text c.args.callers named)) (λ d. StandsFor c.in_ok-world.world (record { strict = false; state = d }) [])) (c.as_slice.ensures.value ∙ c.in_ok-unset.ensures) c.in_ok-world.ensures)
          c.in_ok-join_all.ensures c.in_ok-take_steps.ensures c.counts.ensures refl refl c.in_ok-unset.ensures c.in_ok-unset-2.ensures;
    }
