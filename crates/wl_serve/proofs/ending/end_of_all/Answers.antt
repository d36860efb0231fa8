use Rattle.std.proofs.Common.{◌∙◌, true, false, refl, sym}
use Rattle.wl_serve.proofs.Ends.{end_by}
use Rattle.wl_serve.proofs.ending.end_of_all.Goals as goal

pub returns-then-any_host_fault : goal.returns-then-any_host_fault
returns-then-any_host_fault g c = end_by (λ s. s.end) _ true _ (sym c.if-any_host_fault.true ∙ c.any_host_fault.ensures) refl

pub returns-then-any_memory : goal.returns-then-any_memory
returns-then-any_memory g c = end_by (λ s. s.end) _ false true (sym c.if-any_host_fault.false ∙ c.any_host_fault.ensures) (sym c.if-any_memory.true ∙ c.any_memory.ensures)

pub returns : goal.returns
returns g c = end_by (λ s. s.end) _ false false (sym c.if-any_host_fault.false ∙ c.any_host_fault.ensures) (sym c.if-any_memory.false ∙ c.any_memory.ensures)
