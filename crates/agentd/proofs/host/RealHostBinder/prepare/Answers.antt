use Rattle.std.specs.Prelude.{Result, Ok, Err}
use Rattle.std.proofs.Common.{ℕ, ◌≤◌, inl, inr, arith, refl, sym, ap, ◌∙◌}
use Rattle.wl_edge.specs.declared.fault.EdgeFault.{EdgeFault}
use Rattle.wl_edge.specs.declared.fault.EdgeFault.TheVariants.{Memory}
use Rattle.wl_edge.specs.Edge.{Rose}
use Rattle.agentd.proofs.host.RealHostBinder.prepare.Goals as goal

abbrev fault_of : {A : Type 0} → Result A EdgeFault → EdgeFault
fault_of (Ok x) = Memory
fault_of (Err fault) = fault

pub returns-clause-prepared : goal.returns-clause-prepared
returns-clause-prepared g c = record {
  upstream = c.in-Ok.ensures.told;
  upstream_told = λ t. refl;
  upstream_faults = c.in-Ok.ensures.faults;
  seats = rw (← c.config.view_is, ← c.as_slice-sockets.ensures) c.in-Ok-make_seats.ensures.seats;
}

-- the count of a call, and of the one before it
rose_later : (a b c : ℕ) → a ≤ b → Rose b c → Rose a c
rose_later a b c le (inl h) = inl (omega (arith, le, h))
rose_later a b c le (inr h) = inr h

pub returns-in-Err-make_seats-clause-failed : goal.returns-in-Err-make_seats-clause-failed
returns-in-Err-make_seats-clause-failed g c = λ is. rose_later _ _ _ c.begin.ensures.later (c.count-in-Err-make_seats.ensures.failed (sym c.count-in-Err-make_seats.ensures.same ∙ ap fault_of is))

pub returns-in-Err-start_pages-clause-failed : goal.returns-in-Err-start_pages-clause-failed
returns-in-Err-start_pages-clause-failed g c = λ is. rose_later _ _ _ c.begin.ensures.later (c.count-in-Err-start_pages.ensures.failed (sym c.count-in-Err-start_pages.ensures.same ∙ ap fault_of is))
