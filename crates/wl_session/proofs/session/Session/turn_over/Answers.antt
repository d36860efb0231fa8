use Rattle.std.proofs.Common.{◌≡◌, inl, refl, sym, ap, subst, ℕ, true, option_map}
use Rattle.wl_session.specs.Settled.{is_number}
use Rattle.wl_session.proofs.SessionFacts.{stays_here}
use Rattle.wl_session.proofs.session.Session.turn_over.Goals as goal

pub returns-then-not-has_new : goal.returns-then-not-has_new
returns-then-not-has_new c =
    let s = c.self.inside in
    let numbered : is_number s.number c.args.snapshot.now.number ≡ true = subst (λ (n : ℕ). is_number s.number n ≡ true) (ap (λ x. x.number) c.snapshot.view_is) (sym c.if-is_number.ensures) in
    record {
      turns = stays_here c.args.snapshot.now c.args.self.now s.failed s.parser s.talk (option_map (λ g. g.value) s.shown) s.number c.args.out.now c.self.view_is c.in_default.is c.self.invariant numbered (sym c.if-not-has_new.ensures) c.requires.follows;
      shares = inl refl;
    }
