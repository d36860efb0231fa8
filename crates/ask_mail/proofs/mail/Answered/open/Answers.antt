use Rattle.std.proofs.Common.{◌≡◌, ℕ, List, sym, ap, subst, ◌∙◌}
use Rattle.std.specs.Prelude.{IfSome}
use Rattle.list_laws.proofs.Equality.{texts_are}
use Rattle.wl_selector.specs.Selectors.{sorted_texts}
use Rattle.wl_entry.specs.declared.asks.Ask.{Ask}
use Rattle.wl_entry.proofs.Sames.{ask_is}
use Rattle.ask_mail.specs.declared.mail.Delivery.{Delivery}
use Rattle.ask_mail.specs.Mail.{delivery}
use Rattle.ask_mail.proofs.mail.Answered.open.Goals as goal

pub returns-then-eq-2 : goal.returns-then-eq-2
returns-then-eq-2 g c =
    let ask : c.self.inside.asked.ask ≡ c.args.ask.now = ask_is _ _ (sym c.eq.ensures ∙ c.if-eq.true) in
    let list : c.self.inside.asked.audience ≡ c.args.audience.now = texts_are _ _ (rw c.as_slice.ensures at (sym c.eq-then-eq.ensures ∙ c.if-eq-2.true)) in
    let connection = ap (λ (d : Delivery). d.connection) c.self.view_is in (
      sym c.self.view_is ∙ (λ i. delivery (connection i) (ask i) (list i) c.self.inside.answer),
      subst (λ (p : Ask × List (List ℕ)). IfSome c.self.inside.answer (g.V.Voucher.token p.0 (sorted_texts p.1))) (λ i. (ask i, list i)) c.self.invariant,
    )
