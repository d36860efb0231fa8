use Rattle.std.proofs.Common.{Vec, Global, map, take, ℕ, ◌%◌, nat_eq, List, [], ◌∷◌, ◌++◌, arith, sym, ap, ◌∙◌}
use Rattle.std.specs.List.{filter}
use Rattle.std.proofs.lemmas.List.{take_all, map_push}
use Rattle.std.proofs.lemmas.List.FromFn.{length-enumerate_from}
use Rattle.wl_config.specs.declared.config.SocketFact.{SocketFact}
use Rattle.wl_dealing.specs.declared.dealing.DealtSocket.{DealtSocket}
use Rattle.wl_dealing.specs.Dealt.{numbered}
use Rattle.wl_dealing.proofs.Numbered.{dealt_this, dealt_other}
use Rattle.wl_dealing.proofs.dealing.deal.Goals.{then-number-seats+in_ok-push, else-number-seats}
use Rattle.wl_dealing.proofs.dealing.deal.Goals as goal

abbrev shown : DealtSocket → ℕ × SocketFact
shown s = (s.number, s.fact.now)

pub loop-fact-preserved : goal.loop-fact-preserved
loop-fact-preserved c =
    elim c.if-number-seats.branch [
      | then-number-seats+in_ok-push w ↦ record {
        dealt =
            ap (λ (dealt : Vec DealtSocket Global). map shown dealt.items) w.dealt-is
            ∙ ap (map shown) w.in_ok-push.ensures.items
            ∙ map_push shown c.loop-fact.dealt.items _
            ∙ ap (λ (l : List (ℕ × SocketFact)). l ++ (c.loop-fact.number, c.fact-item.result) ∷ []) c.loop-fact.invariant.dealt
            ∙ ap (λ (k : ℕ). filter (λ (s : ℕ × SocketFact). nat_eq (s.0 % c.args.seats) c.args.seat) (take c.loop-fact.fact-index (numbered c.args.sockets.now)) ++ (k, c.fact-item.result) ∷ []) c.loop-fact.invariant.number
            ∙ sym (dealt_this c.args.seats c.args.seat c.args.sockets.now c.loop-fact.fact-index c.fact-item.result c.loop-fact-test.true c.fact-item.is
            (sym (ap (λ k. k % c.args.seats) c.loop-fact.invariant.number) ∙ w.if-number-seats.true));
        number = omega (arith, c.loop-fact.invariant.number);
      }
      | else-number-seats w ↦ record {
        dealt =
            ap (λ (dealt : Vec DealtSocket Global). map shown dealt.items) w.dealt-is
            ∙ c.loop-fact.invariant.dealt
            ∙ sym (dealt_other c.args.seats c.args.seat c.args.sockets.now c.loop-fact.fact-index c.fact-item.result c.loop-fact-test.true c.fact-item.is
            (λ same. w.if-number-seats.false (ap (λ k. k % c.args.seats) c.loop-fact.invariant.number ∙ same)));
        number = omega (arith, c.loop-fact.invariant.number);
      }
    ]

pub returns : goal.returns
returns c =
    let long = length-enumerate_from 0 c.args.sockets.now in
    c.loop-fact.invariant.dealt ∙ ap (filter (λ (s : ℕ × SocketFact). nat_eq (s.0 % c.args.seats) c.args.seat)) (take_all c.loop-fact.fact-index (numbered c.args.sockets.now) (omega (arith, long, c.loop-fact-test.false)))
