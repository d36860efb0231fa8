use Rattle.std.proofs.Common.{◌≡◌, ◌%◌, map, take, nat_eq, ℕ}
use Rattle.std.specs.List.{filter}
use Rattle.wl_config.specs.declared.config.SocketFact.{SocketFact}
use Rattle.wl_dealing.specs.Dealt.{numbered}
use Rattle.wl_dealing.proofs.dealing.deal.Given as goal

abbrev pub invariant-loop-fact : goal.invariant-loop-fact
invariant-loop-fact l =
    record {
      dealt : map (λ s. (s.number, s.fact.now)) l.dealt.items ≡ filter (λ (s : ℕ × SocketFact). nat_eq (s.0 % l.seats) l.seat) (take l.fact-index (numbered l.sockets));
      number : l.number ≡ l.fact-index;
    }
