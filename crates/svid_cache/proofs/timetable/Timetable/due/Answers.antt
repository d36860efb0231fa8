use Rattle.std.proofs.Common.{◌≡◌, ◌≤◌, [], filter, arith, sym, ◌∙◌, ap, subst}
use Rattle.std.proofs.lemmas.Bool.Decides.{nat_tests}
use Rattle.svid_cache.specs.Caches.{is_due, due_asks}
use Rattle.svid_cache.specs.Inside.{asks_in}
use Rattle.svid_cache.specs.Queue.{Filed, NotBefore}
use Rattle.svid_cache.specs.Timetables.{IsAbout, cached_by}
use Rattle.svid_cache.proofs.AskBlocks.{none_filed}
use Rattle.svid_cache.proofs.Begins.{begun_later}
use Rattle.svid_cache.proofs.timetable.Timetable.due.Goals as goal

pub returns-then-now-self-2 : goal.returns-then-now-self-2
returns-then-now-self-2 c =
    let about = subst (λ t. IsAbout t c.args.svids.now) (sym c.self.view_is) c.requires in
    let past : c.self.inside.begins ≤ c.args.now = grind (arith, nat_tests, c.if-now-self.false) in
    let begun = begun_later c.self.inside.begins c.args.now c.args.svids.now past about.begun in
    let none : filter (is_due c.self.inside.renew_before c.args.now c.args.svids.now) (asks_in c.self.inside.asks) ≡ [] =
    none_filed c.self.inside.renew_before c.args.now c.self.inside.next 64 c.args.svids.now c.self.inside.firsts.items (asks_in c.self.inside.asks) begun about.filed about.none_below c.if-now-self-2.true in
    c.empty.ensures ∙ (sym none ∙ ap (λ t. due_asks c.args.now (cached_by t c.args.svids.now)) c.self.view_is)

pub due_of-requires-clause-filed : goal.due_of-requires-clause-filed
due_of-requires-clause-filed c =
    let firsts : c.as_slice.result.now ≡ c.args.self.now.firsts = c.as_slice.ensures.value ∙ (λ i. (c.self.view_is i).firsts) in
    subst (λ r. Filed (NotBefore r c.args.svids.now) 64 c.as_slice.result.now c.asks-2.result.now) (λ i. (sym c.self.view_is i).renew_before)
    (subst (λ f. Filed (NotBefore c.args.self.now.renew_before c.args.svids.now) 64 f c.asks-2.result.now) (sym firsts) (subst (λ a. Filed (NotBefore c.args.self.now.renew_before c.args.svids.now) 64 c.args.self.now.firsts a) (sym c.asks-2.ensures) c.requires.filed))

pub due_of-requires-clause-begun : goal.due_of-requires-clause-begun
due_of-requires-clause-begun c =
    let about = subst (λ t. IsAbout t c.args.svids.now) (sym c.self.view_is) c.requires in
    let past : c.self.inside.begins ≤ c.args.now = grind (arith, nat_tests, c.if-now-self.false) in
    begun_later c.self.inside.begins c.args.now c.args.svids.now past about.begun
