use Rattle.std.proofs.Common.{sym, ◌∙◌, subst}
use Rattle.svid_cache.specs.Caches.{IsCached}
use Rattle.svid_cache.specs.Queue.{Filed, NotBefore, NoneBelow, NoneEndsBefore, AllBegunBy}
use Rattle.svid_cache.proofs.timetable.Timetable.of.Goals as goal

pub returns-clause-about : goal.returns-clause-about
returns-clause-about c = record {
  cached = subst (λ a. IsCached (record { asks = a; svids = c.args.svids.now; renew_before = c.args.renew_before })) (sym c.in_ok-new.ensures.ok) c.requires;
  filed = subst (λ a. Filed (NotBefore c.args.renew_before c.args.svids.now) 64 c.in_ok-firsts.firsts.items a) (c.as_slice.ensures ∙ sym c.in_ok-new.ensures.ok) c.in_ok-firsts.ensures;
  none_below = subst (NoneBelow c.least.result) c.as_slice-2.ensures.value c.least.ensures.fits;
  ends = subst (NoneEndsBefore c.first_end_in.result) c.blocks-2.ensures c.first_end_in.ensures.ends;
  begun = subst (AllBegunBy c.last_begin_in.result) c.blocks-3.ensures c.last_begin_in.ensures.begun;
}
