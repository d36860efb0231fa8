use Rattle.std.proofs.Common.{◌≡◌, ◌≤◌, ◌++◌, length, map, filter, take, drop, sym, ◌∙◌, ap, subst}
use Rattle.svid_cache.specs.Caches.{lasts}
use Rattle.svid_cache.specs.Inside.{asks_in}
use Rattle.svid_cache.specs.Queue.{Filed, NotBefore, NoneBelow, svid_end, clear_second}
use Rattle.svid_cache.specs.Timetables.{IsAbout}
use Rattle.svid_cache.proofs.AskBlocks.{filed_swept, written}
use Rattle.list_laws.proofs.Elements.{all_filter}
use Rattle.svid_cache.proofs.CacheFacts.{swept_cached}
use Rattle.svid_cache.proofs.timetable.Timetable.sweep.Goals as goal

pub returns-clause-about : goal.returns-clause-about
returns-clause-about c = λ svids is.
    let about = subst (λ t. IsAbout t svids) (sym c.self.view_is) is in
    let mapped : c.clear_until.new.firsts ≡ map (clear_second c.args.now) c.self.inside.firsts.items = c.clear_until.ensures ∙ ap (map (clear_second c.args.now)) c.as_mut_slice.ensures.value in
    let long : length c.clear_until.new.firsts ≡ length c.self.inside.firsts.items = c.clear_until.auto.firsts ∙ ap length c.as_mut_slice.ensures.value in
    let all : length c.self.inside.firsts.items ≡ c.self.inside.firsts.len = sym (ap length c.as_mut_slice.ensures.value) ∙ c.as_mut_slice.ensures.len in
    let firsts : take c.self.inside.firsts.len (c.clear_until.new.firsts ++ drop (length c.clear_until.new.firsts) c.self.inside.firsts.items) ≡ map (clear_second c.args.now) c.self.inside.firsts.items =
    written c.clear_until.new.firsts c.self.inside.firsts.items c.self.inside.firsts.len long all ∙ mapped in
    record {
      cached = swept_cached c.self.inside.renew_before c.args.now (asks_in c.self.inside.asks) svids about.cached;
      filed = subst (λ f. Filed (NotBefore c.self.inside.renew_before (filter (lasts c.args.now) svids)) 64 f (asks_in c.self.inside.asks)) (sym firsts) (filed_swept c.self.inside.renew_before c.args.now 64 svids c.self.inside.firsts.items (asks_in c.self.inside.asks) about.filed);
      none_below = subst (NoneBelow c.least-self-inside.result) c.as_slice.ensures.value c.least-self-inside.ensures.fits;
      ends = all_filter (λ s. c.self.inside.end ≤ svid_end s) (lasts c.args.now) svids about.ends;
      begun = all_filter (λ s. s.signed.not_before ≤ c.self.inside.begins) (lasts c.args.now) svids about.begun;
    }
