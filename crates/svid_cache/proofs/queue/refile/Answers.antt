use Rattle.std.proofs.Common.{◌<◌, ◌/◌, take, sym, ◌∙◌, ap, subst}
use Rattle.std.specs.Prelude.{slice_set}
use Rattle.std.specs.List.{AllByRecursion}
use Rattle.list_laws.specs.Keys.{place_at}
use Rattle.wl_entry.specs.Keys.{ask_key}
use Rattle.svid_cache.specs.Queue.{Filed, NotBefore, OthersNotBefore}
use Rattle.svid_cache.proofs.Blocks.{filed_without, filed_anew, block_there}
use Rattle.svid_cache.proofs.queue.refile.Goals as goal

pub returns-in_default : goal.returns-in_default
returns-in_default c =
    subst (λ f. Filed (NotBefore c.args.renew_before c.args.svids.now) c.args.size f c.args.asks.now) (sym c.in_ok-anew.ensures.items)
    (filed_without c.args.renew_before c.args.id.now c.args.svids.now c.args.size c.args.firsts.now c.args.asks.now (ap (place_at ask_key c.args.asks.now) (sym c.as_slice.ensures) ∙ (sym c.place_by_key.ensures.place ∙ c.in_default.is)) c.requires.others)

pub index_mut-requires : goal.index_mut-requires
index_mut-requires c =
    subst (λ n. c.in-Some.place / c.args.size < n) (sym c.in_ok-anew.ensures.len)
    (block_there (OthersNotBefore c.args.renew_before c.args.id.now c.args.svids.now) c.args.size c.in-Some.place c.args.firsts.now c.args.asks.now c.requires.size c.requires.others c.in-Some.ensures.within)

pub returns : goal.returns
returns c =
    let there = c.split_block.ensures.block ∙ ap (take c.args.size) c.split_at.ensures.back in
    subst (λ f. Filed (NotBefore c.args.renew_before c.args.svids.now) c.args.size (slice_set f (c.in-Some.place / c.args.size) c.block_time.result) c.args.asks.now) (sym c.in_ok-anew.ensures.items)
    (filed_anew c.args.renew_before c.args.id.now c.args.svids.now c.args.size c.block_time.result c.in-Some.place c.args.firsts.now c.args.asks.now c.requires.size c.requires.asks (ap (place_at ask_key c.args.asks.now) (sym c.as_slice.ensures) ∙ sym c.in-Some.ensures.place) c.requires.others
    (subst (AllByRecursion (NotBefore c.args.renew_before c.args.svids.now c.block_time.result)) there c.block_time.ensures.fits))
