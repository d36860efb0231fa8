use Rattle.wl_entry.specs.Keys.{ask_key}
use Rattle.std.proofs.Common.{◌≡◌, ◌++◌, ◌∷◌, [], map, sym, ◌∙◌, ap, subst}
use Rattle.list_laws.specs.Lists.{Rises}
use Rattle.svid_cache.proofs.CacheFacts.{alone_rises}
use Rattle.svid_cache.proofs.tests.alone.Goals as goal

pub returns-clause-rises : goal.returns-clause-rises
returns-clause-rises c =
    let one : c.from_vec.result ≡ c.args.ask ∷ [] = c.from_vec.ensures ∙ (c.in_ok-push.ensures.items ∙ ap (λ l. l ++ c.args.ask ∷ []) c.new-asks.ensures.items) in
    subst (λ l. Rises (map ask_key l)) (sym one) (alone_rises c.args.ask)
