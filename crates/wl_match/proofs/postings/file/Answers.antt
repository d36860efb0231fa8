use Rattle.std.proofs.Common.{◌≡◌, [], ◌∷◌, ◌++◌, unwrap_or, ◌∙◌, refl}
use Rattle.std.specs.Map.{lookup}
use Rattle.std.specs.BTreeMap.{is_at, get}
use Rattle.std.specs.Ordering.{nat_cmp}
use Rattle.std.specs.Cmp.Lexicographic.{slice_cmp}
use Rattle.wl_match.specs.Postings.{first_text}
use Rattle.wl_match.proofs.SelectorFiles.{file_step}
use Rattle.wl_match.proofs.postings.file.Goals as goal

pub returns : goal.returns
returns c = λ q.
    let e = c.args.entry.now in
    let es = c.args.groups.now.entries in
    let k : c.in_ok-selector.selector ≡ first_text e.selectors = c.in_ok-selector.ensures ∙ c.filed_under.ensures in
    let ids : c.unwrap_or-ids.result ≡ unwrap_or (lookup (is_at (slice_cmp nat_cmp c.in_ok-selector.selector)) es) [] = c.unwrap_or-ids.ensures ∙ cc in
    let all : c.push.new.self ≡ unwrap_or (lookup (is_at (slice_cmp nat_cmp c.in_ok-selector.selector)) es) [] ++ e.id ∷ [] = c.in_ok-push.ensures.ok ∙ rw (ids, c.in_ok-copy.ensures) refl in
    file_step e q es (get (slice_cmp nat_cmp) c.remove.new.self q) (get (slice_cmp nat_cmp) c.insert.new.self q)
    (rw k at (c.remove.ensures.updates.0 q))
    (rw k at (rw all at (c.in_ok-insert.ensures.updates.0 q)))
