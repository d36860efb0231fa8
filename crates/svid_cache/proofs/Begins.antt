-- The earliest second at which all SVIDs have begun.
use Rattle.std.specs.Prelude.{◌≡◌, ◌++◌, ℕ, ◌+◌, ◌<◌, ◌≤◌, max, List, [], ◌∷◌, take, filter, get_or, length, slice_index_or}
use Rattle.std.proofs.Common.{arith, sym, ap, subst, ◌∙◌}
use Rattle.std.proofs.lemmas.List.{take_more, take_all}
use Rattle.svid_cache.proofs.Common.{all_append, all_filter, all_such, Svid, join, join_more, with_svid, is_below, is_above}
use Rattle.list_laws.proofs.Elements.{all_front, all_back}
use Rattle.svid_cache.specs.Queue.{IsEarliest, AllBegunBy}

-- where all have begun they have at a later second
pub begun_later : (begins later : ℕ) (svids : List Svid) → begins ≤ later → AllBegunBy begins svids → AllBegunBy later svids
begun_later begins later svids past begun = all_such (λ s. s.signed.not_before ≤ begins) (λ s. s.signed.not_before ≤ later) svids (λ s from. omega (arith, past, from)) begun

-- with one more
pub begun_put : (begins : ℕ) (s : Svid) (svids : List Svid) → AllBegunBy begins svids → AllBegunBy (max begins s.signed.not_before) (with_svid s svids)
unfolding with_svid
begun_put begins s svids begun =
    let last = max begins s.signed.not_before in
    let P : Svid → Type 0 = λ x. x.signed.not_before ≤ last in
    let all = begun_later begins last svids (omega arith) begun in
    all_append P (filter (is_below s.ask.entry_id) svids) (s ∷ filter (is_above s.ask.entry_id) svids)
    (all_filter P (is_below s.ask.entry_id) svids all) (omega arith, all_filter P (is_above s.ask.entry_id) svids all)

-- those so far and one more
pub begun_more : (svids : List Svid) (i last : ℕ) (d : Svid) → i < length svids → AllBegunBy last (take i svids) → AllBegunBy (max last (get_or svids i d).signed.not_before) (take (i + 1) svids)
begun_more svids i last d below begun =
    let one = get_or svids i d in
    let later = max last one.signed.not_before in
    subst (AllBegunBy later) (sym (take_more svids i d below))
    (all_append (λ s. s.signed.not_before ≤ later) (take i svids) (one ∷ []) (begun_later last later (take i svids) (omega arith) begun) (omega arith, tt))

pub earliest_more : (svids : List Svid) (i first last : ℕ) (d : Svid) → i < length svids → IsEarliest first (λ s. AllBegunBy s (take i svids)) last → IsEarliest first (λ s. AllBegunBy s (take (i + 1) svids)) (max last (get_or svids i d).signed.not_before)
earliest_more svids i first last d below earliest = λ other from all.
    let P : Svid → Type 0 = λ s. s.signed.not_before ≤ other in
    let both = subst (AllBegunBy other) (take_more svids i d below) all in
    let so_far = earliest other from (all_front P (take i svids) (get_or svids i d ∷ []) both) in
    let one = (all_back P (take i svids) (get_or svids i d ∷ []) both).0 in
    omega (arith, so_far, one)

-- those so far, where there are no others
pub earliest_all : (svids : List Svid) (i first last : ℕ) → length svids ≤ i → IsEarliest first (λ s. AllBegunBy s (take i svids)) last → IsEarliest first (λ s. AllBegunBy s svids) last
earliest_all svids i first last few earliest = subst (λ l. IsEarliest first (λ s. AllBegunBy s l) last) (take_all i svids few) earliest

-- the blocks so far and one more
block_more : (blocks : List (List Svid)) (i : ℕ) → i < length blocks → join (take (i + 1) blocks) ≡ join (take i blocks) ++ slice_index_or blocks i []
block_more blocks i below = ap join (take_more blocks i [] below) ∙ join_more (take i blocks) (slice_index_or blocks i [])

pub begun_block : (last new i : ℕ) (blocks : List (List Svid)) → i < length blocks → AllBegunBy last (join (take i blocks)) → last ≤ new → AllBegunBy new (slice_index_or blocks i []) → AllBegunBy new (join (take (i + 1) blocks))
begun_block last new i blocks below begun later block =
    subst (AllBegunBy new) (sym (block_more blocks i below))
    (all_append (λ s. s.signed.not_before ≤ new) (join (take i blocks)) (slice_index_or blocks i []) (begun_later last new (join (take i blocks)) later begun) block)

pub earliest_block : (blocks : List (List Svid)) (i first last new : ℕ) → i < length blocks → IsEarliest first (λ s. AllBegunBy s (join (take i blocks))) last → IsEarliest last (λ s. AllBegunBy s (slice_index_or blocks i [])) new → IsEarliest first (λ s. AllBegunBy s (join (take (i + 1) blocks))) new
earliest_block blocks i first last new below earliest block = λ other from all.
    let P : Svid → Type 0 = λ s. s.signed.not_before ≤ other in
    let both = subst (AllBegunBy other) (block_more blocks i below) all in
    block other (earliest other from (all_front P (join (take i blocks)) (slice_index_or blocks i []) both))
    (all_back P (join (take i blocks)) (slice_index_or blocks i []) both)
