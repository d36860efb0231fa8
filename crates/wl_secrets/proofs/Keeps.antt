-- Tokens that are kept for entries of the set: what is found and kept of them hangs on no others.
use Rattle.std.proofs.Common.{◌≡◌, ℕ, Bool, true, false, cond, not, List, [], ◌∷◌, ◌++◌, filter, Option, Some, None, refl, sym, ap, ◌∙◌}
use Rattle.std.proofs.lemmas.List.{append-nil}
use Rattle.std.proofs.lemmas.List.Elements.{filter-append}
use Rattle.list_laws.proofs.Equality.{bytes_are}
use Rattle.wl_selector.specs.Selectors.{has_text, sorted_texts}
use Rattle.wl_entry.specs.declared.asks.Ask.{Ask}
use Rattle.wl_secrets.proofs.Common.{Entry, JwtToken, Stored, JwtAsk, tokens_of, kept_token}
use Rattle.jwt_cache.specs.declared.rings.CachedToken.{CachedToken}
use Rattle.jwt_cache.specs.History.{last_of, is_of, ring_of, find_among, find_in, cached_token_of}
use Rattle.wl_store.specs.Stores.{asks_of}
use Rattle.wl_manager.specs.declared.keeping.Keeping.{Keeping}
use Rattle.wl_manager.specs.declared.keeping.Keeping.TheVariants as keeping
use Rattle.wl_manager.specs.Tokens.{changed_ids, without_all, history_after, keep_verdict}
use Rattle.wl_core.specs.Tokens.{history_by, history_after_token}
use Rattle.wl_core.specs.Moments.{history_answered}
use Rattle.wl_secrets.proofs.Lists.{filter_behind, filter_turned}

-- a token is kept for an entry of the set
abbrev pub is_ours : (List ℕ → Bool) → CachedToken → Bool
is_ours ours k = ours k.ask.entry_id

abbrev pub KeepAlike : (List ℕ → Bool) → List CachedToken → List CachedToken → Type 0
KeepAlike ours h l = filter (is_ours ours) h ≡ filter (is_ours ours) l

-- ---- what is found

ring_ours : (ours : List ℕ → Bool) (id : List ℕ) (h : List CachedToken) → ours id ≡ true → ring_of (filter (is_ours ours) h) id ≡ ring_of h id
unfolding ring_of
ring_ours ours id h mine = ap (last_of 16) (filter_behind (is_of id) (is_ours ours) (λ k is. ap ours (sym (bytes_are id k.ask.entry_id is)) ∙ mine) h)

pub kept_same : (ours : List ℕ → Bool) (m n : Stored) (h l : List CachedToken) (a : JwtAsk) (now : ℕ) → m.store.renew_before ≡ n.store.renew_before → KeepAlike ours h l → ours a.ask.entry_id ≡ true → kept_token (tokens_of m h) a now ≡ kept_token (tokens_of n l) a now
unfolding find_in
kept_same ours m n h l a now renew alike mine =
    ap (λ (r : ℕ). find_among a.ask (sorted_texts a.audience) r now (ring_of h a.ask.entry_id)) renew
    ∙ ap (find_among a.ask (sorted_texts a.audience) n.store.renew_before now)
    (sym (ring_ours ours a.ask.entry_id h mine) ∙ (ap (λ (k : List CachedToken). ring_of k a.ask.entry_id) alike ∙ ring_ours ours a.ask.entry_id l mine))

-- ---- a document was read

lost_turned : (ours : List ℕ → Bool) (before after : List Entry) (h : List CachedToken) → filter (is_ours ours) (history_after before after h) ≡ history_after before after (filter (is_ours ours) h)
unfolding without_all
lost_turned ours before after h = filter_turned (is_ours ours) (λ k. not (has_text (changed_ids (asks_of before) (asks_of after)) k.ask.entry_id)) h

pub lost_alike : (ours : List ℕ → Bool) (before after before2 after2 : List Entry) (h l : List CachedToken) → before ≡ before2 → after ≡ after2 → KeepAlike ours h l
    → KeepAlike ours (history_after before after h) (history_after before2 after2 l)
lost_alike ours before after before2 after2 h l one two alike =
    lost_turned ours before after h ∙ ((λ i. history_after (one i) (two i) (alike i)) ∙ sym (lost_turned ours before2 after2 l))

-- ---- a token comes

more_alike : (ours : List ℕ → Bool) (k : CachedToken) (h l : List CachedToken) → KeepAlike ours h l → KeepAlike ours (h ++ k ∷ []) (l ++ k ∷ [])
more_alike ours k h l alike =
    filter-append (is_ours ours) h (k ∷ []) ∙ (ap (λ (xs : List CachedToken). xs ++ filter (is_ours ours) (k ∷ [])) alike ∙ sym (filter-append (is_ours ours) l (k ∷ [])))

by_alike : (ours : List ℕ → Bool) (v : Keeping) (k : CachedToken) (h l : List CachedToken) → KeepAlike ours h l → KeepAlike ours (history_by v k h) (history_by v k l)
by_alike ours keeping.Kept k h l alike = more_alike ours k h l alike
by_alike ours keeping.NoSuchAsk k h l alike = alike
by_alike ours (keeping.AudienceLong n) k h l alike = alike
by_alike ours (keeping.Unfit u) k h l alike = alike

token_alike : (ours : List ℕ → Bool) (asks : List Ask) (a : JwtAsk) (now : ℕ) (kept given : Option JwtToken) (h l : List CachedToken) → KeepAlike ours h l
    → KeepAlike ours (history_after_token asks a now kept given h) (history_after_token asks a now kept given l)
token_alike ours asks a now (Some kept) given h l alike = alike
token_alike ours asks a now None None h l alike = alike
token_alike ours asks a now None (Some t) h l alike = by_alike ours (keep_verdict now asks a.ask a.audience t) (cached_token_of a.ask a.audience t) h l alike

-- the ask that waits is for an entry inside the set, or outside it
abbrev pub AskIs : (List ℕ → Bool) → Bool → Option JwtAsk → Type 0
AskIs ours inside None = Unit {0}
AskIs ours inside (Some a) = ours a.ask.entry_id ≡ inside

-- an ask for an entry of the set is answered alike
pub answered_alike : (ours : List ℕ → Bool) (o : Option JwtAsk) (m n : Stored) (now : ℕ) (given : Option JwtToken) (h l : List CachedToken) → m.store.entries ≡ n.store.entries → m.store.renew_before ≡ n.store.renew_before → AskIs ours true o → KeepAlike ours h l
    → KeepAlike ours (history_answered o m now given h) (history_answered o n now given l)
answered_alike ours None m n now given h l entries renew is alike = alike
answered_alike ours (Some a) m n now given h l entries renew is alike =
    token_alike ours (asks_of m.store.entries) a now (kept_token (tokens_of m h) a now) given h l alike
    ∙ (λ i. filter (is_ours ours) (history_after_token (asks_of (entries i)) a now (kept_same ours m n h l a now renew alike is i) given l))

one_foreign : (b : Bool) (k : CachedToken) → b ≡ false → cond b (k ∷ []) [] ≡ []
one_foreign true k is = absurd (cc is)
one_foreign false k is = refl

more_foreign : (ours : List ℕ → Bool) (k : CachedToken) (h : List CachedToken) → ours k.ask.entry_id ≡ false → KeepAlike ours (h ++ k ∷ []) h
more_foreign ours k h is =
    filter-append (is_ours ours) h (k ∷ [])
    ∙ (ap (λ (xs : List CachedToken). filter (is_ours ours) h ++ xs) (one_foreign (ours k.ask.entry_id) k is) ∙ append-nil (filter (is_ours ours) h))

by_foreign : (ours : List ℕ → Bool) (v : Keeping) (k : CachedToken) (h : List CachedToken) → ours k.ask.entry_id ≡ false → KeepAlike ours (history_by v k h) h
by_foreign ours keeping.Kept k h is = more_foreign ours k h is
by_foreign ours keeping.NoSuchAsk k h is = refl
by_foreign ours (keeping.AudienceLong n) k h is = refl
by_foreign ours (keeping.Unfit u) k h is = refl

token_foreign : (ours : List ℕ → Bool) (asks : List Ask) (a : JwtAsk) (now : ℕ) (kept given : Option JwtToken) (h : List CachedToken) → ours a.ask.entry_id ≡ false → KeepAlike ours (history_after_token asks a now kept given h) h
token_foreign ours asks a now (Some kept) given h is = refl
token_foreign ours asks a now None None h is = refl
token_foreign ours asks a now None (Some t) h is = by_foreign ours (keep_verdict now asks a.ask a.audience t) (cached_token_of a.ask a.audience t) h is

-- of a foreign ask no token of the set is kept
pub answered_foreign : (ours : List ℕ → Bool) (o : Option JwtAsk) (m : Stored) (now : ℕ) (given : Option JwtToken) (h : List CachedToken) → AskIs ours false o → KeepAlike ours (history_answered o m now given h) h
answered_foreign ours None m now given h is = refl
answered_foreign ours (Some a) m now given h is = token_foreign ours (asks_of m.store.entries) a now (kept_token (tokens_of m h) a now) given h is
