-- What is at a key that is not among those that differ is the same in both lists.
use Rattle.std.specs.Prelude.{◌≡◌, ℕ, Bool, true, false, List, [], ◌++◌, is_some, Option, Some, None}
use Rattle.std.proofs.Common.{refl, sym, ◌∙◌, ap, subst}
use Rattle.wl_subscribe.proofs.Common.{item_at, has_text, entry_key, Publication}
use Rattle.wl_selector.proofs.Members.{front_out, back_out}
use Rattle.wl_entry.specs.Keys.{svid_key}
use Rattle.wl_entry.specs.Same.{same_entry, same_svid}
use Rattle.wl_entry.proofs.Sames.{entry_is, svid_is}
use Rattle.wl_entry.proofs.FoundAtKeys.{found_passes}
use Rattle.wl_snapshot.specs.Untouched.{SameBut}
use Rattle.wl_subscribe.specs.Differing.{is_item, keys_gone, keys_new}
use Rattle.wl_subscribe.proofs.ByKey.{key_found}

-- ---- an item of none of these keys

item_is : {X : Type 0} (test : X → X → Bool) → ((x y : X) → test x y ≡ true → x ≡ y) → (found : Option X) (x : X) → is_item test found x ≡ true → found ≡ Some x
item_is test decides None x is = cc is
item_is test decides (Some y) x is = ap Some (decides y x is)

untouched_go : {X : Type 0} (test : X → X → Bool) (key : X → List ℕ) → ((x y : X) → test x y ≡ true → x ≡ y) → (before after : List X) (id : List ℕ) (old new : Option X) → item_at key before id ≡ old → item_at key after id ≡ new
    → has_text (keys_gone test key before after) id ≡ false → has_text (keys_new key before after) id ≡ false → new ≡ old
unfolding keys_gone keys_new
untouched_go test key decides before after id None None was is gone fresh = refl
untouched_go test key decides before after id (Some x) new was is gone fresh =
    let passed : is_item test (item_at key after (key x)) x ≡ true = found_passes key (λ y. is_item test (item_at key after (key y)) y) id before x gone was in
    sym is ∙ item_is test decides (item_at key after id) x (subst (λ k. is_item test (item_at key after k) x ≡ true) (key_found key before id x was) passed)
untouched_go test key decides before after id None (Some y) was is gone fresh =
    let passed : is_some (item_at key before (key y)) ≡ true = found_passes key (λ z. is_some (item_at key before (key z))) id after y fresh is in
    let there : is_some (item_at key before id) ≡ true = subst (λ k. is_some (item_at key before k) ≡ true) (key_found key after id y is) passed in
    cc (sym (ap is_some was) ∙ there)

untouched : {X : Type 0} (test : X → X → Bool) (key : X → List ℕ) → ((x y : X) → test x y ≡ true → x ≡ y) → (before after : List X) (id : List ℕ)
    → has_text (keys_gone test key before after) id ≡ false → has_text (keys_new key before after) id ≡ false → item_at key after id ≡ item_at key before id
untouched test key decides before after id gone fresh = untouched_go test key decides before after id (item_at key before id) (item_at key after id) refl refl gone fresh

-- the ids of the entries and of the SVIDs that differ
abbrev pub ids_differing : Publication → Publication → List (List ℕ)
ids_differing old new =
    ((([] ++ keys_gone same_entry entry_key old.entries new.entries) ++ keys_new entry_key old.entries new.entries) ++ keys_gone same_svid svid_key old.svids new.svids) ++ keys_new svid_key old.svids new.svids

pub same_but : (ids : List (List ℕ)) (old new : Publication) → ids ≡ ids_differing old new → SameBut ids old new
same_but ids old new are =
    let gone_e = keys_gone same_entry entry_key old.entries new.entries in
    let new_e = keys_new entry_key old.entries new.entries in
    let gone_s = keys_gone same_svid svid_key old.svids new.svids in
    let new_s = keys_new svid_key old.svids new.svids in
    record {
      entries = λ id out.
          let at : has_text (ids_differing old new) id ≡ false = subst (λ l. has_text l id ≡ false) are out in
          let first = front_out (([] ++ gone_e) ++ new_e) gone_s id (front_out ((([] ++ gone_e) ++ new_e) ++ gone_s) new_s id at) in
          untouched same_entry entry_key entry_is old.entries new.entries id (front_out ([] ++ gone_e) new_e id first) (back_out ([] ++ gone_e) new_e id first);
      svids = λ id out.
          let at : has_text (ids_differing old new) id ≡ false = subst (λ l. has_text l id ≡ false) are out in
          untouched same_svid svid_key svid_is old.svids new.svids id (back_out (([] ++ gone_e) ++ new_e) gone_s id (front_out ((([] ++ gone_e) ++ new_e) ++ gone_s) new_s id at)) (back_out ((([] ++ gone_e) ++ new_e) ++ gone_s) new_s id at);
    }
