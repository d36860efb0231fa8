-- Views and messages that connections share.
use Rattle.std.proofs.Common.{◌≡◌, inl, inr, ℕ, true, List, [], ◌∷◌, ◌++◌, Option, Some, None, option_map, sym, ap, subst, ◌∙◌}
use Rattle.list_laws.proofs.Elements.{all_append}
use Rattle.list_laws.proofs.Equality.{numbers_are}
use Rattle.wl_session.proofs.Common.{Publication, ViewModel, view_in, Method3}
use Rattle.wl_session.specs.declared.shared_views.KeptView.{KeptView}
use Rattle.wl_session.specs.declared.shared_views.KeptMessage.{KeptMessage}
use Rattle.wl_session.specs.Settled.{is_number}
use Rattle.wl_session.specs.Making.{IsMessageOf}
use Rattle.wl_session.specs.Sharing.{SeesIn, IsMessageIn, MayShare, SharesOf, AreViewsIn, AreMessagesIn, AreKept}

-- where the publication has the number of the one that is shown, it is that one
pub shown_here : (x : Publication) (shown : Option Publication) (number : Option ℕ) → number ≡ option_map (λ y. y.number) shown → is_number number x.number ≡ true → MayShare x shown → shown ≡ Some x
shown_here x None number is same may = absurd (cc (is, same))
shown_here x (Some last) number is same may = ap (λ (y : Publication). Some y) (may (numbers_are last.number x.number (subst (λ (n : Option ℕ). is_number n x.number ≡ true) is same)))

pub one_more_view : (shown : Option Publication) (kept : List KeptView) (k : KeptView) → AreViewsIn shown kept → SeesIn shown k.selectors k.view → AreViewsIn shown (kept ++ k ∷ [])
one_more_view shown kept k all is = all_append (λ k. SeesIn shown k.selectors k.view) kept (k ∷ []) all (is, tt)

pub one_more_message : (shown : Option Publication) (kept : List KeptMessage) (k : KeptMessage) → AreMessagesIn shown kept → IsMessageIn shown k.selectors k.method k.message → AreMessagesIn shown (kept ++ k ∷ [])
one_more_message shown kept k all is = all_append (λ k. IsMessageIn shown k.selectors k.method k.message) kept (k ∷ []) all (is, tt)

pub message_on_view : (shown : Option Publication) (sel : List (List ℕ)) (v : ViewModel) (method : Method3) (m : List ℕ) → SeesIn shown sel v → IsMessageIn shown sel method m → IsMessageOf method v m
message_on_view None sel v method m sees is = absurd sees
message_on_view (Some x) sel v method m sees is = subst (λ (w : ViewModel). IsMessageOf method w m) (sym sees) is

pub message_of_view : (shown : Option Publication) (sel : List (List ℕ)) (v : ViewModel) (method : Method3) (m : List ℕ) → SeesIn shown sel v → IsMessageOf method v m → IsMessageIn shown sel method m
message_of_view None sel v method m sees is = sees
message_of_view (Some x) sel v method m sees is = subst (λ (w : ViewModel). IsMessageOf method w m) sees is

-- nothing is kept of a publication that is shown from now on
pub none_kept : (x y : Publication) (n : ℕ) → y ≡ x → n ≡ x.number → AreKept (Some y) (Some n) [] []
none_kept x y n is number = record { numbered = ap (λ (m : ℕ). Some m) (number ∙ sym (ap (λ (z : Publication). z.number) is)); each_view = tt; each_message = tt }

-- a view that is kept for these selectors is what their callers see in the publication
pub found_here : (x : Publication) (shown : Option Publication) (self : Option Publication) (kept : List KeptView) (sel : List (List ℕ)) (v : ViewModel)
    → shown ≡ self → self ≡ Some x → AreViewsIn shown kept → ((s : Option Publication) → AreViewsIn s kept → SeesIn s sel v) → v ≡ view_in x sel
found_here x shown self kept sel v is there all found = subst (λ (s : Option Publication). SeesIn s sel v) (is ∙ there) (found shown all)

-- ---- which publications may share

-- on views of none, any
pub none_may_share : (x : Publication) (shared : Option Publication) → shared ≡ None → MayShare x shared
none_may_share x shared none = subst (MayShare x) (sym none) tt

-- on those of a publication, itself and each of another number
pub others_may_share : (x y : Publication) (old new : Option Publication) → SharesOf x old new → (y.number ≡ x.number → x ≡ y) → MayShare y old → MayShare y new
others_may_share x y old new (inl same) one may = subst (MayShare y) (sym same) may
others_may_share x y old new (inr now) one may = subst (MayShare y) (sym now) (λ is. one (sym is))
