use Rattle.std.proofs.Common.{◌≡◌, ℕ, List, [], ◌∷◌, ◌++◌, codes, ◌∙◌, ap, append_assoc}
use Rattle.wl_control.specs.Escapes.{hex, escaped}
use Rattle.wl_control.specs.Lines.{svid_line}
use Rattle.wl_control.proofs.lines.put_svid.Goals as goal

-- seven texts after each other, of which four are a name and a value
joined : (o a b c v d w e x f y z o1 o2 o3 o4 o5 o6 o7 : List ℕ) → o1 ≡ o ++ a → o2 ≡ o1 ++ b → o3 ≡ o2 ++ c ++ v → o4 ≡ o3 ++ d ++ w → o5 ≡ o4 ++ e ++ x → o6 ≡ o5 ++ f ++ y → o7 ≡ o6 ++ z
    → o7 ≡ o ++ (a ++ b ++ c ++ v ++ d ++ w ++ e ++ x ++ f ++ y ++ z)
joined o a b c v d w e x f y z o1 o2 o3 o4 o5 o6 o7 h1 h2 h3 h4 h5 h6 h7 = rw (h7, h6, h5, h4, h3, h2, h1) (simp append_assoc)

pub returns : goal.returns
unfolding svid_line
returns c =
    let s = c.args.svid.now in
    joined c.args.out.now.items (codes "svid ") (escaped s.spiffe_id) (codes " chain=") (hex s.chain) (codes " key=") (hex s.key) (codes " bundle=") (hex s.bundle) (codes " hint=") (hex s.hint) (10 ∷ [])
    c.extend_from_slice.new.self.items c.put_escaped.new.out.items c.put_part.new.out.items c.put_part-2.new.out.items c.put_part-3.new.out.items c.put_part-4.new.out.items c.push.new.self.items
    c.in_ok-extend_from_slice.ensures.items
    (c.in_ok-put_escaped.ensures ∙ ap (λ (xs : List ℕ). c.extend_from_slice.new.self.items ++ escaped xs) c.as_slice.ensures)
    (c.in_ok-put_part.ensures ∙ ap (λ (xs : List ℕ). c.put_escaped.new.out.items ++ codes " chain=" ++ hex xs) c.as_slice-2.ensures)
    (c.in_ok-put_part-2.ensures ∙ ap (λ (xs : List ℕ). c.put_part.new.out.items ++ codes " key=" ++ hex xs) c.as_slice-3.ensures)
    (c.in_ok-put_part-3.ensures ∙ ap (λ (xs : List ℕ). c.put_part-2.new.out.items ++ codes " bundle=" ++ hex xs) c.as_slice-4.ensures)
    (c.in_ok-put_part-4.ensures ∙ ap (λ (xs : List ℕ). c.put_part-3.new.out.items ++ codes " hint=" ++ hex xs) c.as_slice-5.ensures)
    c.in_ok-push.ensures.items
