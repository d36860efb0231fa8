-- From what the code keeps of a certificate to its leaf.
use Rattle.std.proofs.Common.{◌≡◌, ℕ, List, Result, Ok, Err, refl, sym, ap, ◌∙◌}
use Rattle.wl_x509.proofs.Common.{CertFault, Truncated, Length, Extra, ManyUris, Span, Frame, Leaf, ◌>>=◌, frame_of, extensions_part, signature_at, one_uri, leaf_of}
use Rattle.wl_entry.specs.declared.unfit.CertFault.TheVariants.{Tag, Time, NoUri, Memory}
use Rattle.wl_x509.specs.declared.names.Uris.{Uris}
use Rattle.wl_x509.specs.Leaves.{Refuses}
use Rattle.wl_x509.specs.Tallies.{no_uris, tallied, chosen, found_in}
use Rattle.wl_x509.specs.Certificates.{IsOnlyLeafOf, HasNoLeaf}
use Rattle.wl_x509.proofs.Tallies.{chosen_is}
use Rattle.wl_x509.proofs.RoundTrips.{certificate_again}

-- the leaf of a frame and of the URIs that were met
abbrev pub leaf_by : List ℕ → Frame × Uris → Result Leaf CertFault
leaf_by chain f = chosen chain f.1 >>= λ uri. Ok (record { uri = uri; not_before = (f.0).before; not_after = (f.0).after })

behind_uris : (chain : List ℕ) (frame : Frame) (uris : Result (List Span) CertFault) (signature : Result ℕ CertFault)
    → (uris >>= λ us. signature >>= λ _. one_uri chain us >>= λ uri. Ok (record { uri = uri; not_before = frame.before; not_after = frame.after }))
    ≡ ((tallied no_uris uris >>= λ found. signature >>= λ _. Ok (frame, found)) >>= leaf_by chain)
behind_uris chain frame (Err e) signature = refl
behind_uris chain frame (Ok us) (Err e) = refl
behind_uris chain frame (Ok us) (Ok n) = ap (λ (r : Result (List ℕ) CertFault). r >>= λ uri. Ok (record { uri = uri; not_before = frame.before; not_after = frame.after })) (sym (chosen_is chain us))

behind_frame : (chain : List ℕ) (frame : Result Frame CertFault)
    → (frame >>= λ f. extensions_part chain f.at f.body >>= λ us. signature_at chain f.body f.whole >>= λ _. one_uri chain us >>= λ uri. Ok (record { uri = uri; not_before = f.before; not_after = f.after }))
    ≡ ((frame >>= λ f. tallied no_uris (extensions_part chain f.at f.body) >>= λ found. signature_at chain f.body f.whole >>= λ _. Ok (f, found)) >>= leaf_by chain)
behind_frame chain (Err e) = refl
behind_frame chain (Ok f) = behind_uris chain f (extensions_part chain f.at f.body) (signature_at chain f.body f.whole)

pub leaf_found : (chain : List ℕ) → leaf_of chain ≡ (found_in chain >>= leaf_by chain)
unfolding leaf_of found_in
leaf_found chain = behind_frame chain (frame_of chain)

-- a fault is owed what holds
pub refuses : {due : Type 0} (e : CertFault) → due → Refuses e due
refuses Memory h = tt
refuses (Truncated at) h = h
refuses (Tag at) h = h
refuses (Length at) h = h
refuses (Time at) h = h
refuses (Extra at) h = h
refuses NoUri h = h
refuses (ManyUris n) h = h

-- and what follows from what it is owed
pub refuses_so : {due more : Type 0} (e : CertFault) → (due → more) → Refuses e due → Refuses e more
refuses_so Memory so h = tt
refuses_so (Truncated at) so h = so h
refuses_so (Tag at) so h = so h
refuses_so (Length at) so h = so h
refuses_so (Time at) so h = so h
refuses_so (Extra at) so h = so h
refuses_so NoUri so h = so h
refuses_so (ManyUris n) so h = so h

-- ---- at the exits of `read_leaf`

pub leaf_ok : (chain : List ℕ) (frame : Frame) (found : Uris) (uri : List ℕ) → Ok (frame, found) ≡ found_in chain → chosen chain found ≡ Ok uri
    → leaf_of chain ≡ Ok (record { uri = uri; not_before = frame.before; not_after = frame.after })
leaf_ok chain frame found uri is one = leaf_found chain ∙ rw (← is) (rw one refl)

pub leaf_err : (chain : List ℕ) (e : CertFault) → Err e ≡ found_in chain → Refuses e (leaf_of chain ≡ Err e)
leaf_err chain e is = refuses e (leaf_found chain ∙ rw (← is) refl)

pub leaf_uri_err : (chain : List ℕ) (frame : Frame) (found : Uris) (e : CertFault) → Ok (frame, found) ≡ found_in chain
    → Refuses e (chosen chain found ≡ Err e) → Refuses e (leaf_of chain ≡ Err e)
leaf_uri_err chain frame found e is = refuses_so e (λ (h : chosen chain found ≡ Err e). leaf_found chain ∙ rw (← is) (rw h refl))

-- ---- what the answer says of the chain

no_leaf : (chain : List ℕ) (e : CertFault) → leaf_of chain ≡ Err e → HasNoLeaf chain
no_leaf chain e h leaf is = let wrong : Err e ≡ Ok leaf = sym h ∙ certificate_again chain leaf is in cc

pub refuses_leaf : (chain : List ℕ) (e : CertFault) → Refuses e (leaf_of chain ≡ Err e) → Refuses e (HasNoLeaf chain)
refuses_leaf chain e = refuses_so e (no_leaf chain e)

pub only_leaf : (chain : List ℕ) (leaf : Leaf) → leaf_of chain ≡ Ok leaf → IsOnlyLeafOf chain leaf
only_leaf chain leaf h other is = let same : Ok other ≡ Ok leaf = sym (certificate_again chain other is) ∙ h in cc
