-- Reading a request field by field.
use Rattle.std.proofs.Common.{◌≡◌, ℕ, List, [], ◌∷◌, refl}
use Rattle.pb_wire.specs.declared.field.Field.{Field}
use Rattle.pb_wire.specs.Message.{text_in, texts_in, last_of}
use Rattle.pb_wire.proofs.Messages.{texts_in-none, texts_in-more, last_of-append}
use Rattle.wl_health.specs.Messages.{asked_in}

pub asked_in-more : (bytes before : List ℕ) (f : Field) (fs : List Field) → asked_in bytes (last_of before (text_in 1 bytes f)) fs ≡ asked_in bytes before (f ∷ fs)
unfolding asked_in
asked_in-more bytes before f fs = rw (texts_in-more 1 bytes f fs, last_of-append before (text_in 1 bytes f) (texts_in 1 bytes fs)) refl

pub asked_in-none : (bytes before : List ℕ) → asked_in bytes before [] ≡ before
unfolding asked_in
asked_in-none bytes before = rw (texts_in-none 1 bytes) refl
