-- Reading a request field by field.
use Rattle.std.proofs.Common.{◌≡◌, ℕ, List, [], ◌∷◌, Option, Some, Result, Err, refl, append_assoc}
use Rattle.std.proofs.lemmas.List.{append-nil}
use Rattle.pb_wire.specs.declared.fault.FieldFault.{FieldFault}
use Rattle.pb_wire.specs.declared.fault.FieldFault.TheVariants.{Wire, FieldKind, NotUtf8, Memory}
use Rattle.pb_wire.specs.declared.field.Field.{Field}
use Rattle.pb_wire.specs.Message.{text_in, texts_in}
use Rattle.pb_wire.specs.Strings.{Fails}
use Rattle.pb_wire.proofs.Messages.{texts_in-none, texts_in-more, last_of-append}
use Rattle.workload_proto.specs.declared.message.JwtRequest.{JwtRequest}
use Rattle.workload_proto.specs.Requests.{asked_in}
use Rattle.workload_proto.specs.Steps.{StepFails, asked_more}

pub asked_in-more : (bytes : List ℕ) (m : JwtRequest) (f : Field) (fs : List Field) → asked_in bytes (asked_more bytes m f) fs ≡ asked_in bytes m (f ∷ fs)
unfolding asked_in asked_more
asked_in-more bytes m f fs =
    rw (texts_in-more 1 bytes f fs, texts_in-more 2 bytes f fs, last_of-append m.spiffe_id (text_in 2 bytes f) (texts_in 2 bytes fs), append_assoc m.audience (text_in 1 bytes f) (texts_in 1 bytes fs)) refl

pub asked_in-none : (bytes : List ℕ) (m : JwtRequest) → asked_in bytes m [] ≡ m
unfolding asked_in
asked_in-none bytes m = rw (texts_in-none 1 bytes, texts_in-none 2 bytes, append-nil m.audience) refl

-- a step's fault is the first one
pub step_fails : {A : Type 0} (e : FieldFault) (fault : Option FieldFault) (said : Result A FieldFault) → ((d : FieldFault) → fault ≡ Some d → said ≡ Err d) → StepFails e fault → Fails e said
step_fails Memory fault said is fails = tt
step_fails (Wire w) fault said is fails = is (Wire w) fails
step_fails (FieldKind n) fault said is fails = is (FieldKind n) fails
step_fails (NotUtf8 n) fault said is fails = is (NotUtf8 n) fails
