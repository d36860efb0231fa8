-- What was written is read back, whatever follows it.
use Rattle.std.proofs.Common.{◌≡◌, ℕ, ◌+◌, ◌*◌, ◌^◌, ◌<◌, ◌≤◌, List, ◌++◌, length, drop, Ok, refl, append_assoc, length-append, arith}
use Rattle.pb_wire.specs.declared.field.TheConstants.{MAX_FIELD_NUMBER}
use Rattle.pb_wire.specs.Varint.{varint}
use Rattle.pb_wire.specs.Spelling.{field}
use Rattle.pb_wire.specs.Grammar.{IsField, bytes_field, varint_field}
use Rattle.pb_wire.specs.Reading.{field_at}
use Rattle.pb_wire.proofs.Varints.{varint_encodes}
use Rattle.pb_wire.proofs.Fields.{field_again}

is_bytes_field : (at number : ℕ) (content : List ℕ) → 1 ≤ number → number ≤ MAX_FIELD_NUMBER → length content < 2 ^ 64 → IsField at (field number content) (bytes_field at number content)
is_bytes_field at number content least most fits = record {
  tag = varint (8 * number + 2);
  content = varint (length content) ++ content;
  parts = append_assoc (varint (8 * number + 2)) (varint (length content)) content;
  least = least;
  most = most;
  is_tag = varint_encodes (8 * number + 2) (omega arith);
  is_value = record {
    size = varint (length content);
    content = content;
    parts = refl;
    is_size = varint_encodes (length content) fits;
    is_content = refl;
    is_start = omega (arith, length-append (varint (8 * number + 2)) (varint (length content)));
  };
  behind = refl;
}

pub bytes_back : (bytes : List ℕ) (at number : ℕ) (content rest : List ℕ) → 1 ≤ number → number ≤ MAX_FIELD_NUMBER → length content < 2 ^ 64 → drop at bytes ≡ field number content ++ rest → field_at bytes at ≡ Ok (bytes_field at number content)
bytes_back bytes at number content rest least most fits e =
    field_again bytes at (bytes_field at number content) (field number content) rest e (is_bytes_field at number content least most fits)

is_varint_field : (at number n : ℕ) → 1 ≤ number → number ≤ MAX_FIELD_NUMBER → n < 2 ^ 64 → IsField at (varint (8 * number) ++ varint n) (varint_field at number n)
is_varint_field at number n least most fits = record {
  tag = varint (8 * number);
  content = varint n;
  parts = refl;
  least = least;
  most = most;
  is_tag = let none : 8 * number + 0 ≡ 8 * number = omega arith in rw none (varint_encodes (8 * number) (omega arith));
  is_value = varint_encodes n fits;
  behind = refl;
}

pub varint_back : (bytes : List ℕ) (at number n : ℕ) (rest : List ℕ) → 1 ≤ number → number ≤ MAX_FIELD_NUMBER → n < 2 ^ 64 → drop at bytes ≡ (varint (8 * number) ++ varint n) ++ rest → field_at bytes at ≡ Ok (varint_field at number n)
varint_back bytes at number n rest least most fits e =
    field_again bytes at (varint_field at number n) (varint (8 * number) ++ varint n) rest e (is_varint_field at number n least most fits)
