-- A block of PEM is read back.
use Rattle.std.proofs.Common.{◌≡◌, ◌∙◌, ℕ, true, refl, ap, ap₂, List, Ok}
use Rattle.base64.specs.Engines.{standard}
use Rattle.base64.specs.GeneralPurpose.{encode_of, decode_of, IsBytes}
use Rattle.base64.specs.Decode.{decode_outcome}
use Rattle.base64.proofs.RoundTrip.{decode-encode}
use Rattle.pem_text.specs.Pem.{lines_from, joined}
use Rattle.pem_text.proofs.Back.{body_joins}

decoded : (der : List ℕ) → IsBytes der → decode_of standard (encode_of standard der) ≡ Ok der
decoded der bytes =
    let back = decode-encode standard.encode_table standard.decode_table der standard.padding.value standard.config.decode_allow_trailing_bits standard.config.decode_padding_mode standard.config.encode_padding refl bytes refl in
    ap₂ decode_outcome back.0 back.1

pub block_is_read_back : (der : List ℕ) → IsBytes der → decode_of standard (joined (lines_from 0 (encode_of standard der))) ≡ Ok der
block_is_read_back der bytes = ap (decode_of standard) (body_joins der) ∙ decoded der bytes
