-- An audience in a name.
use Rattle.std.proofs.Common.{◌≡◌, ◌≢◌, ℕ, ◌<◌, List, All, true, refl, arith}
use Rattle.percent_encoding.specs.AsciiSet.{should_percent_encode}
use Rattle.percent_encoding.specs.Percent.{percent_decode}
use Rattle.percent_encoding.proofs.PercentLemmas.{round_trip, All-percent_encode}
use Rattle.token_files.specs.declared.names.TheConstants.{RESERVED}
use Rattle.token_files.specs.Names.{encoded}

pub read_back : (audience : List ℕ) → All (λ b. b < 256) audience → percent_decode (encoded audience) ≡ audience
unfolding encoded
read_back audience small = round_trip RESERVED audience refl small

slash_is_encoded : should_percent_encode RESERVED 47 ≡ true
unfolding should_percent_encode
slash_is_encoded = refl

pub no_path : (audience : List ℕ) → All (λ b. b ≢ 47) (encoded audience)
unfolding encoded
no_path audience = All-percent_encode (λ b. b ≢ 47) RESERVED audience (λ b kept. grind (arith, slash_is_encoded)) (λ b digit. grind arith)
