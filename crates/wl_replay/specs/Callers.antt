-- What a caller of a simulation sends (own rule; RFC 9113, sections 3.4 and 6; RFC 7541, section 6).
use Rattle.std.specs.Prelude.{ℕ, List, [], ◌∷◌, ◌++◌, codes, replicate}
use Rattle.h2_wire.specs.Encoding.{frame_bytes}
use Rattle.h2_wire.specs.declared.flag.TheConstants.{END_STREAM, END_HEADERS}
use Rattle.h2_wire.specs.declared.frame_type.TheConstants.{DATA, HEADERS, SETTINGS, PING}

-- the head of a FetchX509SVID call: :method POST, :scheme http and then literals that are not indexed
abbrev pub head_block : List ℕ
head_block =
    0x83 ∷ 0x86
    ∷ 4 ∷ 32 ∷ codes "/SpiffeWorkloadAPI/FetchX509SVID"
    ++ 1 ∷ 9 ∷ codes "localhost"
    ++ 15 ∷ 16 ∷ 16 ∷ codes "application/grpc"
    ++ 0 ∷ 2 ∷ codes "te" ++ 8 ∷ codes "trailers"
    ++ 0 ∷ 18 ∷ codes "workload.spiffe.io" ++ 4 ∷ codes "true"

-- the preface, SETTINGS without a pair, that head, and the empty message as DATA that ends the request
unfoldable pub opening : List ℕ
opening =
    codes "PRI * HTTP/2.0\r\n\r\nSM\r\n\r\n"
    ++ frame_bytes SETTINGS 0 0 []
    ++ frame_bytes HEADERS END_HEADERS 1 head_block
    ++ frame_bytes DATA END_STREAM 1 (replicate 5 0)

unfoldable pub ping : List ℕ
ping = frame_bytes PING 0 0 (replicate 8 0)
