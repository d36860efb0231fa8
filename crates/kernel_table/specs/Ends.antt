-- The ends of a TCP connection, as the kernel writes them into its table (Linux, Documentation/networking/proc_net_tcp).
use Rattle.std.specs.Prelude.{ℕ, ◌+◌, ◌/◌, ◌%◌, nat_lt, if◌then◌else◌, List, [], ◌∷◌, ◌++◌}
use Rattle.std.specs.declared.net.ip_addr.IpAddr.{IpAddr}
use Rattle.std.specs.declared.net.ip_addr.IpAddr.TheVariants.{V4, V6}
use Rattle.std.specs.declared.net.socket_addr.SocketAddr.{SocketAddr}
use Rattle.std.specs.Net.Addr.{ipv4_octets, ipv6_octets}
use Rattle.std.specs.Net.Socket.{socket_ip, socket_port}

-- a hexadecimal digit: `0` to `9`, `A` to `F`
abbrev pub digit : ℕ → ℕ
digit n = if nat_lt n 10 then 48 + n else 55 + n

-- a byte
abbrev pub byte_text : ℕ → List ℕ
byte_text b = digit (b / 16) ∷ digit (b % 16) ∷ []

-- Four bytes of an address: a number as this machine has it in memory, the lowest byte first. So `0100007F` is 127.0.0.1.
abbrev pub word_text : ℕ → ℕ → ℕ → ℕ → List ℕ
word_text a b c d = byte_text d ++ byte_text c ++ byte_text b ++ byte_text a

-- an address, four bytes after four
abbrev pub address_text : List ℕ → List ℕ
address_text [] = []
address_text (a ∷ []) = []
address_text (a ∷ b ∷ []) = []
address_text (a ∷ b ∷ c ∷ []) = []
address_text (a ∷ b ∷ c ∷ d ∷ octets) = word_text a b c d ++ address_text octets

-- a port, the higher byte first
abbrev pub port_text : ℕ → List ℕ
port_text port = byte_text (port / 256) ++ byte_text (port % 256)

-- the bytes of an address, in the network's order
abbrev pub octets_of : IpAddr → List ℕ
octets_of (V4 address) = ipv4_octets address
octets_of (V6 address) = ipv6_octets address

-- an end: its address, a colon, its port
unfoldable pub end_text : SocketAddr → List ℕ
end_text end = address_text (octets_of (socket_ip end)) ++ 58 ∷ port_text (socket_port end)
