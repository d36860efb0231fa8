-- Loopback addresses with a port, as texts: an address of 127.0.0.0/8 (RFC 1122, section 3.2.1.3) or ::1 (RFC 4291, section
-- 2.5.3) as the host of a URI has it (RFC 3986, section 3.2.2), a colon, and a port.
use Rattle.std.specs.Prelude.{ℕ, ◌+◌, ◌<◌, ◌==◌, ◌&&◌, nat_eq, nat_lt, if◌then◌else◌, List, [], ◌∷◌, length, take, drop, codes, position, Option, Some, None}
use Rattle.std.specs.List.{starts_with, slice_split}
use Rattle.std.specs.Str.{bytes_eq}
use Rattle.std.specs.declared.net.ip_addr.IpAddr.{IpAddr}
use Rattle.std.specs.declared.net.ip_addr.IpAddr.TheVariants as ip
use Rattle.std.specs.declared.net.socket_addr.SocketAddr.{SocketAddr}
use Rattle.std.specs.declared.net.socket_addr.SocketAddr.TheVariants.{V4, V6}
use Rattle.std.specs.Net.Addr.{IsLoopbackV4, IsLoopbackV6}
use Rattle.std.specs.Net.Socket.{socket_ip, socket_port}
use Rattle.decimal_text.specs.Decimals.{number_up_to}

-- a decimal number at most the limit, with no zero before it
unfoldable pub plain_number : ℕ → List ℕ → Option ℕ
plain_number limit text = if nat_lt 1 (length text) && starts_with nat_eq text (codes "0") then None else number_up_to limit text

abbrev pub other_than_zero : Option ℕ → Option ℕ
other_than_zero None = None
other_than_zero (Some n) = if n == 0 then None else Some n

-- a port: 1 to 65535
abbrev pub port_of : List ℕ → Option ℕ
port_of text = other_than_zero (plain_number 65535 text)

-- 127.B.C.D
abbrev pub ipv4_by : Option ℕ → Option ℕ → Option ℕ → Option IpAddr
ipv4_by (Some b) (Some c) (Some d) = Some (ip.V4 (record { octets = 127 ∷ b ∷ c ∷ d ∷ [] }))
ipv4_by _ _ _ = None

-- four numbers, the first of them 127
abbrev pub ipv4_of : List (List ℕ) → Option IpAddr
ipv4_of (a ∷ b ∷ c ∷ d ∷ []) = if bytes_eq a (codes "127") then ipv4_by (plain_number 255 b) (plain_number 255 c) (plain_number 255 d) else None
ipv4_of _ = None

-- ::1
abbrev pub ipv6_localhost : IpAddr
ipv6_localhost = ip.V6 (record { segments = 0 ∷ 0 ∷ 0 ∷ 0 ∷ 0 ∷ 0 ∷ 0 ∷ 1 ∷ [] })

-- an address with a port, with no flow label and no scope
abbrev pub socket_at : IpAddr → ℕ → SocketAddr
socket_at (ip.V4 address) port = V4 (record { ip = address; port = port })
socket_at (ip.V6 address) port = V6 (record { ip = address; port = port; flowinfo = 0; scope_id = 0 })

abbrev pub end_of : Option IpAddr → Option ℕ → Option SocketAddr
end_of (Some address) (Some port) = Some (socket_at address port)
end_of _ _ = None

-- `127.B.C.D:PORT`, by its first colon
abbrev pub ipv4_end_of : List ℕ → Option ℕ → Option SocketAddr
ipv4_end_of text None = None
ipv4_end_of text (Some at) = end_of (ipv4_of (slice_split (λ b. b == 46) (take at text))) (port_of (drop (at + 1) text))

-- `[::1]:PORT`, or the former
unfoldable pub loopback_of : List ℕ → Option SocketAddr
loopback_of text =
    if starts_with nat_eq text (codes "[::1]:") then end_of (Some ipv6_localhost) (port_of (drop 6 text))
    else ipv4_end_of text (position (λ b. b == 58) text)

-- an address of these
abbrev pub IsLoopbackIp : IpAddr → Type 0
IsLoopbackIp (ip.V4 address) = IsLoopbackV4 address
IsLoopbackIp (ip.V6 address) = IsLoopbackV6 address

-- and a port
pub record IsLoopbackEnd (end : SocketAddr) : Type 0 where
  pub address : IsLoopbackIp (socket_ip end)
  pub port : 0 < socket_port end
