-- The rows of the kernel's table of TCP connections, /proc/net/tcp and /proc/net/tcp6 (Linux,
-- Documentation/networking/proc_net_tcp): a line each, whose words are its number, the local end, the remote end, the state, the
-- queues, the timer, the retransmits, the uid, and more.
use Rattle.std.specs.Prelude.{ℕ, ◌-◌, ◌^◌, ◌==◌, ◌&&◌, Bool, false, not, List, [], ◌∷◌, length, codes, Option, Some, None, option_and_then}
use Rattle.std.specs.List.{filter, slice_split, slice_get}
use Rattle.std.specs.Str.{bytes_eq}
use Rattle.std.specs.declared.net.socket_addr.SocketAddr.{SocketAddr}
use Rattle.decimal_text.specs.Decimals.{number_up_to}
use Rattle.kernel_table.specs.Ends.{end_text}

-- the words of a line, parted by spaces
abbrev pub words_of : List ℕ → List (List ℕ)
words_of line = filter (λ w. not (length w == 0)) (slice_split (λ b. b == 32) line)

abbrev pub word_at : ℕ → List ℕ → Option (List ℕ)
word_at place line = slice_get (words_of line) place

-- a word is there, and is this text
abbrev pub is_text : List ℕ → Option (List ℕ) → Bool
is_text text None = false
is_text text (Some word) = bytes_eq word text

abbrev pub says : ℕ → List ℕ → List ℕ → Bool
says place text line = is_text text (word_at place line)

-- the row of the connection with these ends, in the state ESTABLISHED (1 in include/net/tcp_states.h)
unfoldable pub is_of : List ℕ → List ℕ → List ℕ → Bool
is_of local remote line = says 1 local line && (says 2 remote line && says 3 (codes "01") line)

-- the rows of that connection
abbrev pub rows_of : List ℕ → List ℕ → List ℕ → List (List ℕ)
rows_of local remote table = filter (is_of local remote) (slice_split (λ b. b == 10) table)

-- the uid that a row names
abbrev pub uid_in : List ℕ → Option ℕ
uid_in row = option_and_then (number_up_to (2 ^ 32 - 1)) (word_at 7 row)

-- the uid of the only row
abbrev pub only_uid : List (List ℕ) → Option ℕ
only_uid [] = None
only_uid (row ∷ []) = uid_in row
only_uid (row ∷ other ∷ more) = None

-- the uid of who has the local end of the connection with these ends
unfoldable pub uid_of : List ℕ → SocketAddr → SocketAddr → Option ℕ
uid_of table local remote = only_uid (rows_of (end_text local) (end_text remote) table)
