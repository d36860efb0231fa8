-- Where a fault of a configuration is (own rule), beside the places of a document. The top, part 0, has the fields
-- 0 the whole, 1 `version`, 2 `upstream`, 3 `signer`, 4 `poll_seconds`, 5 `sockets`, 6 `signers`, 7 `log`, 8 `metrics`.
use Rattle.std.specs.Prelude.{ℕ}
use Rattle.wl_document.specs.declared.fault.Place.{Place}

-- part 4, a socket: 0 the item, 1 `path`, 2 `workers`, 3 `selectors`, 4 `owner`, 5 `group`, 6 `mode`, 7 `uids`,
-- 8 `connections`, 9 `tcp`, 10 `connections_per_uid`
abbrev pub at_socket : ℕ → ℕ → Place
at_socket index field = record { part = 4; index = index; field = field; item = 0 }
