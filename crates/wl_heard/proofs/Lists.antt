-- What the header lists of answers say to a client, and that each block of them is decoded.
use Rattle.std.proofs.Common.{◌≡◌, ℕ, ◌<◌, ◌≤◌, true, false, List, ◌∷◌, ◌++◌, [], Some, None, Result, Ok, refl, arith}
use Rattle.std.specs.Fmt.{digits}
use Rattle.wl_heard.proofs.Common.{Header, HpackFault, Standing, decode_block, block_bytes, TableSizeUpdate, size_update_bytes, response_fields, trailer_fields, refused_fields, Refusal, NoIdentity, LongResponse, Unsigned, Unattested, UnknownService, http_fault, grpc_code, small_head, small_trailers, small_refusal}
use Rattle.hpack.specs.declared.limit.TheConstants.{MAX_LIST_SIZE}
use Rattle.hpack.specs.Tables.{Table, list_size, with_maximum}
use Rattle.hpack.specs.Reading.{block_of, headers_of, block_in, representation_at, integer_at}
use Rattle.hpack.specs.Decoding.{Good, Broken}
use Rattle.hpack.proofs.WrittenBlocks.{block_again}
use Rattle.h2_flow.specs.declared.flow.TableSizeUpdate.TheVariants.{Unasked, Due, Written}
use Rattle.grpc_wire.specs.Answers.{percent_encoded}
use Rattle.grpc_wire.specs.declared.refusal.Refusal.TheVariants.{BadMethod, BadContent, UnknownPath, Compressed, Insecure, Flag, LongRequest, Count, Undecodable, NoAudience, BadId}
use Rattle.wl_client.specs.Statuses.{http_fault_of}

-- ---- lists

-- a list that opens an answer, one that ends it after its head, and one that is all of it
abbrev pub IsHead : List Header → Type 0
IsHead hs = http_fault hs ≡ None

abbrev pub IsEnd : List Header → Type 0
IsEnd hs = (code : ℕ) × (grpc_code hs ≡ Some code)

-- where it is refused by HTTP it says by which number
abbrev pub IsWhole : List Header → Type 0
IsWhole hs = (http_fault hs ≡ None → IsEnd hs) × (http_fault hs ≡ Some 0 → ⊥)

head_says : IsHead response_fields
unfolding response_fields http_fault_of
head_says = refl

last_says : IsEnd (trailer_fields 0 [] false)
unfolding trailer_fields digits
last_says = (0, refl)

-- the refusals that come after a head, too
abbrev pub IsLate : Refusal → Type 0
IsLate r = IsEnd (refused_fields r false)

pub late_identity : IsLate NoIdentity
unfolding refused_fields trailer_fields percent_encoded digits
late_identity = (7, refl)

pub late_length : IsLate LongResponse
unfolding refused_fields trailer_fields percent_encoded digits
late_length = (8, refl)

pub late_service : IsLate UnknownService
unfolding refused_fields trailer_fields percent_encoded digits
late_service = (5, refl)

some_none : {n : ℕ} → Some n ≡ None → ⊥
some_none e = absurd (cc e)

none_some : {n : ℕ} → None ≡ Some n → ⊥
none_some e = absurd (cc e)

not_none : (n : ℕ) → 0 < n → Some n ≡ Some 0 → ⊥
not_none n some e = let same : n ≡ 0 = cc in absurd (omega (arith, some, same))

whole_says : (r : Refusal) → IsWhole (refused_fields r true)
unfolding refused_fields trailer_fields response_fields percent_encoded http_fault_of digits
whole_says BadMethod = (λ e. absurd (some_none e), not_none 405 (omega arith))
whole_says BadContent = (λ e. absurd (some_none e), not_none 415 (omega arith))
whole_says UnknownPath = (λ e. (12, refl), none_some)
whole_says Compressed = (λ e. (12, refl), none_some)
whole_says Insecure = (λ e. (3, refl), none_some)
whole_says Flag = (λ e. (13, refl), none_some)
whole_says LongRequest = (λ e. (8, refl), none_some)
whole_says Count = (λ e. (13, refl), none_some)
whole_says Undecodable = (λ e. (13, refl), none_some)
whole_says NoAudience = (λ e. (3, refl), none_some)
whole_says BadId = (λ e. (3, refl), none_some)
whole_says NoIdentity = (λ e. (7, refl), none_some)
whole_says LongResponse = (λ e. (8, refl), none_some)
whole_says Unsigned = (λ e. (14, refl), none_some)
whole_says Unattested = (λ e. (14, refl), none_some)
whole_says UnknownService = (λ e. (5, refl), none_some)

-- ---- blocks

-- the block of such a list, which a decoder takes
pub record BlockOf (P : List Header → Type 0) (block : List ℕ) : Type 0 where
  pub list : List Header
  pub bytes : block ≡ block_bytes list
  pub fits : list_size list ≤ MAX_LIST_SIZE
  pub right : P list

abbrev pub IsGood : Standing → Type 0
IsGood (Good table) = Unit {0}
IsGood (Broken fault) = ⊥

-- RFC 7541, section 6.3: a size update to 0 in front empties the table
update_read : (table : Table) (block : List ℕ) → block_of table (32 ∷ block) ≡ block_of (with_maximum table 0) block
unfolding headers_of block_in representation_at integer_at
update_read table block = refl

-- what a block gives after a size update, or without one
pub record Decoded (list : List Header) (r : Result (List Header) HpackFault × Standing) : Type 0 where
  pub found : r.0 ≡ Ok list
  pub goes_on : IsGood r.1

good_block : (table : Table) (u : TableSizeUpdate) (list : List Header) → list_size list ≤ MAX_LIST_SIZE → Decoded list (decode_block (Good table) (size_update_bytes u ++ block_bytes list))
good_block table Unasked list fits = rw (block_again list fits table) (record { found = refl; goes_on = tt })
good_block table Due list fits = rw (update_read table (block_bytes list), block_again list fits (with_maximum table 0)) (record { found = refl; goes_on = tt })
good_block table Written list fits = rw (block_again list fits table) (record { found = refl; goes_on = tt })

pub block_decoded : {P : List Header → Type 0} (d : Standing) (u : TableSizeUpdate) (block : List ℕ) → IsGood d → (b : BlockOf P block) → Decoded b.list (decode_block d (size_update_bytes u ++ block))
block_decoded (Good table) u block good b = rw b.bytes (good_block table u b.list b.fits)
block_decoded (Broken fault) u block good b = absurd good

pub head_block : BlockOf IsHead (block_bytes response_fields)
head_block = record { list = response_fields; bytes = refl; fits = small_head; right = head_says }

pub last_block : BlockOf IsEnd (block_bytes (trailer_fields 0 [] false))
last_block = record { list = trailer_fields 0 [] false; bytes = refl; fits = small_trailers; right = last_says }

pub late_block : (r : Refusal) → IsLate r → BlockOf IsEnd (block_bytes (refused_fields r false))
late_block r late = record { list = refused_fields r false; bytes = refl; fits = small_refusal r false; right = late }

pub whole_block : (r : Refusal) → BlockOf IsWhole (block_bytes (refused_fields r true))
whole_block r = record { list = refused_fields r true; bytes = refl; fits = small_refusal r true; right = whole_says r }
