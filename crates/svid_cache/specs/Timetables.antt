-- What a timetable has, and which SVIDs it is about.
use Rattle.std.specs.Prelude.{ℕ, List}
use Rattle.wl_entry.specs.declared.asks.Ask.{Ask}
use Rattle.wl_entry.specs.declared.signing.Svid.{Svid}
use Rattle.svid_cache.specs.Caches.{Cached, IsCached}
use Rattle.svid_cache.specs.Queue.{Filed, NotBefore, NoneBelow, NoneEndsBefore, AllBegunBy}

-- the asks; a second for each block of 64 of them; the least of these; a second before which no SVID has expired; a
-- second at which all SVIDs have begun; the second since which an SVID has to be signed
pub record Times : Type 0 where
  pub asks : List Ask
  pub firsts : List ℕ
  pub next : ℕ
  pub end : ℕ
  pub begins : ℕ
  pub renew_before : ℕ

-- the asks and these SVIDs
abbrev pub cached_by : Times → List Svid → Cached
cached_by t svids = record { asks = t.asks; svids = svids; renew_before = t.renew_before }

-- It is about these SVIDs: they are kept for its asks; once all SVIDs have begun none of the asks is due before the second
-- of its block, nor before `next`; none of the SVIDs has expired before `end`; all have begun at `begins`.
pub record IsAbout (t : Times) (svids : List Svid) : Type 0 where
  pub cached : IsCached (cached_by t svids)
  pub filed : Filed (NotBefore t.renew_before svids) 64 t.firsts t.asks
  pub none_below : NoneBelow t.next t.firsts
  pub ends : NoneEndsBefore t.end svids
  pub begun : AllBegunBy t.begins svids
