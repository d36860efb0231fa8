-- What each request is answered (own rules: docs/OPERATING.md has the pages).
use Rattle.std.specs.Prelude.{ℕ, Bool, ◌&&◌, ◌||◌, List, [], ◌∷◌, codes, if◌then◌else◌, true, false}
use Rattle.std.specs.Str.{bytes_eq}
use Rattle.http.specs.declared.request.Request.{Request}
use Rattle.http.specs.Request.{head_of}
use Rattle.http_uri.specs.Uri.{uri_path}
use Rattle.http1.specs.Fields.{Header}
use Rattle.figures.specs.declared.figures.Figures.{Figures}
use Rattle.figures.specs.declared.health.Health.{Health}
use Rattle.figures.specs.Page.{page}
use Rattle.figures.specs.Health.{is_ready, live_text, ready_text}
use Rattle.status_pages.specs.declared.pages.Asked.{Asked}
use Rattle.status_pages.specs.declared.pages.Asked.TheVariants.{Metrics, Live, Ready, Stop, NoPage, NoMethod, NoPost}

-- GET and HEAD read a page (RFC 9110, sections 9.3.1 and 9.3.2)
unfoldable pub read_by : List ℕ → Asked → Asked
read_by method page = if bytes_eq method (codes "GET") || bytes_eq method (codes "HEAD") then page else NoMethod

-- POST asks for the processing of what it names (RFC 9110, section 9.3.3)
unfoldable pub posted_by : List ℕ → Asked
posted_by method = if bytes_eq method (codes "POST") then Stop else NoPost

-- what a method asks of a path; a stop is a page only where the pages take one
unfoldable pub page_named : Bool → List ℕ → List ℕ → Asked
page_named takes_stop method path =
    if bytes_eq path (codes "/metrics") then read_by method Metrics
    else if bytes_eq path (codes "/live") then read_by method Live
    else if bytes_eq path (codes "/ready") then read_by method Ready
    else if takes_stop && bytes_eq path (codes "/stop") then posted_by method
    else NoPage

-- what a request asks for
abbrev pub asked_by : Bool → Request (List ℕ) → Asked
asked_by takes_stop r = page_named takes_stop (head_of r).method (uri_path (head_of r).uri)

-- the request asks for a stop
abbrev pub asks_for_stop : Asked → Bool
asks_for_stop Stop = true
asks_for_stop Metrics = false
asks_for_stop Live = false
asks_for_stop Ready = false
asks_for_stop NoPage = false
asks_for_stop NoMethod = false
asks_for_stop NoPost = false

-- RFC 9110, section 15; a stop was accepted, and is not done yet
unfoldable pub status_of : Health → Asked → ℕ
status_of h Metrics = 200
status_of h Live = if h.is_live then 200 else 503
status_of h Ready = if is_ready h then 200 else 503
status_of h Stop = 202
status_of h NoPage = 404
status_of h NoMethod = 405
status_of h NoPost = 405

unfoldable pub body_text : Figures → Health → Asked → List ℕ
body_text f h Metrics = page f
body_text f h Live = live_text h.is_live
body_text f h Ready = ready_text h
body_text f h Stop = codes "stopping\n"
body_text f h NoPage = codes "no such page\n"
body_text f h NoMethod = codes "pages are read by GET and HEAD alone\n"
body_text f h NoPost = codes "a stop is asked for by POST alone\n"

-- the methods of what a request asks for
unfoldable pub methods_of : Asked → List ℕ
methods_of Stop = codes "POST"
methods_of NoPost = codes "POST"
methods_of Metrics = codes "GET, HEAD"
methods_of Live = codes "GET, HEAD"
methods_of Ready = codes "GET, HEAD"
methods_of NoPage = codes "GET, HEAD"
methods_of NoMethod = codes "GET, HEAD"

-- the fields of each answer: its kind, that nothing follows on this connection, and which methods there are (RFC 9110, section 10.2.1; 405 has to say it)
unfoldable pub answer_fields : Asked → List Header
answer_fields asked = (codes "content-type", codes "text/plain; version=0.0.4; charset=utf-8") ∷ (codes "connection", codes "close") ∷ (codes "allow", methods_of asked) ∷ []
