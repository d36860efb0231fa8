-- What a document gives to those who ask for identities (own rules).
use Rattle.std.specs.Prelude.{◌≡◌, ℕ, List, Option, Some, None, option_map, Ok, Err, Result}
use Rattle.sorted_lists.specs.Keys.{item_at}
use Rattle.wl_entry.specs.declared.asks.Ask.{Ask}
use Rattle.wl_entry.specs.declared.signing.Signed.{Signed}
use Rattle.wl_document.specs.States.{State}
use Rattle.wl_document.specs.Svids.{doc_svid_key}
use Rattle.wl_document.specs.Documents.{document_state}
use Rattle.wl_document.specs.declared.fault.DocFault.{DocFault}

-- the identity that a state has for the entry of this id
unfoldable pub identity_in : List ℕ → State → Option Signed
identity_in id st = option_map (λ s. s.signed) (item_at doc_svid_key st.svids id)

-- some document says this state
pub record IsOfDocument (st : State) : Type 0 where
  pub document : List ℕ
  pub says : document_state None document ≡ Ok st

-- some document has this identity for the entry of the ask
pub record HasIdentity (ask : Ask) (signed : Signed) : Type 0 where
  pub state : State
  pub of_document : IsOfDocument state
  pub given : identity_in ask.entry_id state ≡ Some signed

-- a document's state, where it has no fault
abbrev pub state_by : Result State DocFault → Option State
state_by (Ok st) = Some st
state_by (Err fault) = None
