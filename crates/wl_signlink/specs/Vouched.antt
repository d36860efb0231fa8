-- By what the answers of a signer are vouched for (own rules): a line that was read as the answer to this very ask.
use Rattle.std.specs.Prelude.{◌≡◌, ◌<◌, ℕ, List, true, false, Ok}
use Rattle.wl_entry.specs.declared.asks.Ask.{Ask}
use Rattle.wl_entry.specs.declared.signing.Signed.{Signed}
use Rattle.wl_entry.specs.declared.tokens.JwtToken.{JwtToken}
use Rattle.wl_selector.specs.Selectors.{sorted_texts}
use Rattle.wl_signlink.specs.Requests.{are_texts, is_text_ask}
use Rattle.wl_signlink.specs.Replies.{signed_of, token_of}
use Rattle.wl_signlink.specs.Exchanges.{has_newline}

-- The ask could be written, and one line gives the identity as the reply to the ask with its number.
pub record RepliedSigned (ask : Ask) (signed : Signed) : Type 0 where
  pub number : ℕ
  pub line : List ℕ
  pub counted : 0 < number
  pub writable : is_text_ask ask ≡ true
  pub one : has_newline line ≡ false
  pub gives : signed_of number line ≡ Ok signed

-- The same of a token. It was asked for with audiences that are these once they are sorted, each once.
pub record RepliedToken (ask : Ask) (audience : List (List ℕ)) (token : JwtToken) : Type 0 where
  pub number : ℕ
  pub asked : List (List ℕ)
  pub line : List ℕ
  pub counted : 0 < number
  pub writable : is_text_ask ask ≡ true
  pub texts : are_texts asked ≡ true
  pub sorted : sorted_texts asked ≡ audience
  pub one : has_newline line ≡ false
  pub gives : token_of number line ≡ Ok token
