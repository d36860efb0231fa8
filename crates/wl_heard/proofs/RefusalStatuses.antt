-- What a client reads of the header list that ends a call: the status of the ending, or of a refusal by HTTP.
use Rattle.std.proofs.Common.{◌≡◌, ◌⊎◌, inl, inr, ℕ, Bool, true, false, not, List, [], Some, None, refl, sym, ap, subst, ◌∙◌}
use Rattle.std.specs.Fmt.{digits}
use Rattle.wl_heard.proofs.Common.{Header, response_fields, trailer_fields, refused_fields, Refusal, NoIdentity, LongResponse, Unsigned, Unattested, UnknownService, Step, GoesOn, IsRefused, IsAnswered, call_stream, http_fault, grpc_code, Closes, ClosesCall}
use Rattle.grpc_wire.specs.Answers.{percent_encoded}
use Rattle.grpc_wire.specs.Refusals.{status_of, text_of, is_http_refusal}
use Rattle.grpc_wire.specs.declared.refusal.Refusal.TheVariants.{BadMethod, BadContent, UnknownPath, Compressed, Insecure, Flag, LongRequest, Count, Undecodable, NoAudience, BadId}
use Rattle.wl_responses.specs.Statuses.{Ending}
use Rattle.wl_client.specs.Statuses.{http_fault_of, grpc_text}
use Rattle.wl_heard.specs.Statuses.{WasGiven, HasStatus, IsHttpOfCall}

number_is : (a b : ℕ) → Some a ≡ Some b → b ≡ a
number_is a b e = let same : a ≡ b = cc in sym same

none_some : {P : Type 0} (b : ℕ) → None ≡ Some b → P
none_some b e = absurd (cc e)

-- ---- grpc-status and grpc-message

abbrev SaysStatus : Refusal → Bool → Type 0
SaysStatus r alone = (code : ℕ) → grpc_code (refused_fields r alone) ≡ Some code → (code ≡ status_of r) × (grpc_text (refused_fields r alone) ≡ percent_encoded (text_of r))

alone_says : (r : Refusal) → SaysStatus r true
unfolding refused_fields trailer_fields response_fields digits
alone_says BadMethod = λ code e. none_some code e
alone_says BadContent = λ code e. none_some code e
alone_says UnknownPath = λ code e. (number_is 12 code e, refl)
alone_says Compressed = λ code e. (number_is 12 code e, refl)
alone_says Insecure = λ code e. (number_is 3 code e, refl)
alone_says Flag = λ code e. (number_is 13 code e, refl)
alone_says LongRequest = λ code e. (number_is 8 code e, refl)
alone_says Count = λ code e. (number_is 13 code e, refl)
alone_says Undecodable = λ code e. (number_is 13 code e, refl)
alone_says NoAudience = λ code e. (number_is 3 code e, refl)
alone_says BadId = λ code e. (number_is 3 code e, refl)
alone_says NoIdentity = λ code e. (number_is 7 code e, refl)
alone_says LongResponse = λ code e. (number_is 8 code e, refl)
alone_says Unsigned = λ code e. (number_is 14 code e, refl)
alone_says Unattested = λ code e. (number_is 14 code e, refl)
alone_says UnknownService = λ code e. (number_is 5 code e, refl)

later_says : (r : Refusal) → SaysStatus r false
unfolding refused_fields trailer_fields digits
later_says BadMethod = λ code e. none_some code e
later_says BadContent = λ code e. none_some code e
later_says UnknownPath = λ code e. (number_is 12 code e, refl)
later_says Compressed = λ code e. (number_is 12 code e, refl)
later_says Insecure = λ code e. (number_is 3 code e, refl)
later_says Flag = λ code e. (number_is 13 code e, refl)
later_says LongRequest = λ code e. (number_is 8 code e, refl)
later_says Count = λ code e. (number_is 13 code e, refl)
later_says Undecodable = λ code e. (number_is 13 code e, refl)
later_says NoAudience = λ code e. (number_is 3 code e, refl)
later_says BadId = λ code e. (number_is 3 code e, refl)
later_says NoIdentity = λ code e. (number_is 7 code e, refl)
later_says LongResponse = λ code e. (number_is 8 code e, refl)
later_says Unsigned = λ code e. (number_is 14 code e, refl)
later_says Unattested = λ code e. (number_is 14 code e, refl)
later_says UnknownService = λ code e. (number_is 5 code e, refl)

refusal_says : (r : Refusal) (alone : Bool) → SaysStatus r alone
refusal_says r true = alone_says r
refusal_says r false = later_says r

last_says : (code : ℕ) → grpc_code (trailer_fields 0 [] false) ≡ Some code → (code ≡ 0) × (grpc_text (trailer_fields 0 [] false) ≡ [])
unfolding trailer_fields digits
last_says code e = (number_is 0 code e, refl)

pub status_is : (headed : Bool) (e : Ending) (fields : List Header) (code : ℕ) → Closes headed e fields → grpc_code fields ≡ Some code → HasStatus e code (grpc_text fields)
status_is headed GoesOn fields code closes is = absurd closes
status_is headed (IsRefused r) fields code closes is =
    let says = refusal_says r (not headed) code (subst (λ (hs : List Header). grpc_code hs ≡ Some code) closes is) in (says.0, ap grpc_text closes ∙ says.1)
status_is headed (IsAnswered m) fields code closes is =
    let says = last_says code (subst (λ (hs : List Header). grpc_code hs ≡ Some code) closes is) in (says.0, ap grpc_text closes ∙ says.1)

-- ---- :status

-- there is none in Trailers
abbrev SaysHttp : Refusal → Bool → Type 0
SaysHttp r alone = (number : ℕ) → http_fault (refused_fields r alone) ≡ Some number → (number ≡ 0) ⊎ ((is_http_refusal r ≡ true) × (number ≡ status_of r))

alone_http : (r : Refusal) → SaysHttp r true
unfolding refused_fields trailer_fields response_fields http_fault_of digits
alone_http BadMethod = λ number e. inr (refl, number_is 405 number e)
alone_http BadContent = λ number e. inr (refl, number_is 415 number e)
alone_http UnknownPath = λ number e. none_some number e
alone_http Compressed = λ number e. none_some number e
alone_http Insecure = λ number e. none_some number e
alone_http Flag = λ number e. none_some number e
alone_http LongRequest = λ number e. none_some number e
alone_http Count = λ number e. none_some number e
alone_http Undecodable = λ number e. none_some number e
alone_http NoAudience = λ number e. none_some number e
alone_http BadId = λ number e. none_some number e
alone_http NoIdentity = λ number e. none_some number e
alone_http LongResponse = λ number e. none_some number e
alone_http Unsigned = λ number e. none_some number e
alone_http Unattested = λ number e. none_some number e
alone_http UnknownService = λ number e. none_some number e

later_http : (r : Refusal) → SaysHttp r false
unfolding refused_fields trailer_fields http_fault_of digits
later_http BadMethod = λ number e. inr (refl, number_is 405 number e)
later_http BadContent = λ number e. inr (refl, number_is 415 number e)
later_http UnknownPath = λ number e. inl (number_is 0 number e)
later_http Compressed = λ number e. inl (number_is 0 number e)
later_http Insecure = λ number e. inl (number_is 0 number e)
later_http Flag = λ number e. inl (number_is 0 number e)
later_http LongRequest = λ number e. inl (number_is 0 number e)
later_http Count = λ number e. inl (number_is 0 number e)
later_http Undecodable = λ number e. inl (number_is 0 number e)
later_http NoAudience = λ number e. inl (number_is 0 number e)
later_http BadId = λ number e. inl (number_is 0 number e)
later_http NoIdentity = λ number e. inl (number_is 0 number e)
later_http LongResponse = λ number e. inl (number_is 0 number e)
later_http Unsigned = λ number e. inl (number_is 0 number e)
later_http Unattested = λ number e. inl (number_is 0 number e)
later_http UnknownService = λ number e. inl (number_is 0 number e)

refusal_http : (r : Refusal) (alone : Bool) → SaysHttp r alone
refusal_http r true = alone_http r
refusal_http r false = later_http r

last_http : (number : ℕ) → http_fault (trailer_fields 0 [] false) ≡ Some number → number ≡ 0
unfolding trailer_fields http_fault_of digits
last_http number e = number_is 0 number e

pub head_is : http_fault response_fields ≡ None
unfolding response_fields http_fault_of
head_is = refl

pub http_is : (steps : List Step) (fields : List Header) (number : ℕ) → ClosesCall call_stream steps fields → http_fault fields ≡ Some number → (number ≡ 0) ⊎ IsHttpOfCall steps number
http_is steps fields number h is = go h.ending h.given h.closes
  where
    go : (e : Ending) → WasGiven call_stream h.headed e steps → Closes h.headed e fields → (number ≡ 0) ⊎ IsHttpOfCall steps number
    go GoesOn given closes = absurd closes
    go (IsAnswered m) given closes = inl (last_http number (subst (λ (hs : List Header). http_fault hs ≡ Some number) closes is))
    go (IsRefused r) given closes = either (refusal_http r (not h.headed) number (subst (λ (hs : List Header). http_fault hs ≡ Some number) closes is))
      where
        either : (number ≡ 0) ⊎ ((is_http_refusal r ≡ true) × (number ≡ status_of r)) → (number ≡ 0) ⊎ IsHttpOfCall steps number
        either (inl zero_is) = inl zero_is
        either (inr http) = inr (record { headed = h.headed; refusal = r; given = given; by_http = http.0; is = http.1 })
