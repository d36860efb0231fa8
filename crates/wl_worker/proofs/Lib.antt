mod Common
pub mod SignerAsks
pub mod Owners
pub mod ExpiredGone
pub mod Pulls
pub mod PublishedSteps
pub mod Growth
pub mod SeenPublications
pub mod Steps
pub mod WaitingAsks
pub mod RoundSteps
pub mod RoundTraces
pub mod TakenRounds
pub mod WholeRounds
pub mod RoundNumbers
pub mod LinkEnds
pub mod ConnectionRounds
pub mod Determinacy
pub mod SlotLinks
pub mod SeatParts
pub mod NumberedLinks
pub mod SeatLaws
pub mod StarvedLinks
pub mod SeatRounds
pub mod AllLinks
pub mod LinkParts
pub mod SeatPlaces
mod SentParts
mod CompleteEnds
