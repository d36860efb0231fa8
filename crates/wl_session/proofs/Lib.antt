mod Common
pub mod ItemSequences
pub mod Agreements
pub mod ReadyCalls
mod TurnSequences
pub mod CallWalk
pub mod PhaseWalk
pub mod SessionFacts
pub mod ViewFacts
mod Views
pub mod KeptViews
pub mod Sizes
mod FramedMessages
mod FedBytes
pub mod TurnPublications
mod Refusals
pub mod Streams
mod Orders
mod TurnAnswers
pub mod PeerAnswers
pub mod Attestations
pub mod WithoutSelectors
pub mod Traces
