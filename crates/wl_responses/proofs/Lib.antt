mod Common
pub mod Bytes
mod Sizes
pub mod OutboxStreams
mod StreamFlushes
pub mod Asides
mod WaitingAnswers
mod TurnsOnStreams
mod Frames
pub mod Peers
mod StreamReplies
mod OngoingCalls
pub mod Endings
pub mod Verdicts
mod PublicationOrder
mod ResponseTurns
mod CallSelectors
mod MessageCuts
pub mod MoveSteps
pub mod WindowWaits
pub mod TokenAsks
pub mod Runs
mod SessionMoves
pub mod AfterTurns
