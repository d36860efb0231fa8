mod Common
pub mod WideCounts
pub mod StoreSteps
pub mod TokenKeeps
pub mod CallAnswers
pub mod Rooms
pub mod Readiness
pub mod MarkLaws
pub mod AfterEvents
pub mod WorldEvents
pub mod Transcripts
pub mod SessionTraces
