mod Common
mod Sentences
mod NoQuestionMarks
mod NamedFaults
mod Steps
mod NamedDocuments
mod NamedConfigs
