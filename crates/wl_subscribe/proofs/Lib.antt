mod Common
mod Bundles
mod ByKey
mod EqualKeys
pub mod Filings
mod MemberNumbers
mod Reasons
