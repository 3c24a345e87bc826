pub mod AddingLemmas
pub mod DeciderLemmas
pub mod FindingLemmas
pub mod LimitLemmas
pub mod PairLemmas
pub mod ReportLemmas
pub mod RowLemmas
pub mod StartingLemmas
