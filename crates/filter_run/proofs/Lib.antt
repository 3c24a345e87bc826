pub mod ArrivalLemmas
mod CaptureLemmas
mod CapturesReportLemmas
mod EndLemmas
pub mod InTurnLemmas
mod LaneLemmas
pub mod LineLemmas
pub mod NumberLemmas
pub mod OneLemmas
pub mod OwnBatchLemmas
mod OwnLemmas
mod PartLemmas
pub mod OwnReportLemmas
pub mod OwnTellLemmas
pub mod ReportLemmas
pub mod RunLemmas
pub mod SaveLemmas
pub mod ShardedLemmas
mod TakeLemmas
pub mod TellLemmas
pub mod TurnLineLemmas
mod TurnReportLemmas
