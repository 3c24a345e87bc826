pub mod AddedTotals
pub mod OneReport
pub mod OwnRecordLemmas
pub mod PickedLists
pub mod OwnTestLemmas
