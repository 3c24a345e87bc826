pub mod ChangeLemmas
pub mod ChangesToldLemmas
pub mod CompareLemmas
pub mod FileLemmas
pub mod MeetingLemmas
pub mod NumberLemmas
