pub mod ColumnLemmas
pub mod NumberLemmas
pub mod RangeLemmas
pub mod RowLemmas
pub mod RuleLemmas
pub mod SieveLemmas
pub mod TurnLemmas
