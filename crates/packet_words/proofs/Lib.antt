pub mod TextLemmas
pub mod ViewLemmas
