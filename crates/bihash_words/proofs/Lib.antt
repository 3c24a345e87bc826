pub mod BlockLemmas
pub mod CallLemmas
pub mod KeyOrders
pub mod MapLemmas
pub mod MapValues
pub mod RunLemmas
pub mod SetLemmas
pub mod SpareLemmas
