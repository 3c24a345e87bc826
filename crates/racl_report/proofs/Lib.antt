pub mod CaptureLaws
pub mod InterfaceLaws
pub mod NamedCaptures
pub mod ReadInputLemmas
