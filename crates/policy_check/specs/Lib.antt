pub mod Complaints
pub mod ForExpand
pub mod Foreign
pub mod Reasons
pub mod Remarks
pub mod SameHost
pub mod TextKinds
pub mod inner
