-- The steps on the page store and on a block that no bucket has.
pub mod Room
pub mod StoreHeld
pub mod PoolWords
pub mod PoolFrame
pub mod PoolLock
pub mod PoolLoad
pub mod PoolReturn
pub mod PoolTake
pub mod PoolCut
