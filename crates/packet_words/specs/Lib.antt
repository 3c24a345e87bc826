pub mod PacketTexts
pub mod PacketWords
pub mod VerdictKinds
pub mod inner
