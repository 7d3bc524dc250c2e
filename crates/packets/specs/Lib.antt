-- What a reader must believe of the packets, file by file. Assumes nothing.
pub mod Header
pub mod PatternPacket
pub mod DocumentPacket
pub mod inner
