pub mod PlainStreams
pub mod Streams
