pub mod PlainWindow
pub mod StandsFor
