pub mod Told
pub mod Asking
pub mod Seeing
pub mod Naming
pub mod Superseding
pub mod Drawing
pub mod Rising
