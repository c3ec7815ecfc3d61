pub mod FrameRows
pub mod FrameWalks
pub mod Layout
