pub mod Kernels
pub mod Apart
