pub mod Digits
pub mod CodeLines
pub mod FunctionLines
pub mod EveryByte
