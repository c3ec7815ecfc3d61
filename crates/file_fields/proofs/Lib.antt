pub mod OneEnd
pub mod ReadFields
pub mod WholeFiles
pub mod NumberMeanings
pub mod FarEnds
