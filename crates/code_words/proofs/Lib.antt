pub mod WordsMean
pub mod MeantSays
