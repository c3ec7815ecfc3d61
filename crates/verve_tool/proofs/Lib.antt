pub mod CauseLists
pub mod FilesRead
pub mod Endings
pub mod Exact
pub mod WordLemmas
pub mod Complaints
