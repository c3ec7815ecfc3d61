pub mod NoRoots
