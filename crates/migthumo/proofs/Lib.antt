pub mod Flat
pub mod Left
pub mod Told
pub mod Entries
pub mod Embeddings
pub mod Unique
pub mod TwoOutputs
