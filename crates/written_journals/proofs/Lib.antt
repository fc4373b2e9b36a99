mod NumbersBack
pub mod Blocks
mod DescriptorsBack
mod Parts
mod ChunksRead
mod RevokesRead
mod AllRead
pub mod Going
pub mod RingsWritten
pub mod HeadWritten
pub mod HeadFound
pub mod NoHeads
pub mod LiveAfter
pub mod Sorted
pub mod LowSequences
mod Assembled
mod Anew
