pub mod InPlace
pub mod DescriptorBack
pub mod HeaderBack
pub mod BestHeaders
pub mod CrcFits
pub mod HeadersBack
pub mod SamePlaces
