pub mod Laid
pub mod Flights
pub mod Laws
