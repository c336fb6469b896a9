pub mod Packed
pub mod RoundTrip
