mod Parting
mod Reading
mod Digits
pub mod Filling
mod Pairing
mod Listing
mod Handing
mod Signing
mod Spelt
pub mod Placing
