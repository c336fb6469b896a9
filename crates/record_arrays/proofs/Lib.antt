pub mod Held
pub mod AsItStands
pub mod Relaying
pub mod OneRow
pub mod Apart
