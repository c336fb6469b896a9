pub mod OrdersAtHand
pub mod SideFreed
