pub mod OneToOne
pub mod Arrays
pub mod Has
