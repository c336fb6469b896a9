pub mod Answers
pub mod InThousandths
pub mod Refusals
pub mod Displaced
pub mod Calls
