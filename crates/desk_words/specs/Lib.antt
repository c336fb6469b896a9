pub mod Words
pub mod Numbers
pub mod Bytes
pub mod Lists
pub mod Puts
pub mod Tables
