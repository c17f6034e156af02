pub mod Ueb
pub mod House
pub mod Houses
