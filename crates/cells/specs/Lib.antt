pub mod Lists
pub mod Cells
pub mod Places
pub mod Refusals
pub mod Pressing
