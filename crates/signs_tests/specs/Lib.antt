pub mod Broken
pub mod Small
