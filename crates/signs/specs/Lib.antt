pub mod Lists
pub mod Strings
pub mod Signs
pub mod Symbols
pub mod Tables
pub mod Listings
pub mod Laws
pub mod Known
