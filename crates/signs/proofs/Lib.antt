pub mod Lists
pub mod Laws
pub mod Apart
pub mod Letters
pub mod Strings
pub mod Tables
pub mod Sets
