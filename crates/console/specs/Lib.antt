pub mod Converting
pub mod Showing
pub mod Words
pub mod HouseWords
