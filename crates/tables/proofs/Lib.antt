pub mod Clears
pub mod Checking
pub mod UebRows
pub mod Laid
