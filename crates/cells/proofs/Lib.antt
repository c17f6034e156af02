pub mod Items
pub mod Tables
pub mod BrailleAscii
pub mod Gaps
pub mod Copies
