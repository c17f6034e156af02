pub mod Carriers
pub mod Codes
pub mod AsciiLaws
pub mod UnicodeLaws
pub mod Tapes
