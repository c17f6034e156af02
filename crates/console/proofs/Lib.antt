pub mod HouseCodes
