pub mod Laws
pub mod Filling
pub mod Ends
pub mod Arrived
pub mod Opened
pub mod Lines
