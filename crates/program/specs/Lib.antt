pub mod Cut
pub mod OpeningPart
pub mod Rows
pub mod Frame
pub mod Printed
