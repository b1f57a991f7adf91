pub mod Printed
pub mod Transfer
