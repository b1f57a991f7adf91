pub mod Ttls
