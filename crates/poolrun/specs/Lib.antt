pub mod Dialers
