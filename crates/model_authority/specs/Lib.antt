pub mod Lists
pub mod Statuses
pub mod WayLaws
pub mod Ways
