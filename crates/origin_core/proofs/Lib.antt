pub mod Numbers
pub mod BodySizes
pub mod Wholes
pub mod Origins
pub mod InnerLinks
