pub mod Histories
pub mod Legal
pub mod Looks
pub mod Port
pub mod Reading
pub mod Replies
pub mod ReplyLaws
pub mod Working
