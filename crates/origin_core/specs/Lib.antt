pub mod ScriptedRequests
pub mod ScriptedAnswers
pub mod ScriptedOrigin
pub mod InnerLinks
pub mod InnerDialers
