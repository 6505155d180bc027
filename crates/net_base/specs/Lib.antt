pub mod Dressing
pub mod Equality
pub mod Hosts
pub mod Identities
pub mod Methods
pub mod Origins
pub mod Requests
pub mod Results
