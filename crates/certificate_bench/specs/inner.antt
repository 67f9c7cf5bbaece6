pub mod Cases
pub mod Certificates
pub mod Plans
pub mod Texts
pub mod Told
