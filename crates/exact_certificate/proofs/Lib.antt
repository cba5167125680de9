pub mod Collected
pub mod OneCertificate
