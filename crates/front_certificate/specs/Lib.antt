pub mod Certificates
pub mod CertificateText
pub mod Reading
pub mod Sound
pub mod Tests
