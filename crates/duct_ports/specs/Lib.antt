pub mod Faults
pub mod Reading
pub mod Writing
pub mod NamedFiles
pub mod OpenedPlace
pub mod Memory
pub mod FilesFields
pub mod SinkFields
