pub mod FanRow
pub mod Energy
pub mod Fans
pub mod FansIndex
pub mod Reading
