pub mod Tree
pub mod Network
pub mod Designs
pub mod Order
pub mod Airflow
pub mod Dampers
pub mod Balance
pub mod DesignText
