pub mod ArrayItems
pub mod KeyFields
