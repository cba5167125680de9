pub mod TreeLists
pub mod TreeFields
pub mod CarriedFlows
