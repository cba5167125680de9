pub mod OrderLaws
pub mod TreeLaws
pub mod SectionLists
pub mod WayLaws
pub mod FlowLaws
pub mod Below
pub mod Valid
