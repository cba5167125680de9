pub mod RootLaws
pub mod BoundLaws
pub mod RisingLaws
pub mod TableLaws
pub mod OrderLaws
pub mod ReadingLaws
pub mod WorkedLaws
