pub mod RisingLaws
pub mod RateLaws
pub mod LossLaws
pub mod TableLaws
pub mod ReadingLaws
