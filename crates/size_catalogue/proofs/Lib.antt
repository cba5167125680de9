pub mod PlaceLaws
pub mod NumberLaws
pub mod CatalogueLaws
pub mod ReadingLaws
