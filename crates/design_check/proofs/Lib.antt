pub mod NumberSearch
pub mod SearchLaws
pub mod NamedLaws
pub mod FanLaws
pub mod AgreeLaws
pub mod YesLaws
pub mod ListedLaws
