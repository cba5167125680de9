pub mod NameForm
pub mod SideLaws
pub mod RuleLaws
pub mod Spelling
pub mod WholeLaws
pub mod CeilingLaws
pub mod PriceLaws
