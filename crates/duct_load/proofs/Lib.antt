pub mod RangeLaws
mod NameLaws
mod TreeLaws
mod NetworkLaws
mod PlaceLaws
