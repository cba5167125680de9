pub mod StepLaws
pub mod SequenceLaws
pub mod NameLaws
