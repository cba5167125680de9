pub mod FittingLaws
pub mod VelocityLaws
