-- Facts about registers.
pub mod RegisterLaws
