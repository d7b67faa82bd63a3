pub mod LeastLaws
pub mod LeastRules
