pub mod Answers
pub mod Conditions
pub mod ConstantLaws
pub mod Constants
pub mod Laws
pub mod Operands
