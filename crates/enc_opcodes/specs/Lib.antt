pub mod Table
pub mod Opcodes
pub mod Laws
pub mod Body
pub mod Clause
pub mod Instruction
pub mod Example
pub mod Sound
