pub mod Senses
pub mod Look
