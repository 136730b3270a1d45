pub mod Drive
pub mod Prepared
