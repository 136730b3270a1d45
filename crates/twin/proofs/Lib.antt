pub mod FrontierLaws
pub mod LowersLaws
pub mod TwinLaws
