pub mod Request
pub mod Places
pub mod Put
pub mod Keys
pub mod Every
