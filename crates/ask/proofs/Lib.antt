pub mod OutputLaws
pub mod TransferLaws
