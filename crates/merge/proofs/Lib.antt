pub mod ListsLaws
pub mod KeysLaws
pub mod DueLaws
pub mod TallyLaws
pub mod EveryLaws
