pub mod EntryLaws
pub mod SoundLaws
pub mod FrameLaws
pub mod RuleLaws
pub mod GoingLaws
pub mod CheckLaws
