pub mod BetweenLaws
pub mod ProbingLaws
pub mod GoingLaws
