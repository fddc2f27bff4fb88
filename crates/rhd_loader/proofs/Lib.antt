pub mod PlanRows
pub mod PlanTable
pub mod SaidLaws
pub mod ImportLaws
pub mod ImportGiven
pub mod ImportsMade
pub mod PlanAnswers
