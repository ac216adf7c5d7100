pub mod MadeReports
pub mod Outcomes
pub mod PartRead
pub mod ReadFrom
pub mod ShownLaws
pub mod Statuses
pub mod Written
