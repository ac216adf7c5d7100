pub mod Report
pub mod Score
pub mod Summary
pub mod Usage
