-- What callers cite of the crates below.
pub use Rattle.cell_reports.specs as cell_reports
pub use Rattle.file_work.specs as file_work
-- Its own.
pub mod Beginnings
pub mod Outcomes
