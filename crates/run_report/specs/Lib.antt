-- The words that are shown.
pub mod Shown
-- The text of a report.
pub mod Report
-- The text of a journal.
pub mod JournalLines
-- The text of a summary.
pub mod Summary
