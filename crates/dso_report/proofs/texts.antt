-- How a report's texts are put together, that each is there where nothing is missing, and that a state has one report.
pub mod Appends
pub mod HasText
pub mod ThreadLines
pub mod ValueTexts
pub mod ObjectTexts
pub mod ReportTexts
pub mod OneReport
pub mod LeftOut
