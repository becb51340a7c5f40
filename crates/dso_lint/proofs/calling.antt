-- Which methods calls mark, who calls each method, and from which methods calls lead to one that is marked.
pub mod MarkSteps
pub mod Calling
pub mod CallerSteps
pub mod Leading
