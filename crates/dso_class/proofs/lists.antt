-- Plain lists: items with their numbers, lists side by side and in a row, counts of a front, what is among others.
pub mod NumberedItems
pub mod SideBySide
pub mod CountedFronts
pub mod FirstOnes
pub mod Among
pub mod Joined
