pub mod Given
pub mod Said
pub mod Words
pub mod WordReading
