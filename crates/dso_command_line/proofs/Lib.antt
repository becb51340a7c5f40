pub mod reading_words
